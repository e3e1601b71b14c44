use Rattle.std.proofs.Common.{◌≡◌, ℕ, ◌+◌, ◌-◌, ◌≤◌, true, false, List, [], ◌∷◌, ◌++◌, length, take, Some, refl, sym, ap, subst, ◌∙◌, arith, length-drop}
use Rattle.std.specs.Prelude.{min, unwrap_or}
use Rattle.std.proofs.lemmas.List.{length-take-le}
use Rattle.llrp_schema.specs.declared.kinds.Tail.{Tail}
use Rattle.llrp_schema.specs.declared.kinds.Tail.TheVariants.{Text}
use Rattle.llrp_schema.specs.Schema.{tail_of}
use Rattle.llrp_tree.specs.Tree.{none}
use Rattle.llrp_tree.specs.OpenTree.{Begun, form, groups, has_tail}
use Rattle.llrp_tree.specs.Calls.Standing.{begin_node}
use Rattle.llrp_tree.specs.declared.fault.FrameErr.{FrameErr}
use Rattle.llrp_tree.proofs.OctetLemmas.{are_octets}
use Rattle.llrp_stream.specs.declared.engine.body_reader.BodyReader.{BodyReader}
use Rattle.llrp_stream.specs.declared.engine.body_reader.Stage.{Stage}
use Rattle.llrp_stream.specs.declared.engine.body_reader.Stage.TheVariants as stage
use Rattle.llrp_stream.specs.Private.Front.{IsOfText, TellsFor}
use Rattle.llrp_stream.specs.Calls.Front.{IsUndecided}
use Rattle.llrp_stream.specs.Calls.Received.{AreWhole}
use Rattle.llrp_stream.specs.Private.Tails.{HasWhole}
use Rattle.llrp_stream.specs.Calls.Reading.{AreSeen, IsAtStage, IsTailing, settled, Told}
use Rattle.llrp_stream.specs.Private.Reading.{rank}
use Rattle.llrp_stream.proofs.Bounds.{stop_within}
use Rattle.llrp_stream.proofs.MoreOctets.{fails_with}
use Rattle.llrp_stream.proofs.TailPart.{far_of, used_within, piece_whole, tail_undecided, is_in_tail, text_tells, went_on, waits_few, more_work}
use Rattle.llrp_stream.proofs.engine.body_reader.BodyReader.more_tail.Goals as goal

pub split_at-requires : goal.split_at-requires
split_at-requires g c = omega (arith, c.min.ensures)

pub whole_front-used-requires : goal.whole_front-used-requires
whole_front-used-requires g c =
    let w = c.requires.some in
    let t : IsTailing c.args.left c.args.self.now w.0 w.1 w.2 = subst (λ (x : Stage). IsAtStage x c.args.self.now w.0 w.1 w.2) c.requires.stage w.3.stage in
    record { has = ap has_tail (c.tail-form.ensures ∙ ap tail_of (sym w.3.level.kind)) ∙ t.has }

pub overflow_mul-self : goal.overflow_mul-self
overflow_mul-self g c =
    let w = c.requires.some in
    let t : IsTailing c.args.left c.args.self.now w.0 w.1 w.2 = subst (λ (x : Stage). IsAtStage x c.args.self.now w.0 w.1 w.2) c.requires.stage w.3.stage in
    let inside = t.inside in
    let s = stop_within c.args.self.now w.0 w.1 w.2 w.3 in
    let stop = w.3.level.stop in
    let small = w.3.small in
    omega (arith, inside, s, stop, small)

pub returns-then-faulty : goal.returns-then-faulty
returns-then-faulty g c = λ was front b outer rd told d.
    let r : BodyReader = c.args.self.now in
    let t : IsTailing c.args.left r front b outer = subst (λ (x : Stage). IsAtStage x r front b outer) c.requires.stage rd.stage in
    let near : List ℕ = c.split_at.result.0.now in
    let faulty : c.is_faulty-faulty.result ≡ true = cc (c.if-faulty.true) in
    let zero : c.whole_front-used.result ≡ 0 = omega (arith, c.if-used-eq0.true) in
    let text : c.tail-form.result ≡ Text = c.is_faulty-faulty.ensures.text faulty in
    let shape : form b ≡ Text = ap tail_of rd.level.kind ∙ sym c.tail-form.ensures ∙ text in
    let near_is : near ≡ take (min (length c.args.octets.now) c.args.left) c.args.octets.now = c.split_at.ensures.front ∙ ap (λ (k : ℕ). take k c.args.octets.now) c.min.ensures in
    let h : HasWhole Text near 0 = subst (λ (n : ℕ). HasWhole Text near n) zero (subst (λ (x : Tail). HasWhole x near c.whole_front-used.result) text c.whole_front-used.ensures) in
    let tells : TellsFor r.set (b ∷ outer) front r.octets c.bad.result = subst (λ (e : FrameErr). TellsFor r.set (b ∷ outer) front r.octets e) (sym c.bad.ensures)
    (text_tells c.args.left r front b outer t c.args.octets.now near d (are_octets c.args.octets.now (λ i. c.type_inv.octets i)) near_is shape c.requires.some_left (sym h) (far_of (length near) c.args.left (c.is_faulty-faulty.ensures.many faulty))) in
    fails_with (g.L.Listener.begins c.args.listener.now was) (g.L.Listener.stands c.args.listener.now was) r front b outer c.bad.result rd tells _ c.requires.stage told (subst (λ (e : FrameErr). IsOfText e) (sym c.bad.ensures) refl)

pub returns-then-used-eq0 : goal.returns-then-used-eq0
returns-then-used-eq0 g c = λ was front b outer rd told d.
    let r : BodyReader = c.args.self.now in
    let t : IsTailing c.args.left r front b outer = subst (λ (x : Stage). IsAtStage x r front b outer) c.requires.stage rd.stage in
    let near : List ℕ = c.split_at.result.0.now in
    let fine : c.is_faulty-faulty.result ≡ false = cc (c.if-faulty.false) in
    let zero : c.whole_front-used.result ≡ 0 = omega (arith, c.if-used-eq0.true) in
    let shape : form b ≡ c.tail-form.result = ap tail_of rd.level.kind ∙ sym c.tail-form.ensures in
    let near_is : near ≡ take (min (length c.args.octets.now) c.args.left) c.args.octets.now = c.split_at.ensures.front ∙ ap (λ (k : ℕ). take k c.args.octets.now) c.min.ensures in
    let long : length near ≡ min (length c.args.octets.now) c.args.left = ap (λ (x : List ℕ). length x) near_is ∙ length-take-le (min (length c.args.octets.now) c.args.left) c.args.octets.now (omega arith) in
    let h : HasWhole (form b) near 0 = subst (λ (n : ℕ). HasWhole (form b) near n) zero (subst (λ (x : Tail). HasWhole x near c.whole_front-used.result) (sym shape) c.whole_front-used.ensures) in
    let few = waits_few c.args.left r front b outer t c.args.octets.now near near_is h c.requires.some_left (λ e. let k = c.is_faulty-faulty.ensures.few fine (sym shape ∙ e) in let m = c.is_faulty-faulty.ensures.more fine (sym shape ∙ e) in (omega (arith, m, long), k)) in
    let lo : length c.args.octets.now ≡ length front - r.at = sym (ap (λ (x : List ℕ). length x) d) ∙ length-drop r.at front in
    let le = t.before in
    let inside = t.inside in
    let s = stop_within r front b outer rd in
    let stop = rd.level.stop in
    let u : IsUndecided front r.octets (settled (stage.Tail c.args.left) b ∷ outer) = tail_undecided c.args.left r front b outer t (omega (arith, lo, le, few.0)) in
    record {
      few = omega (arith, few.1);
      are = record { node = b; outer = outer; reads = rd; told = subst (λ (x : Stage). Told (g.L.Listener.begins c.args.listener.now was) (g.L.Listener.stands c.args.listener.now was) x (b ∷ outer)) (sym c.requires.stage) told };
      place = refl;
      same = refl;
      set = refl;
      short = omega (arith, few.0, inside, s, stop);
      undecided = subst (λ (x : Stage). IsUndecided front r.octets (settled x b ∷ outer)) (sym c.requires.stage) u;
    }

pub split_at-requires-2 : goal.split_at-requires-2
split_at-requires-2 g c = used_within c.tail-form.result c.split_at.result.0.now c.whole_front-used.result c.whole_front-used.ensures

pub octets-requires : goal.octets-requires
octets-requires g c = subst (λ (x : List ℕ). AreWhole c.tail-form.result x) (sym c.split_at-2.ensures.front) (piece_whole c.tail-form.result c.split_at.result.0.now c.whole_front-used.result c.whole_front-used.ensures)

used_few : (f : Tail) (near os : List ℕ) (used k left : ℕ) → HasWhole f near used → near ≡ take k os → k ≡ min (length os) left → (used ≤ length os) × (used ≤ left)
used_few f near os used k left h e m =
    let a = used_within f near used h in
    let l : length near ≡ k = ap (λ (x : List ℕ). length x) e ∙ length-take-le k os (omega (arith, m)) in
    (omega (arith, a, l, m), omega (arith, a, l, m))

pub overflow_sub-self : goal.overflow_sub-self
overflow_sub-self g c = (used_few c.tail-form.result c.split_at.result.0.now c.args.octets.now c.whole_front-used.result c.min.result c.args.left c.whole_front-used.ensures c.split_at.ensures.front c.min.ensures).1

pub overflow_cast-self-2 : goal.overflow_cast-self-2
overflow_cast-self-2 g c = let f = used_few c.tail-form.result c.split_at.result.0.now c.args.octets.now c.whole_front-used.result c.min.result c.args.left c.whole_front-used.ensures c.split_at.ensures.front c.min.ensures in omega (arith, f.1, c.ranges.left.fits)

pub overflow_cast-self-3 : goal.overflow_cast-self-3
overflow_cast-self-3 g c = let f = used_few c.tail-form.result c.split_at.result.0.now c.args.octets.now c.whole_front-used.result c.min.result c.args.left c.whole_front-used.ensures c.split_at.ensures.front c.min.ensures in omega (arith, f.1, c.ranges.left.fits)

pub overflow_add-self : goal.overflow_add-self
overflow_add-self g c =
    let f = used_few c.tail-form.result c.split_at.result.0.now c.args.octets.now c.whole_front-used.result c.min.result c.args.left c.whole_front-used.ensures c.split_at.ensures.front c.min.ensures in
    let w = c.requires.some in
    let t : IsTailing c.args.left c.args.self.now w.0 w.1 w.2 = subst (λ (x : Stage). IsAtStage x c.args.self.now w.0 w.1 w.2) c.requires.stage w.3.stage in
    let inside = t.inside in
    let s = stop_within c.args.self.now w.0 w.1 w.2 w.3 in
    let stop = w.3.level.stop in
    let small = w.3.small in
    omega (arith, f.1, inside, s, stop, small)

pub returns : goal.returns
returns g c = λ was front b outer rd told d.
    let r : BodyReader = c.args.self.now in
    let t : IsTailing c.args.left r front b outer = subst (λ (x : Stage). IsAtStage x r front b outer) c.requires.stage rd.stage in
    let near : List ℕ = c.split_at.result.0.now in
    let used : ℕ = c.whole_front-used.result in
    let shape : form b ≡ c.tail-form.result = ap tail_of rd.level.kind ∙ sym c.tail-form.ensures in
    let near_is : near ≡ take (min (length c.args.octets.now) c.args.left) c.args.octets.now = c.split_at.ensures.front ∙ ap (λ (k : ℕ). take k c.args.octets.now) c.min.ensures in
    let h : HasWhole (form b) near used = subst (λ (x : Tail). HasWhole x near used) (sym shape) c.whole_front-used.ensures in
    let f = used_few c.tail-form.result near c.args.octets.now used c.min.result c.args.left c.whole_front-used.ensures c.split_at.ensures.front c.min.ensures in
    let one : 1 ≤ used = omega (arith, c.if-used-eq0.false) in
    let lo : length c.args.octets.now ≡ length front - r.at = sym (ap (λ (x : List ℕ). length x) d) ∙ length-drop r.at front in
    let le = t.before in
    let piece : List ℕ = take used near in
    let now : BodyReader = record { set = r.set; octets = r.octets; at = r.at + used; bit = r.bit; first = r.first; stage = stage.Tail (c.args.left - used); top = r.top; outer = r.outer } in
    record {
      within = f.0;
      are = record {
        node = begin_node b.head b.stop b.fields (Some (t.so_far ++ piece)) none;
        outer = outer;
        reads = record {
          level = record { kind = rd.level.kind; stop = rd.level.stop; seen = subst (λ (x : Begun). AreSeen (groups x) x.children r.top.seen.bits) t.is rd.level.seen };
          levels = rd.levels;
          stage = went_on c.args.left r front b outer t c.args.octets.now near now used d (are_octets c.args.octets.now (λ i. c.type_inv.octets i)) near_is h refl refl refl refl;
          before = omega (arith, lo, le, f.0);
          small = rd.small;
          bit_small = rd.bit_small;
        };
        told = subst (λ (x : Begun). g.L.Listener.begins c.octets.new.self was (begin_node x.head x.stop x.fields (Some (unwrap_or x.tail [] ++ piece)) x.children ∷ outer)) t.is
            (subst (λ (x : List ℕ). g.L.Listener.begins c.octets.new.self was (begin_node b.head b.stop b.fields (Some (unwrap_or b.tail [] ++ x)) b.children ∷ outer)) c.split_at-2.ensures.front (c.in_ok-octets.ensures was (b ∷ outer) told (is_in_tail c.args.left r front b outer t c.tail-form.result shape)));
      };
      place = refl;
      same = refl;
      set = refl;
      less = more_work r now (length c.args.octets.now) used one f.0 t.aligned t.aligned refl (sym (ap rank c.requires.stage));
    }
