use Rattle.std.proofs.Common.{◌≡◌, ◌≢◌, ℕ, ◌+◌, ◌-◌, ◌*◌, ◌<◌, ◌≤◌, Bool, List, [], ◌∷◌, ◌++◌, length, Option, Some, None, Ok, refl, sym, ap, subst, ◌∙◌, arith, length-drop}
use Rattle.std.specs.Prelude.{unwrap_or}
use Rattle.std.proofs.lemmas.Result.{err_from_is_err_and}
use Rattle.llrp_schema.specs.declared.kinds.Tail.{Tail}
use Rattle.llrp_schema.specs.declared.kinds.Tail.TheVariants.{Bits, Data}
use Rattle.llrp_schema.specs.Schema.{fields_of}
use Rattle.llrp_tree.specs.Tree.{none}
use Rattle.llrp_tree.specs.Lawful.{count_octets}
use Rattle.llrp_tree.specs.OpenTree.{Begun, rules, groups, plain_values}
use Rattle.llrp_tree.specs.Calls.Standing.{begin_node}
use Rattle.llrp_tree.specs.declared.fault.FrameErr.{FrameErr}
use Rattle.llrp_stream.specs.declared.engine.body_reader.BodyReader.{BodyReader}
use Rattle.llrp_stream.specs.declared.engine.body_reader.Stage.{Stage}
use Rattle.llrp_stream.specs.declared.engine.body_reader.Stage.TheVariants as stage
use Rattle.tag_bits.specs.Digits.{digits_of_bytes}
use Rattle.llrp_tree.specs.FirstFault.{tail_length}
use Rattle.llrp_stream.specs.declared.engine.tail.TailSize.{TailSize}
use Rattle.llrp_stream.specs.Private.Tails.{CountSays}
use Rattle.llrp_stream.specs.Calls.Reading.{AreSeen, Told}
use Rattle.llrp_stream.specs.Private.Reading.{rank}
use Rattle.llrp_stream.proofs.Bounds.{before_stop, stop_within}
use Rattle.llrp_stream.proofs.MoreOctets.{fails_with}
use Rattle.llrp_stream.proofs.TailPart.{led, after_two, known, is_before_tail, count_tells, count_undecided, tail_begun, tail_work}
use Rattle.llrp_stream.proofs.engine.body_reader.BodyReader.begin_tail.Goals as goal

none_says : (shape : Tail) (fields : List ℕ) (at stop : ℕ) (rest : List Bool) (octets : List ℕ) (o : Option TailSize) → o ≡ None → CountSays shape fields at stop rest octets (Ok o) → (length octets < 2) × (shape ≢ Bits) × (shape ≢ Data) × (at + 16 ≤ stop)
none_says shape fields at stop rest octets o e h = subst (λ (x : Option TailSize). CountSays shape fields at stop rest octets (Ok x)) e h

some_says : (shape : Tail) (fields : List ℕ) (at stop : ℕ) (rest : List Bool) (octets : List ℕ) (o : Option TailSize) (c : TailSize) → o ≡ Some c → CountSays shape fields at stop rest octets (Ok o) → (c.count ≡ count_octets shape) × (c.count ≤ length octets) × (c.octets ≡ tail_length shape fields (stop - at) rest) × (at + 8 * (c.count + c.octets) ≤ stop)
some_says shape fields at stop rest octets o c e h = subst (λ (x : Option TailSize). CountSays shape fields at stop rest octets (Ok x)) e h

pub counted-requires-clause-after : goal.counted-requires-clause-after
counted-requires-clause-after g c = let w = c.requires.some in after_two c.args.self.now w.0 w.1 w.2 c.args.form w.3 c.requires.stage c.requires.form c.requires.has

pub counted-requires-clause-before : goal.counted-requires-clause-before
counted-requires-clause-before g c = let w = c.requires.some in let p = before_stop c.args.self.now w.0 w.1 w.2 (length (fields_of c.args.self.now.top.kind)) w.3 c.requires.stage in omega (arith, p)

pub counted-requires-clause-small : goal.counted-requires-clause-small
counted-requires-clause-small g c = c.requires.stop

pub counted-requires-clause-has : goal.counted-requires-clause-has
counted-requires-clause-has g c = c.requires.has

pub returns-in_err-found : goal.returns-in_err-found
returns-in_err-found g c = λ was front b outer rd told d.
    let r : BodyReader = c.args.self.now in
    let p = err_from_is_err_and c.from_residual.result c.from_residual.ensures.1 in
    let e : FrameErr = c.in_err-found.field-0.0 in
    let k = known r front b outer c.args.form rd c.requires.stage c.requires.form c.requires.has in
    rw (p.1, p.2) (fails_with (g.L.Listener.begins c.args.listener.now was) (g.L.Listener.stands c.args.listener.now was) r front b outer e rd
    (count_tells r front b outer c.args.form rd c.requires.stage c.requires.form c.requires.has c.args.octets.now e d (λ later. c.in_err-found.ensures.says (plain_values (rules b) b.fields) later k) c.in_err-found.ensures.there) _ c.requires.stage told tt)

pub returns-in_default : goal.returns-in_default
returns-in_default g c = λ was front b outer rd told d.
    let r : BodyReader = c.args.self.now in
    let fields : List ℕ = plain_values (rules b) b.fields in
    let k = known r front b outer c.args.form rd c.requires.stage c.requires.form c.requires.has in
    let is : c.in_ok-found.found ≡ None = c.in_default.is in
    let h = none_says c.args.form fields (8 * r.at) (8 * r.top.stop) (digits_of_bytes c.args.octets.now ++ []) c.args.octets.now c.in_ok-found.found is (c.in_ok-found.ensures.says fields [] k) in
    let s = stop_within r front b outer rd in
    record {
      few = omega (arith, h.0);
      are = record { node = b; outer = outer; reads = rd; told = subst (λ (x : Stage). Told (g.L.Listener.begins c.args.listener.now was) (g.L.Listener.stands c.args.listener.now was) x (b ∷ outer)) (sym c.requires.stage) told };
      place = refl;
      same = refl;
      set = refl;
      short = omega (arith, h.0, h.3, s);
      undecided = count_undecided r front b outer c.args.form rd c.requires.stage c.requires.form c.requires.has c.args.octets.now d h.1 h.2 h.3 h.0;
    }

pub overflow_add-self : goal.overflow_add-self
overflow_add-self g c =
    let w = c.requires.some in
    let r : BodyReader = c.args.self.now in
    let fields : List ℕ = plain_values (rules w.1) w.1.fields in
    let k = known r w.0 w.1 w.2 c.args.form w.3 c.requires.stage c.requires.form c.requires.has in
    let h = some_says c.args.form fields (8 * r.at) (8 * r.top.stop) (digits_of_bytes c.args.octets.now ++ []) c.args.octets.now c.in_ok-found.found c.in-Some.size c.in-Some.is (c.in_ok-found.ensures.says fields [] k) in
    omega (arith, h.3, c.requires.stop)

pub overflow_cast-result : goal.overflow_cast-result
overflow_cast-result g c =
    let w = c.requires.some in
    let r : BodyReader = c.args.self.now in
    let fields : List ℕ = plain_values (rules w.1) w.1.fields in
    let k = known r w.0 w.1 w.2 c.args.form w.3 c.requires.stage c.requires.form c.requires.has in
    let h = some_says c.args.form fields (8 * r.at) (8 * r.top.stop) (digits_of_bytes c.args.octets.now ++ []) c.args.octets.now c.in_ok-found.found c.in-Some.size c.in-Some.is (c.in_ok-found.ensures.says fields [] k) in
    omega (arith, h.3, c.requires.stop)

pub returns : goal.returns
returns g c = λ was front b outer rd told d.
    let r : BodyReader = c.args.self.now in
    let fields : List ℕ = plain_values (rules b) b.fields in
    let k = known r front b outer c.args.form rd c.requires.stage c.requires.form c.requires.has in
    let f = λ (later : List Bool). some_says c.args.form fields (8 * r.at) (8 * r.top.stop) (digits_of_bytes c.args.octets.now ++ later) c.args.octets.now c.in_ok-found.found c.in-Some.size c.in-Some.is (c.in_ok-found.ensures.says fields later k) in
    let h = f [] in
    let count : ℕ = c.in-Some.size.count in
    let left : ℕ = c.in-Some.size.octets in
    let l = led r front b outer c.args.form rd c.requires.stage c.requires.form c.requires.has in
    let lo : length c.args.octets.now ≡ length front - r.at = sym (ap (λ (x : List ℕ). length x) d) ∙ length-drop r.at front in
    let le = rd.before in
    let now : BodyReader = record { set = r.set; octets = r.octets; at = r.at + count; bit = r.bit; first = r.first; stage = stage.Tail left; top = r.top; outer = r.outer } in
    record {
      within = h.1;
      are = record {
        node = begin_node b.head b.stop b.fields (Some []) none;
        outer = outer;
        reads = record {
          level = record { kind = rd.level.kind; stop = rd.level.stop; seen = subst (λ (x : Begun). AreSeen (groups x) x.children r.top.seen.bits) l.bare rd.level.seen };
          levels = rd.levels;
          stage = tail_begun r front b outer c.args.form rd c.requires.stage c.requires.form c.requires.has c.args.octets.now now count left d refl refl refl refl h.0 h.1 h.3 (λ later. (f later).2);
          before = omega (arith, lo, le, h.1);
          small = rd.small;
          bit_small = rd.bit_small;
        };
        told = subst (λ (x : Begun). g.L.Listener.begins c.tail.new.self was (begin_node x.head x.stop x.fields (Some (unwrap_or x.tail [] ++ [])) x.children ∷ outer)) l.bare
            (c.in_ok-tail.ensures was (b ∷ outer) told (is_before_tail r front b outer c.args.form rd c.requires.stage c.requires.form c.requires.has));
      };
      place = refl;
      same = refl;
      set = refl;
      less = tail_work r now (length c.args.octets.now) count refl refl (let q = ap rank c.requires.stage in omega (arith, q));
    }
