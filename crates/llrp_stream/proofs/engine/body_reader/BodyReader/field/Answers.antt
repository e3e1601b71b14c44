use Rattle.std.proofs.Common.{◌≡◌, ℕ, ◌+◌, ◌-◌, ◌*◌, ◌/◌, ◌%◌, ◌≤◌, ◌<◌, List, [], ◌∷◌, ◌++◌, sym, ap, ◌∙◌, subst, refl, arith, length-drop, length-append, length}
use Rattle.std.proofs.lemmas.Result.{err_from_is_err_and}
use Rattle.llrp_tree.specs.OpenTree.{Begun, groups}
use Rattle.llrp_tree.specs.Calls.Standing.{begin_node, leading}
use Rattle.llrp_schema.specs.Calls.Schema.{field_rule}
use Rattle.llrp_stream.specs.Calls.Front.{Reaches, IsUndecided}
use Rattle.arrayvec.specs.ArrayVec.{ArrayVec}
use Rattle.llrp_stream.specs.declared.engine.stack.StackNode.{StackNode}
use Rattle.llrp_stream.specs.declared.engine.body_reader.BodyReader.{BodyReader}
use Rattle.llrp_stream.specs.Calls.Reading.{AreSeen, settled, Told}
use Rattle.llrp_stream.specs.Private.Reading.{rank, work}
use Rattle.llrp_stream.specs.declared.engine.body_reader.Stage.{Stage}
use Rattle.llrp_stream.proofs.Bounds.{stop_within}
use Rattle.llrp_stream.proofs.FieldPart.{short_fails, staged, field_all_tell, field_reaches, field_undecided, is_next_field}
use Rattle.llrp_stream.proofs.MoreOctets.{fails_with}
use Rattle.llrp_stream.proofs.engine.body_reader.BodyReader.field.Goals as goal

field_work : (r n : BodyReader) (left w : ℕ) → 1 ≤ w → r.bit + w ≤ 8 * left → n.bit ≡ (r.bit + w) % 8 → n.outer ≡ r.outer → rank n.stage ≡ rank r.stage → work n (left - (r.bit + w) / 8) < work r left
unfolding work
field_work r n left w one fit b o s = let e = ap (λ (x : ArrayVec StackNode). length x.items) o in omega arith

pub returns-then-stop-at : goal.returns-then-stop-at
returns-then-stop-at g c = λ was front b outer others rd told d nx.
    fails_with _ _ c.args.self.now front b outer c.bad.result rd (field_all_tell c.args.self.now front b outer c.args.octets.now c.args.next (field_rule c.args.rule.now) others rd c.requires.stage d nx c.bad.result
    (λ later. short_fails (field_rule c.args.rule.now) _ _ _ c.bad.result (omega (arith, c.if-stop-at.true)) c.bad.ensures) (λ room. absurd (omega (arith, c.if-stop-at.true, room)))) _ c.requires.stage told tt

pub returns-in_err-value : goal.returns-in_err-value
returns-in_err-value g c = λ was front b outer others rd told d nx.
    let p = err_from_is_err_and c.from_residual.result c.from_residual.ensures.1 in
    rw (p.1, p.2) (fails_with _ _ c.args.self.now front b outer c.in_err-value.field-0.0 rd (field_all_tell c.args.self.now front b outer c.args.octets.now c.args.next (field_rule c.args.rule.now) others rd c.requires.stage d nx c.in_err-value.field-0.0 (λ later. c.in_err-value.ensures later) (λ room. omega (arith, c.if-octets-div_ceil.false, c.div_ceil.ensures))) _ c.requires.stage told tt)

pub field-requires-clause-some : goal.field-requires-clause-some
field-requires-clause-some g c =
    let w = c.requires.reads in
    let n = c.requires.rule in
    (w.4, w.1 ∷ w.2, w.5, is_next_field c.args.self.now w.0 w.1 w.2 c.args.octets.now c.args.next (field_rule c.args.rule.now) n.0 w.3 c.requires.stage w.6 n.1)

pub field-requires-clause-fits : goal.field-requires-clause-fits
field-requires-clause-fits g c = (c.in_ok-value.ensures []).2

pub returns : goal.returns
returns g c = λ was front b outer others rd told d nx.
    let s = staged c.args.self.now front b outer c.args.octets.now c.args.next (field_rule c.args.rule.now) others rd c.requires.stage d nx in
    let w : ℕ = c.args.rule.now.width in
    let v : ℕ = c.in_ok-value.value in
    let lo : length c.args.octets.now ≡ length front - c.args.self.now.at = sym (ap (λ (x : List ℕ). length x) d) ∙ length-drop c.args.self.now.at front in
    let room : 8 * c.args.self.now.at + c.args.self.now.bit + w ≤ 8 * c.args.self.now.top.stop = omega (arith, c.if-stop-at.false, c.requires.before) in
    let enough : c.args.self.now.bit + w ≤ 8 * length c.args.octets.now = omega (arith, c.if-octets-div_ceil.false, c.div_ceil.ensures) in
    let rf = field_reaches c.args.self.now front b outer c.args.octets.now c.args.next (field_rule c.args.rule.now) others rd c.requires.stage d nx v room enough (λ later. (c.in_ok-value.ensures later).0) (c.in_ok-value.ensures []).1 in
    let place : 8 * c.args.self.now.at + c.args.self.now.bit + w ≡ 8 * (c.args.self.now.at + (c.args.self.now.bit + w) / 8) + (c.args.self.now.bit + w) % 8 = omega arith in
    record {
      within = omega arith;
      are = record {
        node = leading b.head b.stop (b.fields ++ v ∷ []);
        outer = outer;
        reads = record {
          level = record { kind = rd.level.kind; stop = rd.level.stop; seen = subst (λ (x : Begun). AreSeen (groups x) x.children c.args.self.now.top.seen.bits) s.bare rd.level.seen };
          levels = rd.levels;
          stage = record { bare = refl; count = length-append b.fields (v ∷ []) ∙ ap (λ (n : ℕ). n + 1) s.count; first_is = c.first_of-self.ensures b.fields s.count s.first_is; reaches = subst (λ (n : ℕ). Reaches c.args.self.now.set front c.args.self.now.octets (leading b.head b.stop (b.fields ++ v ∷ []) ∷ outer) n) place rf };
          before = omega arith;
          small = rd.small;
          bit_small = omega arith;
        };
        told = subst (λ (x : Begun). g.L.Listener.begins c.field.new.self was (begin_node x.head x.stop (x.fields ++ v ∷ []) x.tail x.children ∷ outer)) s.bare (c.in_ok-field.ensures was (b ∷ outer) told (is_next_field c.args.self.now front b outer c.args.octets.now c.args.next (field_rule c.args.rule.now) others rd c.requires.stage d nx));
      };
      place = refl;
      same = refl;
      set = refl;
      less = field_work c.args.self.now _ (length c.args.octets.now) w c.requires.some enough refl refl (ap rank (sym c.requires.stage));
    }

pub returns-then-octets-div_ceil : goal.returns-then-octets-div_ceil
returns-then-octets-div_ceil g c = λ was front b outer others rd told d nx.
    let s = stop_within c.args.self.now front b outer rd in
    let stage_told = subst (λ (x : Stage). Told (g.L.Listener.begins c.args.listener.now was) (g.L.Listener.stands c.args.listener.now was) x (b ∷ outer)) (sym c.requires.stage) told in
    record {
      few = omega (arith, c.if-octets-div_ceil.true, c.div_ceil.ensures, c.requires.bit, c.requires.narrow);
      are = record { node = b; outer = outer; reads = rd; told = stage_told };
      place = refl;
      same = refl;
      set = refl;
      short = omega (arith, s, c.if-octets-div_ceil.true, c.div_ceil.ensures, c.if-stop-at.false, c.requires.before);
      undecided = subst (λ (x : Stage). IsUndecided front c.args.self.now.octets (settled x b ∷ outer)) (sym c.requires.stage)
          (field_undecided c.args.self.now front b outer c.args.octets.now c.args.next (field_rule c.args.rule.now) others rd c.requires.stage d nx (omega (arith, c.if-stop-at.false, c.requires.before)) (omega (arith, c.if-octets-div_ceil.true, c.div_ceil.ensures)));
    }
