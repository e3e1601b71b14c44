use Rattle.std.proofs.Common.{◌≡◌, ℕ, ◌+◌, ◌*◌, ◌<◌, Bool, List, [], ◌∷◌, ◌++◌, Ok, refl, sym, subst, arith, length}
use Rattle.std.proofs.lemmas.Result.{err_from_is_err_and}
use Rattle.tag_bits.specs.Digits.{digits_of_bytes}
use Rattle.llrp_schema.specs.Schema.{groups_of, set_of_kind}
use Rattle.llrp_tree.specs.Tree.{Forest}
use Rattle.llrp_tree.specs.Spelling.{tlv, tv}
use Rattle.llrp_tree.specs.OpenTree.{Begun}
use Rattle.llrp_tree.specs.Calls.Standing.{leading}
use Rattle.llrp_stream.specs.declared.engine.stack.Child.{Child}
use Rattle.llrp_stream.specs.Calls.Front.{Reaches, IsUndecided}
use Rattle.llrp_stream.specs.Calls.Reading.{HasReadTo, settled, Told}
use Rattle.llrp_stream.specs.Private.Reading.{HeadSays, HeadFails}
use Rattle.llrp_stream.specs.declared.engine.body_reader.Stage.{Stage}
use Rattle.llrp_schema.specs.declared.kinds.ParamKind.{ParamKind}
use Rattle.llrp_stream.specs.declared.engine.stack.Child.TheVariants as child
use Rattle.llrp_stream.proofs.Bounds.{stop_within}
use Rattle.llrp_stream.proofs.ChildPart.{outer_length, head_tells, short_reaches, long_reaches, child_undecided}
use Rattle.llrp_stream.proofs.FaultTrees.{head_no_text}
use Rattle.llrp_stream.proofs.MoreOctets.{fails_with}
use Rattle.llrp_stream.proofs.SeenLemmas.{seen_are}
use Rattle.llrp_stream.specs.declared.engine.body_reader.Stage.TheVariants as stage
use Rattle.llrp_stream.proofs.engine.body_reader.BodyReader.begin.Goals as goal

within_frame : (r : Rattle.llrp_stream.specs.declared.engine.body_reader.BodyReader.BodyReader) (front : List ℕ) (b : Begun) (outer : List Begun) → HasReadTo r front b outer → (n : ℕ) → 8 * r.at + 8 * n < 8 * r.top.stop → r.at + n < r.octets
within_frame r front b outer rd n lt = let s = stop_within r front b outer rd in omega arith

pub returns-in_err-child : goal.returns-in_err-child
returns-in_err-child g c = λ was front b outer rd told d.
    let p = err_from_is_err_and c.from_residual.result c.from_residual.ensures.1 in
    let few = outer_length c.args.self.now front b outer rd c.requires.stage in
    let is : c.len.result + 1 ≡ length outer + 1 = omega (arith, few, c.len.ensures.value) in
    rw (p.1, p.2) (fails_with _ _ c.args.self.now front b outer c.in_err-child.field-0.0 rd (head_tells c.args.self.now front b outer rd c.requires.stage c.args.octets.now d c.requires.room c.requires.long c.in_err-child.field-0.0
    (λ later. subst (λ (n : ℕ). HeadFails (set_of_kind c.args.self.now.top.kind) (groups_of c.args.self.now.top.kind) b.children n (8 * c.args.self.now.at) (8 * c.args.self.now.top.stop) (digits_of_bytes c.args.octets.now ++ later) c.in_err-child.field-0.0) is (c.in_err-child.ensures.says b.children later (seen_are c.args.self.now front b outer rd))) c.in_err-child.ensures.there) _ c.requires.stage told (head_no_text _ _ _ _ _ _ _ _ (c.in_err-child.ensures.says b.children [] (seen_are c.args.self.now front b outer rd))))

says : (r : Rattle.llrp_stream.specs.declared.engine.body_reader.BodyReader.BodyReader) (os : List ℕ) (later : List Bool) (lv : ℕ) (cs : Forest) (x y : Child) → x ≡ y
    → HeadSays (set_of_kind r.top.kind) (groups_of r.top.kind) cs lv (8 * r.at) (8 * r.top.stop) (digits_of_bytes os ++ later) os (Ok x) → HeadSays (set_of_kind r.top.kind) (groups_of r.top.kind) cs lv (8 * r.at) (8 * r.top.stop) (digits_of_bytes os ++ later) os (Ok y)
says r os later lv cs x y e h = subst (λ (z : Child). HeadSays (set_of_kind r.top.kind) (groups_of r.top.kind) cs lv (8 * r.at) (8 * r.top.stop) (digits_of_bytes os ++ later) os (Ok z)) e h

told_of : (r : Rattle.llrp_stream.specs.declared.engine.body_reader.BodyReader.BodyReader) (front : List ℕ) (b : Begun) (outer : List Begun) (rd : HasReadTo r front b outer) → r.stage ≡ stage.Children → length (b ∷ outer) ≡ length r.outer.items + 1
told_of r front b outer rd s = let few = outer_length r front b outer rd s in omega (arith, few)

pub enter-requires-clause-told : goal.enter-requires-clause-told
enter-requires-clause-told g c = let w = c.requires.some in (w.4, w.1 ∷ w.2, w.5, told_of c.args.self.now w.0 w.1 w.2 w.3 c.requires.stage)

pub enter-requires-in-Long-clause-told : goal.enter-requires-in-Long-clause-told
enter-requires-in-Long-clause-told g c = let w = c.requires.some in (w.4, w.1 ∷ w.2, w.5, told_of c.args.self.now w.0 w.1 w.2 w.3 c.requires.stage)

pub enter-requires-clause-few : goal.enter-requires-clause-few
enter-requires-clause-few g c =
    let w = c.requires.some in
    let h = says c.args.self.now c.args.octets.now [] (c.len.result + 1) w.1.children c.in_ok-child.child (child.Short c.in-Short.placed) c.in-Short.is (c.in_ok-child.ensures.says w.1.children [] (seen_are c.args.self.now w.0 w.1 w.2 w.3)) in
    omega (arith, h.3.deep, c.len.ensures.value)

pub overflow_cast-size : goal.overflow_cast-size
overflow_cast-size g c =
    let w = c.requires.some in
    let h = says c.args.self.now c.args.octets.now [] (c.len.result + 1) w.1.children c.in_ok-child.child (child.Long c.in-Long.placed c.in-Long.size) c.in-Long.is (c.in_ok-child.ensures.says w.1.children [] (seen_are c.args.self.now w.0 w.1 w.2 w.3)) in
    omega (arith, h.3.most, c.requires.stop)

pub overflow_add-self : goal.overflow_add-self
overflow_add-self g c =
    let w = c.requires.some in
    let h = says c.args.self.now c.args.octets.now [] (c.len.result + 1) w.1.children c.in_ok-child.child (child.Long c.in-Long.placed c.in-Long.size) c.in-Long.is (c.in_ok-child.ensures.says w.1.children [] (seen_are c.args.self.now w.0 w.1 w.2 w.3)) in
    omega (arith, h.3.most, c.requires.stop)

pub enter-requires-in-Long-clause-few : goal.enter-requires-in-Long-clause-few
enter-requires-in-Long-clause-few g c =
    let w = c.requires.some in
    let h = says c.args.self.now c.args.octets.now [] (c.len.result + 1) w.1.children c.in_ok-child.child (child.Long c.in-Long.placed c.in-Long.size) c.in-Long.is (c.in_ok-child.ensures.says w.1.children [] (seen_are c.args.self.now w.0 w.1 w.2 w.3)) in
    omega (arith, h.3.placed.deep, c.len.ensures.value)

pub enter-requires-in-Long-clause-fits : goal.enter-requires-in-Long-clause-fits
enter-requires-in-Long-clause-fits g c =
    let w = c.requires.some in
    let h = says c.args.self.now c.args.octets.now [] (c.len.result + 1) w.1.children c.in_ok-child.child (child.Long c.in-Long.placed c.in-Long.size) c.in-Long.is (c.in_ok-child.ensures.says w.1.children [] (seen_are c.args.self.now w.0 w.1 w.2 w.3)) in
    omega (arith, h.3.room, c.requires.stop)

pub returns-in-Unfinished : goal.returns-in-Unfinished
returns-in-Unfinished g c = λ was front b outer rd told d.
    let r = c.args.self.now in
    let f = λ (later : List Bool). says r c.args.octets.now later (c.len.result + 1) b.children c.in_ok-child.child child.Unfinished c.in-Unfinished.is (c.in_ok-child.ensures.says b.children later (seen_are r front b outer rd)) in
    let h = f [] in
    record {
      few = omega (arith, h.0);
      are = record { node = b; outer = outer; reads = rd; told = subst (λ (x : Stage). Told (g.L.Listener.begins c.args.listener.now was) (g.L.Listener.stands c.args.listener.now was) x (b ∷ outer)) (sym c.requires.stage) told };
      place = refl;
      same = refl;
      set = refl;
      short = within_frame r front b outer rd (length c.args.octets.now) h.1;
      undecided = subst (λ (x : Stage). IsUndecided front r.octets (settled x b ∷ outer)) (sym c.requires.stage)
          (child_undecided r front b outer rd c.requires.stage c.args.octets.now d c.requires.room c.requires.long h.0 h.2 (λ later. (f later).3));
    }

pub returns-in-Short : goal.returns-in-Short
returns-in-Short g c = λ was front b outer rd told d.
    let r = c.args.self.now in
    let few = outer_length r front b outer rd c.requires.stage in
    let is : c.len.result + 1 ≡ length outer + 1 = omega (arith, few, c.len.ensures.value) in
    let f = λ (later : List Bool). says r c.args.octets.now later (length outer + 1) b.children c.in_ok-child.child (child.Short c.in-Short.placed) c.in-Short.is (subst (λ (n : ℕ). HeadSays (set_of_kind r.top.kind) (groups_of r.top.kind) b.children n (8 * r.at) (8 * r.top.stop) (digits_of_bytes c.args.octets.now ++ later) c.args.octets.now (Ok c.in_ok-child.child)) is (c.in_ok-child.ensures.says b.children later (seen_are r front b outer rd))) in
    let k : ParamKind = c.in-Short.placed.kind in
    let rc = short_reaches r front b outer rd c.requires.stage c.args.octets.now d c.requires.room c.requires.long k (f []).0 (λ later. ((f later).2, (f later).3)) in
    let place : 8 * r.at + 8 ≡ 8 * (r.at + 1) = omega arith in
    let rc2 = subst (λ (n : ℕ). Reaches r.set front r.octets (leading (tv k) n [] ∷ b ∷ outer) (8 * r.at + 8)) rd.level.stop rc in
    c.enter.ensures.steps c.args.octets.now was front b outer (tv k) rd told d refl (f []).4 (subst (λ (n : ℕ). Reaches r.set front r.octets (leading (tv k) (8 * r.top.stop) [] ∷ b ∷ outer) n) place rc2) (f []).0

pub returns-in-Long : goal.returns-in-Long
returns-in-Long g c = λ was front b outer rd told d.
    let r = c.args.self.now in
    let few = outer_length r front b outer rd c.requires.stage in
    let is : c.len.result + 1 ≡ length outer + 1 = omega (arith, few, c.len.ensures.value) in
    let k : ParamKind = c.in-Long.placed.kind in
    let n : ℕ = c.in-Long.size in
    let f = λ (later : List Bool). says r c.args.octets.now later (length outer + 1) b.children c.in_ok-child.child (child.Long c.in-Long.placed c.in-Long.size) c.in-Long.is (subst (λ (m : ℕ). HeadSays (set_of_kind r.top.kind) (groups_of r.top.kind) b.children m (8 * r.at) (8 * r.top.stop) (digits_of_bytes c.args.octets.now ++ later) c.args.octets.now (Ok c.in_ok-child.child)) is (c.in_ok-child.ensures.says b.children later (seen_are r front b outer rd))) in
    let rc = long_reaches r front b outer rd c.requires.stage c.args.octets.now d c.requires.room c.requires.long k n (f []).0 (λ later. (f later).3) in
    let place : 8 * r.at + 32 ≡ 8 * (r.at + 4) = omega arith in
    let end : 8 * r.at + 8 * n ≡ 8 * (r.at + n) = omega arith in
    let rc2 = subst (λ (m : ℕ). Reaches r.set front r.octets (leading (tlv k n) m [] ∷ b ∷ outer) (8 * r.at + 32)) end rc in
    c.enter-in-Long.ensures.steps c.args.octets.now was front b outer (tlv k n) rd told d refl (f []).4 (subst (λ (m : ℕ). Reaches r.set front r.octets (leading (tlv k n) (8 * (r.at + n)) [] ∷ b ∷ outer) m) place rc2) (f []).0
