use Rattle.std.proofs.Common.{◌≡◌, ℕ, ◌+◌, ◌-◌, ◌*◌, ◌<◌, ◌≤◌, List, [], ◌∷◌, refl, sym, ap, ◌∙◌, subst, arith, length-drop, length}
use Rattle.std.proofs.lemmas.List.{length-reverse}
use Rattle.std.specs.Prelude.{reverse}
use Rattle.llrp_schema.specs.declared.kinds.Kind.{Kind}
use Rattle.llrp_schema.specs.Schema.{groups_of}
use Rattle.llrp_tree.specs.Tree.{none}
use Rattle.llrp_tree.specs.OpenTree.{kind_of_head}
use Rattle.llrp_tree.specs.Calls.Standing.{leading}
use Rattle.llrp_stream.specs.declared.engine.stack.StackNode.{StackNode}
use Rattle.llrp_stream.specs.Calls.Front.{Reaches}
use Rattle.llrp_stream.specs.Calls.Reading.{AreSeen, with_begun, AreLevels, IsLevel}
use Rattle.llrp_stream.specs.declared.engine.body_reader.BodyReader.{BodyReader}
use Rattle.llrp_stream.specs.declared.engine.body_reader.Stage.{Stage}
use Rattle.llrp_stream.specs.declared.engine.body_reader.Stage.TheVariants as stage
use Rattle.llrp_stream.specs.Private.Reading.{rank, work}
use Rattle.llrp_stream.proofs.ChildPart.{levels_length, pushed}
use Rattle.llrp_stream.proofs.engine.body_reader.BodyReader.enter.Goals as goal

some_rank : (s : Stage) → 1 ≤ rank s
some_rank (stage.Leading n) = omega arith
some_rank (stage.Tail n) = omega arith
some_rank stage.Children = omega arith

enter_work : (r n : BodyReader) (left used : ℕ) → 1 ≤ used → used ≤ left → r.bit ≡ 0 → n.bit ≡ r.bit → length n.outer.items ≡ length r.outer.items + 1 → n.stage ≡ stage.Leading 0 → work n (left - used) < work r left
unfolding work
enter_work r n left used one fit z b o s = let e = ap rank s in let m = some_rank r.stage in omega arith

pub parameter-requires-clause-some : goal.parameter-requires-clause-some
parameter-requires-clause-some g c = let w = c.requires.told in (w.0, w.1, w.2, omega (arith, w.3, c.len.ensures.value))

pub returns-clause-steps : goal.returns-clause-steps
returns-clause-steps g c = λ octets was front b outer h rd told d k placed rc used.
    let lo : length octets ≡ length front - c.args.self.now.at = sym (ap (λ (x : List ℕ). length x) d) ∙ length-drop c.args.self.now.at front in
    let deep : length c.args.self.now.outer.items ≡ length outer = sym (length-reverse c.args.self.now.outer.items) ∙ levels_length (reverse c.args.self.now.outer.items) (kind_of_head b.head) outer rd.levels in
    let place : 8 * (c.args.self.now.at + c.args.used) ≡ 8 * (c.args.self.now.at + c.args.used) + c.args.self.now.bit = omega (arith, c.requires.aligned) in
    let parent : StackNode = record { kind = c.args.self.now.top.kind; stop = c.args.self.now.top.stop; seen = c.args.child.seen } in
    let is_parent : IsLevel parent b (with_begun b.children (kind_of_head h)) = record {
      kind = rd.level.kind;
      stop = rd.level.stop;
      seen = subst (λ (x : Kind). AreSeen (groups_of x) (with_begun b.children (kind_of_head h)) c.args.child.seen.bits) (sym rd.level.kind) (subst (λ (x : Kind). AreSeen (groups_of c.args.self.now.top.kind) (with_begun b.children x) c.args.child.seen.bits) (sym k) placed);
    } in
    record {
      within = used;
      are = record {
        node = leading h (8 * c.args.stop) [];
        outer = b ∷ outer;
        reads = record {
          level = record { kind = k ∙ sym c.begun-self.ensures.kind; stop = ap (λ (n : ℕ). 8 * n) (sym c.begun-self.ensures.stop); seen = subst (λ (x : Kind). AreSeen (groups_of x) none c.begun-self.result.seen.bits) (sym k) c.begun-self.ensures.seen };
          levels = subst (λ (x : List StackNode). AreLevels (reverse x) (kind_of_head h) (b ∷ outer)) (sym c.push.ensures.items) (pushed c.args.self.now.outer.items parent (kind_of_head h) b outer is_parent rd.levels);
          stage = record { bare = refl; count = refl; first_is = refl; reaches = subst (λ (n : ℕ). Reaches c.args.self.now.set front c.args.self.now.octets (leading h (8 * c.args.stop) [] ∷ b ∷ outer) n) place rc };
          before = omega (arith, rd.before);
          small = rd.small;
          bit_small = omega (arith, c.requires.aligned);
        };
        told = c.in_ok-parameter.ensures was (b ∷ outer) h told (omega (arith, c.len.ensures.value)) k rc.is_open;
      };
      place = refl;
      same = refl;
      set = refl;
      less = enter_work c.args.self.now _ (length octets) c.args.used c.requires.some used c.requires.aligned refl c.push.ensures.len refl;
    }
