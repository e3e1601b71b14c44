use Rattle.std.proofs.Common.{◌≡◌, inl, inr, ℕ, ◌+◌, ◌*◌, List, [], ◌∷◌, Ok, refl, ap, subst, arith, drop}
use Rattle.std.proofs.lemmas.Result.{err_from_is_err_and}
use Rattle.llrp_tree.specs.Spelling.{tlv}
use Rattle.llrp_tree.specs.Calls.Standing.{leading}
use Rattle.llrp_stream.specs.declared.engine.stack.StackNode.{StackNode}
use Rattle.llrp_stream.specs.declared.engine.body_reader.BodyReader.{BodyReader}
use Rattle.llrp_stream.specs.declared.engine.body_reader.Stage.{Stage}
use Rattle.llrp_stream.specs.declared.engine.body_reader.Step.{Step}
use Rattle.llrp_stream.specs.Calls.Front.{Reaches}
use Rattle.llrp_stream.specs.Private.Reading.{Moves, Steps}
use Rattle.llrp_stream.specs.Calls.Reading.{Told}
use Rattle.llrp_stream.proofs.BareLemmas.{fails_here, seen_at, known_says, says_long, moved_twice}
use Rattle.llrp_stream.proofs.ChildPart.{head_tells, outer_length, long_reaches}
use Rattle.llrp_stream.proofs.FaultTrees.{head_no_text}
use Rattle.llrp_stream.proofs.MoreOctets.{behind_on, fails_with}
use Rattle.llrp_stream.proofs.engine.body_reader.BodyReader.begin_bare.Goals as goal

pub known_head-requires-clause-some : goal.known_head-requires-clause-some
known_head-requires-clause-some g c =
    let w = c.requires.some in
    (w.1.children, seen_at c.args.self.now w.0 w.1 w.2 w.3 c.args.parent c.requires.parent)

pub overflow_cast-stop : goal.overflow_cast-stop
overflow_cast-stop g c =
    let w = c.requires.some in
    let h = (known_says c.args.self.now c.args.parent 1 c.args.octets.now c.args.kind c.in_ok-found.found _ c.in_ok-found.ensures.says c.in-Some.is) w.1.children [] (seen_at c.args.self.now w.0 w.1 w.2 w.3 c.args.parent c.requires.parent) in
    omega (arith, h.3.most, c.requires.stop)

pub overflow_add-stop : goal.overflow_add-stop
overflow_add-stop g c =
    let w = c.requires.some in
    let h = (known_says c.args.self.now c.args.parent 1 c.args.octets.now c.args.kind c.in_ok-found.found _ c.in_ok-found.ensures.says c.in-Some.is) w.1.children [] (seen_at c.args.self.now w.0 w.1 w.2 w.3 c.args.parent c.requires.parent) in
    omega (arith, h.3.most, c.requires.stop)

pub enter-requires-clause-fits : goal.enter-requires-clause-fits
enter-requires-clause-fits g c =
    let w = c.requires.some in
    let h = (known_says c.args.self.now c.args.parent 1 c.args.octets.now c.args.kind c.in_ok-found.found _ c.in_ok-found.ensures.says c.in-Some.is) w.1.children [] (seen_at c.args.self.now w.0 w.1 w.2 w.3 c.args.parent c.requires.parent) in
    omega (arith, h.3.room, c.requires.stop)

pub returns-clause-moves : goal.returns-clause-moves
returns-clause-moves g c = λ _ was front b outer rd told d.
    let r : BodyReader = c.args.self.now in
    let octets : List ℕ = c.args.octets.now in
    let n : ℕ = c.in-Some.size in
    let few = outer_length r front b outer rd c.requires.stage in
    let f = says_long r front b outer rd c.args.parent 1 c.requires.parent (omega (arith, c.requires.first)) c.requires.stage octets (record { kind = c.args.kind; seen = c.in-Some.seen }) n (known_says c.args.self.now c.args.parent 1 c.args.octets.now c.args.kind c.in_ok-found.found _ c.in_ok-found.ensures.says c.in-Some.is) in
    let rc = long_reaches r front b outer rd c.requires.stage octets d c.requires.room c.requires.long c.args.kind n (f []).0 (λ later. (f later).3) in
    let place : 8 * r.at + 32 ≡ 8 * (r.at + 4) = omega arith in
    let end : 8 * r.at + 8 * n ≡ 8 * (r.at + n) = omega arith in
    let rc2 = subst (λ (m : ℕ). Reaches r.set front r.octets (leading (tlv c.args.kind n) m [] ∷ b ∷ outer) (8 * r.at + 32)) end rc in
    let entered = c.in_ok-enter.ensures.steps octets was front b outer (tlv c.args.kind n) rd told d refl (f []).4 (subst (λ (m : ℕ). Reaches r.set front r.octets (leading (tlv c.args.kind n) (8 * (r.at + n)) [] ∷ b ∷ outer) m) place rc2) (f []).0 in
    let goes : Moves (g.L.Listener.begins c.enter.new.listener was) (g.L.Listener.stands c.enter.new.listener was) r c.enter.new.self front octets 4 = subst (λ (x : Step). Steps (g.L.Listener.begins c.enter.new.listener was) (g.L.Listener.stands c.enter.new.listener was) r c.enter.new.self front octets (Ok x)) c.in_ok-enter.ensures.goes entered in
    let a = goes.are in
    let begins = subst (λ (x : Stage). Told (g.L.Listener.begins c.enter.new.listener was) (g.L.Listener.stands c.enter.new.listener was) x (a.node ∷ a.outer)) c.in_ok-enter.ensures.stage a.told in
    let behind : drop c.enter.new.self.at front ≡ drop 4 octets = behind_on front octets r.at 4 c.enter.new.self.at d goes.place in
    moved_twice _ _ _ _ r c.enter.new.self c.bare.new.self front octets 4 goes (c.in_ok-bare.ensures.moves (drop 4 octets) was front a.node a.outer a.reads begins behind)

pub returns-clause-rests : goal.returns-clause-rests
returns-clause-rests g c =
    let w = c.requires.some in
    let h = (known_says c.args.self.now c.args.parent 1 c.args.octets.now c.args.kind c.in_ok-found.found _ c.in_ok-found.ensures.says c.in-Some.is) w.1.children [] (seen_at c.args.self.now w.0 w.1 w.2 w.3 c.args.parent c.requires.parent) in
    let stop = ap (λ (l : StackNode). l.stop) c.bare.ensures.top in
    record {
      stage = c.in_ok-bare.ensures.stage;
      stop = omega (arith, stop, c.in_ok-enter.ensures.stop, h.3.most, c.requires.stop);
      before = omega (arith, stop, c.in_ok-enter.ensures.stop, c.in_ok-enter.ensures.place, c.bare.ensures.place, h.3.least);
    }

pub returns-in_err-found-clause-fails : goal.returns-in_err-found-clause-fails
returns-in_err-found-clause-fails g c =
    let p = err_from_is_err_and c.from_residual.result c.from_residual.ensures.1 in
    rw (p.1, p.2) (λ was front b outer rd told d. (
    let r : BodyReader = c.args.self.now in
    let here = (fails_here r front b outer rd c.args.parent 1 c.requires.parent (omega (arith, c.requires.first)) c.requires.stage c.args.octets.now c.in_err-found.field-0.0 c.in_err-found.ensures.fails) in
    fails_with _ _ r front b outer c.in_err-found.field-0.0 rd (head_tells r front b outer rd c.requires.stage c.args.octets.now d c.requires.room c.requires.long c.in_err-found.field-0.0
    here (inr (omega (arith, c.in_err-found.ensures.there), inl c.in_err-found.ensures.there))) _ c.requires.stage told (head_no_text _ _ _ _ _ _ _ _ (here []))))
