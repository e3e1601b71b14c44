use Rattle.std.proofs.Common.{◌≡◌, ap, Bool, false, ℕ, List, [], Option, Some, None, ◌∙◌, sym, refl}
use Rattle.std.specs.Prelude.{is_some, not}
use Rattle.llrp_tree.specs.Tree.{MessageTree}
use Rattle.llrp_tree.specs.OpenTree.{Begun}
use Rattle.llrp_stream.specs.declared.engine.frames.Frames.{Frames}
use Rattle.llrp_stream.specs.declared.engine.frames.Outcome.{Outcome}
use Rattle.llrp_stream.specs.declared.state.State.TheVariants as state
use Rattle.llrp_stream.specs.Calls.Frames.{ComesTo, IsIdle, TakesOn}
use Rattle.llrp_stream.proofs.FramesLemmas.{state_comes}
use Rattle.bench_calls.proofs.stream.reading.read_all.Goals as goal

any : List Begun → Type 0
any t = Unit {0}

idle : (frames : Frames) → IsIdle frames → ComesTo (λ (t : List Begun). Unit {0}) (λ (t : List Begun). Unit {0}) frames []
idle frames i = state_comes (λ t. Unit {0}) (λ t. Unit {0}) frames.limit state.Between frames.state frames.body [] (sym i.0) (refl, i.1, tt)

after : (limit : ℕ) (front piece : List ℕ) (new : Frames) (used : ℕ) (outcome : Option Outcome) (stands : List Begun → Type 0) (ends : MessageTree → List ℕ → Type 0) (rests : List ℕ → Type 0) (r : Bool) → is_some outcome ≡ not r → r ≡ false → TakesOn stands stands ends rests limit front piece new used outcome → ComesTo (λ (t : List Begun). Unit {0}) (λ (t : List Begun). Unit {0}) new []
after limit front piece new used None stands ends rests r e f t = absurd (let z : false ≡ not false = e ∙ ap not f in cc)
after limit front piece new used (Some outcome) stands ends rests r e f t = idle new t.3

pub more-preserved : goal.more-preserved
more-preserved c = (c.in-Ok.ensures.limit ∙ c.more.invariant.0, ([], after c.more.frames.limit c.more.invariant.1.0 c.more.piece.now c.feed.new.self c.in-Ok.came.used c.in-Ok.came.outcome (λ (t : List Begun). Unit {0}) (λ (m : MessageTree) (now : List ℕ). Unit {0}) (λ (now : List ℕ). Unit {0}) c.is_none.result c.is_none.ensures c.if-is_none.false (c.in-Ok.ensures.takes [] c.more.invariant.1.0 c.more.invariant.1.1)))
