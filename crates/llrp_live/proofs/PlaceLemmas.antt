-- Frames of which nothing was read, for a listener of which nothing is known.
use Rattle.std.proofs.Common.{List, [], sym, refl}
use Rattle.llrp_tree.specs.OpenTree.{Begun}
use Rattle.llrp_stream.specs.declared.engine.frames.Frames.{Frames}
use Rattle.llrp_stream.specs.declared.state.State.TheVariants as state
use Rattle.llrp_stream.specs.Calls.Frames.{ComesTo, IsIdle}
use Rattle.llrp_stream.proofs.FramesLemmas.{state_comes}

pub idle : (frames : Frames) → IsIdle frames → ComesTo (λ (t : List Begun). Unit {0}) (λ (t : List Begun). Unit {0}) frames []
idle frames i = state_comes (λ t. Unit {0}) (λ t. Unit {0}) frames.limit state.Between frames.state frames.body [] (sym i.0) (refl, i.1, tt)
