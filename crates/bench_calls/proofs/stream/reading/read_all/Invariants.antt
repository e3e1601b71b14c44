use Rattle.std.proofs.Common.{◌≡◌, ℕ, List}
use Rattle.llrp_tree.specs.declared.TheConstants.{MAX_LIMIT}
use Rattle.llrp_tree.specs.OpenTree.{Begun}
use Rattle.llrp_stream.specs.Calls.Frames.{ComesTo, limit_of}
use Rattle.bench_calls.proofs.stream.reading.read_all.Given as goal

abbrev pub invariant-more : goal.invariant-more
invariant-more l = (limit_of l.frames ≡ MAX_LIMIT) × ((front : List ℕ) × ComesTo (λ (t : List Begun). Unit {0}) (λ (t : List Begun). Unit {0}) l.frames front)
