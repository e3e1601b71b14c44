use Rattle.std.proofs.Common.{◌≡◌, ℕ, List, length}
use Rattle.llrp_listing.specs.Private.EncodeBuffer.{ClosedSoFar, Holds, inner}
use Rattle.llrp_listing.specs.Private.OpenNodes.{OpenNode}
use Rattle.llrp_listing.proofs.encode.buffer.EncodeBuffer.close_to.Given as goal

abbrev pub invariant-lines : goal.invariant-lines
invariant-lines l = record {
  closed : (out more : List ℕ) (ns : List OpenNode) → Holds l.fn.self l.at out more ns → ClosedSoFar l.self l.at l.depth out more ns;
  limit : l.self.limit ≡ l.fn.self.limit;
}

abbrev pub decreases-lines : goal.decreases-lines
decreases-lines l = length (inner l.self.rows)
