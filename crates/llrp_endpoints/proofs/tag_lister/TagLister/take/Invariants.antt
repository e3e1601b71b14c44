use Rattle.std.proofs.Common.{◌≡◌, ◌++◌, ℕ, List, length}
use Rattle.llrp_endpoints.specs.Private.TagListing.{TakesOn}
use Rattle.llrp_endpoints.proofs.tag_lister.TagLister.take.Given as goal

abbrev pub invariant-loop-rest : goal.invariant-loop-rest
invariant-loop-rest l = record {
  done : List ℕ;
  parts : l.piece ≡ done ++ l.rest;
  form : l.self.form ≡ l.fn.self.form;
  went : TakesOn done l.fn.self l.self l.fn.lines l.lines;
}

abbrev pub decreases-loop-rest : goal.decreases-loop-rest
decreases-loop-rest l = length l.rest
