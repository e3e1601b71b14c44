use Rattle.std.proofs.Common.{◌≡◌, ◌++◌, List, ℕ, length}
use Rattle.llrp_sides.specs.Private.LineSteps.{TakesPiece}
use Rattle.llrp_sides.proofs.line_reader.Lines.take.Given as goal

abbrev pub invariant-lines : goal.invariant-lines
invariant-lines l = record {
  taken : List ℕ;
  parts : l.piece ≡ taken ++ l.rest;
  so : TakesPiece taken l.fn.self l.self l.fn.text l.text;
}

abbrev pub decreases-lines : goal.decreases-lines
decreases-lines l = length l.rest
