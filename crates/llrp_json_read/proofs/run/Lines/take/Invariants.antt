use Rattle.std.proofs.Common.{◌≡◌, ◌≤◌, ◌+◌, ◌++◌, ℕ, List, length}
use Rattle.llrp_json_read.specs.LinesRead.{longest}
use Rattle.llrp_json_read.specs.Private.Lines.{Stands}
use Rattle.llrp_json_read.proofs.run.Lines.take.Given as goal

abbrev pub invariant-lines : goal.invariant-lines
invariant-lines l = record {
  taken : List ℕ;
  more : List ℕ;
  parts : l.piece ≡ taken ++ l.rest;
  grown : l.frames.items ≡ l.fn.frames.items ++ more;
  stands : (text bytes : List ℕ) → Stands l.fn.set l.fn.limit text l.fn.self bytes → Stands l.fn.set l.fn.limit (text ++ taken) l.self (bytes ++ more);
  number : l.self.number ≤ l.fn.self.number + length taken;
  short : length l.self.line.items ≤ longest l.fn.limit;
}

abbrev pub decreases-lines : goal.decreases-lines
decreases-lines l = length l.rest
