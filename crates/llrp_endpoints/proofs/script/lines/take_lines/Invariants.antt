use Rattle.std.proofs.Common.{List, ℕ, length}
use Rattle.llrp_endpoints.specs.Calls.Script.{Begins, IsLawfulScript}
use Rattle.llrp_endpoints.proofs.script.lines.take_lines.Given as goal

abbrev pub invariant-lines : goal.invariant-lines
invariant-lines l = IsLawfulScript l.entries.items × ((whole : List ℕ) → Begins whole l.fn.entries.items l.fn.text → Begins whole l.entries.items l.rest)

abbrev pub decreases-lines : goal.decreases-lines
decreases-lines l = length l.rest
