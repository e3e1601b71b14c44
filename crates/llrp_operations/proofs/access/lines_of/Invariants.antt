use Rattle.std.proofs.Common.{◌≡◌, ◌++◌, drop}
use Rattle.llrp_operations.specs.Calls.Access.{lines_of, results_of}
use Rattle.llrp_operations.proofs.access.lines_of.Given as goal

-- the lines so far, and those of what is left, are all lines
abbrev pub invariant-loop-place : goal.invariant-loop-place
invariant-loop-place l = l.lines.items ++ lines_of l.json l.name (drop l.place l.fn.operations) (drop l.place (results_of l.tag)) ≡ lines_of l.json l.name l.fn.operations (results_of l.tag)
