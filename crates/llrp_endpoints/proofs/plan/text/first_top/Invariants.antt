use Rattle.std.proofs.Common.{◌≡◌, ◌+◌, ◌≤◌, length}
use Rattle.llrp_listing.specs.Lines.{lines_of}
use Rattle.llrp_endpoints.specs.Calls.PlanTexts.{first_top}
use Rattle.llrp_endpoints.proofs.plan.text.first_top.Given as goal

-- the lines that were passed do not begin with 0
abbrev pub invariant-loop-before : goal.invariant-loop-before
invariant-loop-before l = (first_top (lines_of l.fn.text) + 1 ≡ l.line + first_top (lines_of l.rest)) × (l.line + length l.rest ≤ length l.fn.text + 1)

abbrev pub decreases-loop-before : goal.decreases-loop-before
decreases-loop-before l = length l.rest
