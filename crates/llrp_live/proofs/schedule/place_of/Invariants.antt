use Rattle.std.proofs.Common.{◌≡◌, ◌+◌, drop}
use Rattle.llrp_live.specs.Calls.Schedules.{before_first}
use Rattle.llrp_live.proofs.schedule.place_of.Given as goal

abbrev pub invariant-loop-line : goal.invariant-loop-line
invariant-loop-line l = (l.place ≡ l.line-index) × (l.place + before_first l.stage l.moment (drop l.line-index l.lines) ≡ before_first l.stage l.moment l.lines)
