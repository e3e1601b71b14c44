use Rattle.std.proofs.Common.{◌≡◌, drop}
use Rattle.llrp_session.specs.Calls.Due.{sooner}
use Rattle.llrp_live.specs.Calls.Schedules.{next_moment}
use Rattle.llrp_live.proofs.schedule.next_of.Given as goal

abbrev pub invariant-loop-line : goal.invariant-loop-line
invariant-loop-line l = sooner l.next (next_moment l.stage (drop l.line-index l.lines)) ≡ next_moment l.stage l.lines
