use Rattle.std.proofs.Common.{◌≡◌, ◌+◌}
use Rattle.llrp_endpoints.specs.Moments.{days_of_months}
use Rattle.llrp_endpoints.proofs.moment.months_in.Given as goal

-- what is left of the days after these months
abbrev pub invariant-loop-months : goal.invariant-loop-months
invariant-loop-months l = l.days ≡ days_of_months l.year l.months + l.rest
