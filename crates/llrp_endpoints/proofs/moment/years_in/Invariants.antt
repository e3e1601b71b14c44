use Rattle.std.proofs.Common.{◌≡◌, ◌+◌, ◌≤◌}
use Rattle.llrp_endpoints.specs.Moments.{days_of_years}
use Rattle.llrp_endpoints.proofs.moment.years_in.Given as goal

-- what is left of the days after these years
abbrev pub invariant-loop-years : goal.invariant-loop-years
invariant-loop-years l = record { whole : l.days ≡ days_of_years l.years + l.rest; few : l.years + l.rest ≤ l.days }
