use Rattle.std.proofs.Common.{◌≡◌, ◌+◌, ◌*◌, ◌≤◌, drop}
use Rattle.tag_keys.specs.CheckDigit.{weighed}
use Rattle.tag_keys.proofs.check_digit.weighed.Given as goal

abbrev pub invariant-loop-at : goal.invariant-loop-at
invariant-loop-at l = record { sum_is : l.sum + weighed (drop l.at l.digits) ≡ weighed l.digits; few : l.sum ≤ 27 * l.at }
