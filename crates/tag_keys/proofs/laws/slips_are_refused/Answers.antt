use Rattle.tag_keys.proofs.CheckLemmas.{one_slip, neighbours}
use Rattle.tag_keys.proofs.laws.slips_are_refused.Goals as goal

pub returns-clause-one_digit : goal.returns-clause-one_digit
returns-clause-one_digit c = one_slip

pub returns-clause-neighbours : goal.returns-clause-neighbours
returns-clause-neighbours c = neighbours
