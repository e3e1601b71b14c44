use Rattle.tag_keys.proofs.CheckLemmas.{checks, only_check}
use Rattle.tag_keys.proofs.laws.one_check_digit.Goals as goal

pub returns-clause-is : goal.returns-clause-is
returns-clause-is c = checks

pub returns-clause-only : goal.returns-clause-only
returns-clause-only c = only_check
