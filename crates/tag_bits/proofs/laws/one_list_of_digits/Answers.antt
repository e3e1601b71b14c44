use Rattle.tag_bits.proofs.DigitLemmas.{are_digits, only_digits}
use Rattle.tag_bits.proofs.laws.one_list_of_digits.Goals as goal

pub returns-clause-some : goal.returns-clause-some
returns-clause-some c w n h = are_digits w n h

pub returns-clause-only : goal.returns-clause-only
returns-clause-only c w n ds h = only_digits w n ds h
