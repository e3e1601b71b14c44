use Rattle.llrp_explain.proofs.LineDigits.{message_is, open_is, bits_are}
use Rattle.llrp_explain.proofs.laws.lines_are_digits.Goals as goal

pub returns-clause-message : goal.returns-clause-message
returns-clause-message c = message_is

pub returns-clause-open : goal.returns-clause-open
returns-clause-open c = open_is

pub returns-clause-widths : goal.returns-clause-widths
returns-clause-widths c = bits_are
