use Rattle.llrp_explain.proofs.LineDigits.{frame_digits, frame_bits}
use Rattle.llrp_explain.proofs.laws.lines_are_frame.Goals as goal

pub returns-clause-digits : goal.returns-clause-digits
returns-clause-digits c = frame_digits

pub returns-clause-bits : goal.returns-clause-bits
returns-clause-bits c = frame_bits
