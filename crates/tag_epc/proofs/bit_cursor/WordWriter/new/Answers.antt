use Rattle.tag_epc.proofs.DigitMoves.{none}
use Rattle.tag_epc.proofs.bit_cursor.WordWriter.new.Goals as goal

pub returns : goal.returns
returns c = none
