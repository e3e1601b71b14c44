use Rattle.tag_bits.proofs.DigitLemmas.{length-digits}
use Rattle.tag_epc.proofs.DigitMoves.{front_whole}
use Rattle.tag_epc.proofs.bit_cursor.WordReader.new.Goals as goal

pub returns-clause-whole : goal.returns-clause-whole
returns-clause-whole c = front_whole c.number.result c.args.word c.number.ensures.number c.number.ensures.below

pub returns-clause-length : goal.returns-clause-length
returns-clause-length c = length-digits 96 _
