use Rattle.std.proofs.Common.{rules}
use Rattle.tag_bits.proofs.word.Word.number.Goals as goal

pub returns-clause-number : goal.returns-clause-number
returns-clause-number c = search rules
