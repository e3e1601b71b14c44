use Rattle.std.proofs.Common.{rules}
use Rattle.tag_epc.proofs.epc.Epc.to_word.Goals as goal

pub returns : goal.returns
returns c = search rules
