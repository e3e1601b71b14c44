use Rattle.std.proofs.Common.{rules}
use Rattle.tag_bits.proofs.fields.octet_with.Goals as goal

pub returns : goal.returns
returns c = search rules
