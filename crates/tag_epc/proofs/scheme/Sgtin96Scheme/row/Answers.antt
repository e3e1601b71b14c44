use Rattle.std.proofs.Common.{rules}
use Rattle.tag_epc.proofs.scheme.Sgtin96Scheme.row.Goals as goal

pub returns : goal.returns
returns c = search rules
