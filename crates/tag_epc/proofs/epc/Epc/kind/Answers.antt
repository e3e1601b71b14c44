use Rattle.std.proofs.Common.{rules}
use Rattle.tag_epc.proofs.epc.Epc.kind.Goals as goal

pub returns-in-General : goal.returns-in-General
returns-in-General c = search rules
