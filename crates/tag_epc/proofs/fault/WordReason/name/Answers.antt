use Rattle.std.proofs.Common.{rules}
use Rattle.tag_epc.proofs.fault.WordReason.name.Goals as goal

pub returns-in-Reference : goal.returns-in-Reference
returns-in-Reference c = search rules
