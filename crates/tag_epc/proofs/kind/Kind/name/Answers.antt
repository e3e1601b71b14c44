use Rattle.std.proofs.Common.{rules}
use Rattle.tag_epc.proofs.kind.Kind.name.Goals as goal

pub returns-in-Gid : goal.returns-in-Gid
returns-in-Gid c = search rules
