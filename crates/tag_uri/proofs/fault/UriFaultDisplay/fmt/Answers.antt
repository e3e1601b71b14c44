use Rattle.std.proofs.Common.{rules}
use Rattle.tag_uri.proofs.fault.UriFaultDisplay.fmt.Goals as goal

pub returns-clause-writes : goal.returns-clause-writes
returns-clause-writes c = search rules
