use Rattle.std.proofs.Common.{rules}
use Rattle.llrp_session.proofs.reader.Reader.started_by_enabling.Goals as goal

pub returns-in-Some : goal.returns-in-Some
returns-in-Some c = search rules
