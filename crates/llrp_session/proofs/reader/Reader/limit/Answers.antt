use Rattle.std.proofs.Common.{rules}
use Rattle.llrp_session.proofs.reader.Reader.limit.Goals as goal

pub returns-clause-limit : goal.returns-clause-limit
returns-clause-limit c = search rules
