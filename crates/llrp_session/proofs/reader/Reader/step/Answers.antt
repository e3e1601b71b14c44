use Rattle.std.proofs.Common.{rules}
use Rattle.llrp_session.proofs.reader.Reader.step.Goals as goal

pub returns-in-Up-clause-ok : goal.returns-in-Up-clause-ok
returns-in-Up-clause-ok c = search rules
