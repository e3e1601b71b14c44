use Rattle.std.proofs.Common.{rules}
use Rattle.llrp_session.proofs.reader.Reader.send_held.Goals as goal

pub returns-clause-stands : goal.returns-clause-stands
returns-clause-stands c = search rules
