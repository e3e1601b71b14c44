use Rattle.std.proofs.Common.{rules}
use Rattle.llrp_session.proofs.reader.Reader.keep_alive.Goals as goal

pub returns-else-keepalive-now : goal.returns-else-keepalive-now
returns-else-keepalive-now c = search rules
