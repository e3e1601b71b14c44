use Rattle.std.proofs.Common.{rules}
use Rattle.llrp_session.proofs.reader.Reader.state_of.Goals as goal

pub returns : goal.returns
returns c = search rules
