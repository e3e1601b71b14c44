use Rattle.std.proofs.Common.{rules}
use Rattle.llrp_session.proofs.reader.Reader.is_full.Goals as goal

pub returns : goal.returns
returns c = search rules
