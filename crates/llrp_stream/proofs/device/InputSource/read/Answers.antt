use Rattle.std.proofs.Common.{rules}
use Rattle.llrp_stream.proofs.device.InputSource.read.Goals as goal

pub returns-in-Ok-eq0 : goal.returns-in-Ok-eq0
returns-in-Ok-eq0 c = search rules
