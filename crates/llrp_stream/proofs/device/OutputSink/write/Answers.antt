use Rattle.std.proofs.Common.{rules}
use Rattle.llrp_stream.proofs.device.OutputSink.write.Goals as goal

pub returns-in-Ok : goal.returns-in-Ok
returns-in-Ok c = search rules
