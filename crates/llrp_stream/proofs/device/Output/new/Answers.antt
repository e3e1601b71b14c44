use Rattle.std.proofs.Common.{rules}
use Rattle.llrp_stream.proofs.device.Output.new.Goals as goal

pub returns : goal.returns
returns c = search rules
