use Rattle.llrp_stream.proofs.PrefixLemmas.{prefix_of_frames}
use Rattle.llrp_stream.proofs.laws.prefix_of_frames.Goals as goal

pub returns : goal.returns
returns c = prefix_of_frames
