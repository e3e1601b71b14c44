use Rattle.llrp_json_read.proofs.PrintedStreams.{printed_stream_is_read}
use Rattle.llrp_json_read.proofs.laws.prints_back.Goals as goal

pub returns : goal.returns
returns c = printed_stream_is_read
