use Rattle.llrp_json_read.proofs.OneMessage.{line_says_one}
use Rattle.llrp_json_read.proofs.laws.one_message.Goals as goal

pub returns : goal.returns
returns c = line_says_one
