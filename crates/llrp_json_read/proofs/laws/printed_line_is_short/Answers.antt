use Rattle.llrp_json_read.proofs.PrintedLengths.{line_length}
use Rattle.llrp_json_read.proofs.laws.printed_line_is_short.Goals as goal

pub returns : goal.returns
returns c = line_length
