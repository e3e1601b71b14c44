use Rattle.llrp_json_read.proofs.RefusedSaysNone.{line_refused_says_none}
use Rattle.llrp_json_read.proofs.laws.refused_says_none.Goals as goal

pub returns : goal.returns
returns c = line_refused_says_none
