use Rattle.llrp_json.proofs.OneJson.{one_line_of_item}
use Rattle.llrp_json.proofs.laws.one_line.Goals as goal

pub returns : goal.returns
returns c = one_line_of_item
