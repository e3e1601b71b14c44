use Rattle.llrp_json.proofs.OneJson.{one_line_of_item}
use Rattle.llrp_json.proofs.show.run_show_json.Goals as goal

pub run_show_with-requires-clause-one : goal.run_show_with-requires-clause-one
run_show_with-requires-clause-one g c = one_line_of_item
