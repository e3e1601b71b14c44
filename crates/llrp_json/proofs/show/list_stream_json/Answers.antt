use Rattle.llrp_json.proofs.OneJson.{one_line_of_item}
use Rattle.llrp_json.proofs.show.list_stream_json.Goals as goal

pub list_stream_with-requires-clause-one : goal.list_stream_with-requires-clause-one
list_stream_with-requires-clause-one g c = one_line_of_item
