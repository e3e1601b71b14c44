use Rattle.llrp_json.proofs.OneNamed.{one_named}
use Rattle.llrp_json.proofs.show.run_show_json_named.Goals as goal

pub run_show_with-requires-clause-one : goal.run_show_with-requires-clause-one
run_show_with-requires-clause-one g c = one_named

pub returns-in-Own : goal.returns-in-Own
returns-in-Own g c = rw c.in-Own.is c.run_show_json.ensures
