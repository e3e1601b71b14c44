use Rattle.llrp_json.proofs.OneNamed.{one_named}
use Rattle.llrp_json.proofs.show.list_stream_json_named.Goals as goal

pub list_stream_with-requires-clause-one : goal.list_stream_with-requires-clause-one
list_stream_with-requires-clause-one g c = one_named

pub returns-in-Own-clause-ok : goal.returns-in-Own-clause-ok
returns-in-Own-clause-ok g c = rw c.in-Own.is c.list_stream_json.ensures.ok

pub returns-in-Own-clause-err : goal.returns-in-Own-clause-err
returns-in-Own-clause-err g c = rw c.in-Own.is c.list_stream_json.ensures.err
