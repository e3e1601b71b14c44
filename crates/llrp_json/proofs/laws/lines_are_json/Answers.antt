use Rattle.llrp_json.proofs.JsonTexts.{broken_line, fault_line, message_line, rest_line}
use Rattle.llrp_json.proofs.laws.lines_are_json.Goals as goal

pub returns-clause-message : goal.returns-clause-message
returns-clause-message c = message_line

pub returns-clause-fault : goal.returns-clause-fault
returns-clause-fault c = fault_line

pub returns-clause-rest : goal.returns-clause-rest
returns-clause-rest c = rest_line

pub returns-clause-broken : goal.returns-clause-broken
returns-clause-broken c = broken_line
