use Rattle.llrp_endpoints.proofs.ScriptDeciding.{has_script, one_text}
use Rattle.llrp_endpoints.proofs.ScriptUnique as unique
use Rattle.llrp_endpoints.proofs.laws.one_script.Goals as goal

pub returns-clause-is : goal.returns-clause-is
returns-clause-is c = has_script

pub returns-clause-one_text : goal.returns-clause-one_text
returns-clause-one_text c = one_text

pub returns-clause-one_list : goal.returns-clause-one_list
returns-clause-one_list c = λ a b text p q. unique.one_script text a b p q
