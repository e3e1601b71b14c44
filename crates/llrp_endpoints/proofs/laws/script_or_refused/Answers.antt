use Rattle.llrp_endpoints.proofs.ScriptDeciding.{script_or_refused}
use Rattle.llrp_endpoints.proofs.laws.script_or_refused.Goals as goal

pub returns : goal.returns
returns c = script_or_refused
