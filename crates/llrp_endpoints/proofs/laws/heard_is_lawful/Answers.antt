use Rattle.llrp_endpoints.proofs.HeardParts.{heard_is_lawful}
use Rattle.llrp_endpoints.proofs.laws.heard_is_lawful.Goals as goal

pub returns : goal.returns
returns c = heard_is_lawful
