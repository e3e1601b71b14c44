use Rattle.llrp_listing.proofs.SplitWords.{at_none}
use Rattle.llrp_keys.proofs.named_key.named_key_of.Goals as goal

pub returns-in_err-name : goal.returns-in_err-name
returns-in_err-name c = at_none _ _ _ c.from_residual.ensures c.in_err-name.ensures
