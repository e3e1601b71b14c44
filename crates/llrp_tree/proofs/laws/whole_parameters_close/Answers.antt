use Rattle.llrp_tree.proofs.Growing.{close_tlv, close_tv}
use Rattle.llrp_tree.proofs.laws.whole_parameters_close.Goals as goal

pub returns-clause-tlv : goal.returns-clause-tlv
returns-clause-tlv c = close_tlv

pub returns-clause-tv : goal.returns-clause-tv
returns-clause-tv c = close_tv
