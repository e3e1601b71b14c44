use Rattle.llrp_tree.proofs.Growing.{grow_field, grow_tail, grow_tlv, grow_tv}
use Rattle.llrp_tree.proofs.laws.open_trees_grow.Goals as goal

pub returns-clause-field : goal.returns-clause-field
returns-clause-field c = grow_field

pub returns-clause-tail : goal.returns-clause-tail
returns-clause-tail c = grow_tail

pub returns-clause-tlv : goal.returns-clause-tlv
returns-clause-tlv c = grow_tlv

pub returns-clause-tv : goal.returns-clause-tv
returns-clause-tv c = grow_tv
