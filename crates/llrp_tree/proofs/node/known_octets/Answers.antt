use Rattle.llrp_tree.proofs.OctetLemmas.{are_octets}
use Rattle.llrp_tree.proofs.node.known_octets.Goals as goal

pub returns : goal.returns
returns c = are_octets c.args.bytes.now c.type_inv.bytes
