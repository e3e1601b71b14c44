use Rattle.std.proofs.Common.{sym, ◌∙◌}
use Rattle.llrp_tree.proofs.OctetLemmas.{are_octets}
use Rattle.llrp_tree.proofs.NumberLemmas.{four_at}
use Rattle.llrp_tree.proofs.numbers.four_octets.Goals as goal

pub returns : goal.returns
returns c = λ later.
    c.from_be_bytes.ensures ∙ sym (four_at c.args.octets.now later c.args.at (are_octets c.args.octets.now (λ i. c.type_inv.octets i)) c.requires)
