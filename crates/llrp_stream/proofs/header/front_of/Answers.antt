-- The length by its octets.
use Rattle.std.proofs.Common.{arith}
use Rattle.llrp_tree.proofs.OctetLemmas.{are_octets}
use Rattle.llrp_stream.specs.Cuts.{length_field}
use Rattle.llrp_stream.proofs.HeaderLemmas.{four_octets}
use Rattle.llrp_stream.proofs.header.front_of.Goals as goal

pub returns-then-count : goal.returns-then-count
unfolding length_field
returns-then-count c =
    let is = four_octets c.args.octets.now 2 c.read_u32-count.result (are_octets c.args.octets.now (λ i. c.type_inv.octets i)) c.if-octets-lt6.false c.read_u32-count.ensures in
    (c.if-octets-lt6.false, omega (arith, is, c.if-count.true))

pub returns : goal.returns
unfolding length_field
returns c = record {
  six = c.if-octets-lt6.false;
  octets_are = four_octets c.args.octets.now 2 c.read_u32-count.result (are_octets c.args.octets.now (λ i. c.type_inv.octets i)) c.if-octets-lt6.false c.read_u32-count.ensures;
  ten = c.if-count.false;
}
