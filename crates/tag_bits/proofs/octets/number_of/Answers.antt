use Rattle.std.proofs.Common.{arith}
use Rattle.tag_bits.proofs.OctetLemmas.{none_read, read_more}
use Rattle.tag_bits.proofs.octets.number_of.Goals as goal

pub loop-octet-init : goal.loop-octet-init
loop-octet-init c = none_read

pub loop-octet-preserved : goal.loop-octet-preserved
loop-octet-preserved c =
    read_more 128 c.args.octets.now c.loop-octet.octet-index c.loop-octet.number (omega arith) (omega (arith, c.requires)) (c.type_inv.octets c.loop-octet.octet-index).fits c.loop-octet.invariant
