use Rattle.llrp_listing.proofs.PrintingLemmas.{octets_none, octets_more}
use Rattle.llrp_listing.proofs.TextLemmas.{with_part}
use Rattle.llrp_listing.proofs.printing.text.Text.push_hexadecimal.Goals as goal

pub loop-octet-init : goal.loop-octet-init
loop-octet-init c = octets_none c.args.self.now

pub loop-octet-preserved : goal.loop-octet-preserved
loop-octet-preserved c =
    octets_more _ _ _ c.args.octets.now _ c.loop-octet-test.true c.loop-octet.invariant (with_part _ _ _ _ c.in_ok-push_two.ensures c.in-Ok.ensures.written)
