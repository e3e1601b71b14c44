use Rattle.std.proofs.Common.{[]}
use Rattle.llrp_explain.proofs.PrintedLemmas.{octets_none, octets_more}
use Rattle.llrp_explain.proofs.push.push_hexadecimal.Goals as goal

pub loop-octet-init : goal.loop-octet-init
loop-octet-init c = octets_none c.args.text.now.items

pub loop-octet-preserved : goal.loop-octet-preserved
loop-octet-preserved c =
    octets_more _ _ [] _ c.args.octets.now _ _ c.loop-octet-test.true c.loop-octet.invariant c.in-Ok.ensures.written c.in_ok-extend_from_slice.ensures.items
