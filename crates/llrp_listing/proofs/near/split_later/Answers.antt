use Rattle.std.proofs.Common.{arith}
use Rattle.llrp_listing.proofs.NearLemmas.{later_parts}
use Rattle.llrp_listing.proofs.near.split_later.Goals as goal

pub returns : goal.returns
returns c =
    later_parts c.args.byte c.octets_before-place.result c.args.bytes.now c.split_at.result.1.now c.split_at-2.result.0.now c.split_at-2.result.1.now c.split_at-3.result.1.now c.requires.long c.requires.none c.split_at.ensures.back (omega (arith, c.if-others-lt-NEAR.false)) c.octets_before-place.ensures (omega (arith, c.if-place-ge-NEAR.false)) c.split_at-2.ensures.front c.split_at-2.ensures.back c.split_at-3.ensures.back
