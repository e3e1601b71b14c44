use Rattle.std.proofs.Common.{arith}
use Rattle.llrp_listing.proofs.NearLemmas.{split_parts}
use Rattle.llrp_listing.proofs.near.split_near.Goals as goal

pub returns : goal.returns
returns c =
    split_parts c.args.byte c.octets_before-place.result c.args.bytes.now c.split_at.result.0.now c.split_at.result.1.now c.split_at-2.result.1.now (omega (arith, c.if-bytes-lt-NEAR.false)) c.octets_before-place.ensures (omega (arith, c.if-place-ge-NEAR.false)) c.split_at.ensures.front c.split_at.ensures.back c.split_at-2.ensures.back
