use Rattle.std.proofs.Common.{[], List, ℕ, length, refl, ap, arith}
use Rattle.tag_bits.proofs.ByteLemmas.{bytes-nil}
use Rattle.llrp_listing.specs.Private.OpenNodes.{chain_digits}
use Rattle.llrp_listing.proofs.encode.buffer.EncodeBuffer.new.Goals as goal

pub returns-clause-rests : goal.returns-clause-rests
unfolding chain_digits
returns-clause-rests c = record {
  bytes = [];
  room = c.new.ensures.items;
  from = refl;
  ends = ap (λ (x : List ℕ). length x) c.new.ensures.items;
  octets = tt;
  rows = rw c.new-2.ensures tt;
  chain = tt;
  few = omega arith;
  kept = bytes-nil;
}
