use Rattle.std.proofs.Common.{◌≡◌, ℕ, ◌-◌, ◌*◌, ◌^◌, ◌<◌, ◌≤◌, length, set, arith, length-set, bit_and, subst, sym}
use Rattle.tag_bits.proofs.OctetLemmas.{none_written, write_more, left_more, none_left}
use Rattle.tag_bits.proofs.octets.fill.Goals as goal

pub loop-i-init : goal.loop-i-init
loop-i-init c = record {
  written = none_written c.args.octets.now c.args.number;
  left = none_left c.args.number (length c.args.octets.now);
}

pub loop-i-preserved : goal.loop-i-preserved
loop-i-preserved c =
    let long : c.loop-i.i ≤ length c.loop-i.octets = omega arith in
    let fits : c.args.number < 2 ^ (8 * length c.loop-i.octets) = subst (λ (k : ℕ). c.args.number < 2 ^ (8 * k)) (sym c.loop-i.auto.octets) c.requires.fits in
    let same : length (set c.loop-i.octets (c.loop-i.i - 1) (bit_and c.loop-i.rest 255)) ≡ length c.loop-i.octets = length-set c.loop-i.octets (c.loop-i.i - 1) (bit_and c.loop-i.rest 255) in
    rw same (record {
      written = write_more c.loop-i.octets c.args.number c.loop-i.rest c.loop-i.i c.loop-i-test.true long fits c.loop-i.invariant.left c.loop-i.invariant.written;
      left = left_more c.args.number c.loop-i.rest (length c.loop-i.octets) c.loop-i.i c.loop-i-test.true long c.loop-i.invariant.left;
    })
