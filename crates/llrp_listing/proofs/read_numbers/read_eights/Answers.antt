use Rattle.std.proofs.Common.{◌≡◌, ◌<◌, ◌+◌, ◌^◌, length, arith}
use Rattle.llrp_listing.proofs.Numerals.{front_more, front_small, length_ahead}
use Rattle.llrp_listing.proofs.read_numbers.read_eights.Goals as goal

pub overflow_mul-n : goal.overflow_mul-n
overflow_mul-n c =
    let some : length c.eights.rest.now ≡ 8 + length c.in-Some.after.now = length_ahead 8 c.eights.rest.now c.in-Some.after.now c.in-Some.eight c.in-Some.ensures.digits in
    let small : c.eights.n < 10 ^ 11 = front_small 11 8 c.args.digits.now c.eights.rest.now c.eights.n c.eights.invariant.read (omega (arith, some)) (omega (arith, c.requires)) in
    omega (arith, small)

pub overflow_add-n : goal.overflow_add-n
overflow_add-n c =
    let some : length c.eights.rest.now ≡ 8 + length c.in-Some.after.now = length_ahead 8 c.eights.rest.now c.in-Some.after.now c.in-Some.eight c.in-Some.ensures.digits in
    let small : c.eights.n < 10 ^ 11 = front_small 11 8 c.args.digits.now c.eights.rest.now c.eights.n c.eights.invariant.read (omega (arith, some)) (omega (arith, c.requires)) in
    omega (arith, small, c.in-Some.ensures.below)

pub eights-smaller : goal.eights-smaller
eights-smaller c = omega (arith, length_ahead 8 c.eights.rest.now c.in-Some.after.now c.in-Some.eight c.in-Some.ensures.digits)

pub eights-preserved : goal.eights-preserved
eights-preserved c = record { read = front_more 8 c.args.digits.now c.eights.rest.now c.in-Some.after.now c.eights.n c.in-Some.eight c.eights.invariant.read c.in-Some.ensures.digits c.in-Some.ensures.below }
