use Rattle.std.proofs.Common.{◌<◌, arith}
use Rattle.tag_uri.proofs.HexadecimalLemmas.{none_read, read_more, more_fits, few_fit}
use Rattle.tag_uri.proofs.raw_uri.number_of_digits.Goals as goal

pub loop-octet-init : goal.loop-octet-init
loop-octet-init c = record { below = omega arith; digits = none_read c.args.octets.now }

pub overflow_mul-number : goal.overflow_mul-number
overflow_mul-number c =
    let few : c.loop-octet.octet-index < 15 = omega (arith, c.requires, c.loop-octet-test.true) in
    omega (arith, few_fit c.loop-octet.octet-index c.loop-octet.number few c.loop-octet.invariant.below)

pub overflow_add-number : goal.overflow_add-number
overflow_add-number c =
    let few : c.loop-octet.octet-index < 15 = omega (arith, c.requires, c.loop-octet-test.true) in
    omega (arith, few_fit c.loop-octet.octet-index c.loop-octet.number few c.loop-octet.invariant.below, c.in-Some.ensures.below)

pub loop-octet-preserved : goal.loop-octet-preserved
loop-octet-preserved c = record {
  below = more_fits c.loop-octet.octet-index c.loop-octet.number c.in-Some.digit c.loop-octet.invariant.below c.in-Some.ensures.below;
  digits = read_more c.args.octets.now c.loop-octet.octet-index c.loop-octet.number c.in-Some.digit c.loop-octet-test.true c.in-Some.ensures.below c.in-Some.ensures.digit c.loop-octet.invariant.digits;
}
