use Rattle.std.proofs.Common.{arith, refl}
use Rattle.llrp_tree.proofs.SpellingLemmas.{appends_same}
use Rattle.llrp_tree.proofs.SpelledLemmas.{head_fits, leading_fits}
use Rattle.llrp_tree.proofs.heads.parameter_start.Goals as goal

pub both_octets-requires-clause-some : goal.both_octets-requires-clause-some
both_octets-requires-clause-some c = (head_fits c.args.kind c.head.result.bits c.head.ensures.bits).0

pub both_octets-requires-clause-few : goal.both_octets-requires-clause-few
both_octets-requires-clause-few c = omega (arith, (head_fits c.args.kind c.head.result.bits c.head.ensures.bits).1)

pub both_octets-requires-clause-whole : goal.both_octets-requires-clause-whole
both_octets-requires-clause-whole c = (head_fits c.args.kind c.head.result.bits c.head.ensures.bits).2

pub both_octets-requires-clause-rest_few : goal.both_octets-requires-clause-rest_few
both_octets-requires-clause-rest_few c = omega (arith, (leading_fits c.args.kind).0, c.leading_bits.ensures.bits)

pub both_octets-requires-clause-rest_whole : goal.both_octets-requires-clause-rest_whole
both_octets-requires-clause-rest_whole c = rw c.leading_bits.ensures.bits (leading_fits c.args.kind).1

pub both_octets-requires-clause-fits : goal.both_octets-requires-clause-fits
both_octets-requires-clause-fits c = omega (arith, (head_fits c.args.kind c.head.result.bits c.head.ensures.bits).1, (leading_fits c.args.kind).0, c.leading_bits.ensures.bits)

pub returns-clause-spelled : goal.returns-clause-spelled
returns-clause-spelled c = appends_same _ _ _ _ c.both_octets.ensures.spelled (rw (c.head.ensures.spelled, c.leading_bits.ensures.spelled) refl)
