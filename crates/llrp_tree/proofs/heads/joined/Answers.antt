use Rattle.std.proofs.Common.{arith}
use Rattle.llrp_tree.proofs.SpellingLemmas.{joined_fits, below_joined, shift_fits}
use Rattle.tag_bits.proofs.DigitLemmas.{digits-join}
use Rattle.llrp_tree.proofs.heads.joined.Goals as goal

pub overflow_add-result : goal.overflow_add-result
overflow_add-result c =
    let p = joined_fits c.args.width c.args.rest.bits c.args.value c.args.rest.number c.requires.value c.requires.below c.requires.small in
    rw (shift_fits c.args.width c.args.rest.bits c.args.value c.requires.value c.requires.small) (omega (arith, p))

pub returns-clause-spelled : goal.returns-clause-spelled
returns-clause-spelled c =
    rw (shift_fits c.args.width c.args.rest.bits c.args.value c.requires.value c.requires.small)
    (digits-join c.args.width c.args.rest.bits c.args.value c.args.rest.number c.requires.value c.requires.below)

pub returns-clause-below : goal.returns-clause-below
returns-clause-below c =
    rw (shift_fits c.args.width c.args.rest.bits c.args.value c.requires.value c.requires.small)
    (below_joined c.args.width c.args.rest.bits c.args.value c.args.rest.number c.requires.value c.requires.below)
