use Rattle.std.proofs.Common.{◌+◌, arith, refl}
use Rattle.llrp_tree.proofs.SpelledLemmas.{start_bits}
use Rattle.llrp_tree.proofs.heads.parameter_bits.Goals as goal

pub joined-requires-clause-few : goal.joined-requires-clause-few
joined-requires-clause-few c =
    let h = c.head-head.result.bits in
    let l = c.leading_bits-leading.result.bits in
    (start_bits c.args.kind h l (h + l) c.requires.short c.head-head.ensures.bits c.leading_bits-leading.ensures.bits refl).few

pub joined-requires-clause-small : goal.joined-requires-clause-small
joined-requires-clause-small c =
    let h = c.head-head.result.bits in
    let l = c.leading_bits-leading.result.bits in
    (start_bits c.args.kind h l (h + l) c.requires.short c.head-head.ensures.bits c.leading_bits-leading.ensures.bits refl).small

pub returns-clause-few : goal.returns-clause-few
returns-clause-few c =
    let s = start_bits c.args.kind c.head-head.result.bits c.leading_bits-leading.result.bits c.joined.result.bits c.requires.short c.head-head.ensures.bits c.leading_bits-leading.ensures.bits c.joined.ensures.bits in
    omega (arith, s.small, c.joined.ensures.bits)

pub returns-clause-whole : goal.returns-clause-whole
returns-clause-whole c = (start_bits c.args.kind c.head-head.result.bits c.leading_bits-leading.result.bits c.joined.result.bits c.requires.short c.head-head.ensures.bits c.leading_bits-leading.ensures.bits c.joined.ensures.bits).whole

pub returns-clause-some : goal.returns-clause-some
returns-clause-some c = (start_bits c.args.kind c.head-head.result.bits c.leading_bits-leading.result.bits c.joined.result.bits c.requires.short c.head-head.ensures.bits c.leading_bits-leading.ensures.bits c.joined.ensures.bits).some
