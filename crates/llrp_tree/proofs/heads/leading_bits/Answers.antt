use Rattle.std.proofs.Common.{◌*◌, ◌∙◌, arith, ap}
use Rattle.llrp_schema.specs.declared.kinds.Kind.TheVariants.{Parameter}
use Rattle.llrp_schema.specs.declared.kinds.Tail.{Tail}
use Rattle.llrp_schema.proofs.TableLaws.{few_bits}
use Rattle.llrp_tree.specs.Lawful.{count_octets}
use Rattle.llrp_tree.proofs.SpellingLemmas.{sound_fields}
use Rattle.llrp_tree.proofs.SpelledLemmas.{leading_fits}
use Rattle.llrp_tree.proofs.heads.leading_bits.Goals as goal

pub pack-fields-requires-clause-sound : goal.pack-fields-requires-clause-sound
pack-fields-requires-clause-sound c = rw c.fields.ensures (sound_fields (Parameter c.args.kind))

pub pack-fields-requires-clause-small : goal.pack-fields-requires-clause-small
pack-fields-requires-clause-small c = rw c.fields.ensures (omega (arith, few_bits (Parameter c.args.kind)))

pub joined-requires-clause-small : goal.joined-requires-clause-small
joined-requires-clause-small c =
    let b = rw c.fields.ensures at c.pack-fields.ensures.bits in
    let t = c.count-count.ensures.bits ∙ ap (λ (f : Tail). 8 * count_octets f) c.tail.ensures in
    omega (arith, (leading_fits c.args.kind).0, b, t)

pub returns-clause-bits : goal.returns-clause-bits
returns-clause-bits c =
    let b = rw c.fields.ensures at c.pack-fields.ensures.bits in
    let t = c.count-count.ensures.bits ∙ ap (λ (f : Tail). 8 * count_octets f) c.tail.ensures in
    omega (arith, b, t, c.joined.ensures.bits)
