use Rattle.std.proofs.Common.{◌+◌, ◌-◌, ◌*◌, ◌/◌, ◌%◌, arith, refl}
use Rattle.tag_bits.proofs.FieldLemmas.{gathered, gathered_value}
use Rattle.tag_bits.proofs.fields.gather.Goals as goal

pub returns : goal.returns
unfolding gathered
returns c =
    let others = c.args.before + c.args.width - 1 in
    let last = c.args.first + others / 8 in
    let kept = others % 8 + 1 in
    rw c.number_of-whole.ensures (gathered_value c.args.bytes.now c.args.first c.args.before last kept (8 * c.args.first + c.args.before) c.args.width refl (omega arith) (omega arith) (omega arith) (omega arith) c.requires.most (c.type_inv.bytes last).fits)
