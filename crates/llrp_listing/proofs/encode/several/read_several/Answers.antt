use Rattle.std.proofs.Common.{List, length, sym, ap, ◌∙◌, arith}
use Rattle.llrp_schema.specs.declared.kinds.Kind.TheVariants.{Parameter}
use Rattle.llrp_schema.specs.Schema.{FieldRule}
use Rattle.llrp_listing.specs.Private.LineReading.{forms_of}
use Rattle.llrp_listing.proofs.LineWords.{few_forms}
use Rattle.llrp_listing.proofs.SpacedNumbers.{several_says}
use Rattle.llrp_listing.proofs.encode.several.read_several.Goals as goal

pub numbers_from-requires-clause-room : goal.numbers_from-requires-clause-room
numbers_from-requires-clause-room c =
    let e = ap (λ (r : List FieldRule). length (forms_of r)) c.fields-rules.ensures in
    let none = ap length c.new-fields.ensures in
    omega (arith, e, few_forms (Parameter c.in_ok-kind.kind), none)

pub returns : goal.returns
returns c =
    let x = c.in_ok-level in
    several_says c.args.depth x.level c.in_ok-kind.kind c.fields-rules.result.now c.args.line.now c.in_ok-kind.end c.in_ok-stop.stop c.new-fields.result.items c.numbers_from.new.fields.items c.new-tail.result c.in_ok-kind.ensures.set x.ensures.least x.ensures.deep x.ensures.one x.ensures.open (omega (arith, c.if-line-gt-LONGEST_LINE.false)) x.ensures.starts c.in_ok-kind.ensures.named
    c.fields-rules.ensures (sym c.in-Absent.ensures) c.new-fields.ensures c.in_ok-stop.ensures.spaced c.if-stop-line.false (c.new-tail.ensures ∙ c.new.ensures.items)
