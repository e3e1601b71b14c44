use Rattle.std.proofs.Common.{arith, ap, []}
use Rattle.std.specs.Prelude.{unwrap_or}
use Rattle.llrp_schema.specs.declared.kinds.Kind.TheVariants.{Message}
use Rattle.llrp_schema.proofs.TableLaws.{few_plain_fields}
use Rattle.llrp_tree.specs.Tree.{forest}
use Rattle.llrp_tree.proofs.LawLemmas.{message_parts, range_length}
use Rattle.llrp_tree.proofs.message.Message.checked.Goals as goal

pub kept-requires : goal.kept-requires
kept-requires c =
    let h = message_parts c.args.version c.args.id c.args.kind c.args.fields.now (unwrap_or c.args.tail []) (forest c.args.children) c.octets_of-data.result.now (forest c.as_slice-2.result.now) c.octets_of-data.ensures.value (ap forest c.as_slice-2.ensures) (omega (arith, c.ranges.id)) c.octets_of-data.ensures.octets (rw (c.as_slice.ensures, ← c.as_slice-2.ensures) at c.extent_of-extent.ensures.lawful) c.in-None.ensures in
    omega (arith, range_length _ _ h.obeys.ranges, few_plain_fields (Message c.args.kind))

pub overflow_cast-result : goal.overflow_cast-result
overflow_cast-result c =
    let h = message_parts c.args.version c.args.id c.args.kind c.args.fields.now (unwrap_or c.args.tail []) (forest c.args.children) c.octets_of-data.result.now (forest c.as_slice-2.result.now) c.octets_of-data.ensures.value (ap forest c.as_slice-2.ensures) (omega (arith, c.ranges.id)) c.octets_of-data.ensures.octets (rw (c.as_slice.ensures, ← c.as_slice-2.ensures) at c.extent_of-extent.ensures.lawful) c.in-None.ensures in
    omega (arith, h.long, rw c.octets_of-data.ensures.value at c.body_octets.ensures.value, rw c.as_slice.ensures at c.extent_of-extent.ensures.octets)

pub invariant_of-result : goal.invariant_of-result
invariant_of-result c =
    let h = message_parts c.args.version c.args.id c.args.kind c.args.fields.now (unwrap_or c.args.tail []) (forest c.args.children) c.octets_of-data.result.now (forest c.as_slice-2.result.now) c.octets_of-data.ensures.value (ap forest c.as_slice-2.ensures) (omega (arith, c.ranges.id)) c.octets_of-data.ensures.octets (rw (c.as_slice.ensures, ← c.as_slice-2.ensures) at c.extent_of-extent.ensures.lawful) c.in-None.ensures in
    (omega (arith, rw c.octets_of-data.ensures.value at c.body_octets.ensures.value, rw c.as_slice.ensures at c.extent_of-extent.ensures.octets), rw c.kept.ensures h)

pub returns-in-None-clause-lawful : goal.returns-in-None-clause-lawful
returns-in-None-clause-lawful c =
    let h = message_parts c.args.version c.args.id c.args.kind c.args.fields.now (unwrap_or c.args.tail []) (forest c.args.children) c.octets_of-data.result.now (forest c.as_slice-2.result.now) c.octets_of-data.ensures.value (ap forest c.as_slice-2.ensures) (omega (arith, c.ranges.id)) c.octets_of-data.ensures.octets (rw (c.as_slice.ensures, ← c.as_slice-2.ensures) at c.extent_of-extent.ensures.lawful) c.in-None.ensures in
    rw c.kept.ensures h
