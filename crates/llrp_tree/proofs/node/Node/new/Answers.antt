use Rattle.std.proofs.Common.{rules, arith, ap}
use Rattle.llrp_schema.specs.declared.kinds.Kind.TheVariants.{Parameter}
use Rattle.llrp_tree.specs.Tree.{forest}
use Rattle.llrp_tree.proofs.LawLemmas.{lawful_parts, range_length}
use Rattle.llrp_schema.proofs.TableLaws.{few_plain_fields}
use Rattle.llrp_tree.proofs.node.Node.new.Goals as goal

pub kept-requires : goal.kept-requires
kept-requires c =
    let h = lawful_parts c.args.kind c.args.fields.now c.args.tail (forest c.args.children) c.as_slice-3.result.now (forest c.as_slice-4.result.now) c.as_slice-3.ensures.value (ap forest c.as_slice-4.ensures) c.as_slice-3.ensures.octets c.in-None.ensures in
    omega (arith, range_length _ _ h.obeys.ranges, few_plain_fields (Parameter c.args.kind))

pub overflow_cast-result : goal.overflow_cast-result
overflow_cast-result c =
    let h = lawful_parts c.args.kind c.args.fields.now c.args.tail (forest c.args.children) c.as_slice-3.result.now (forest c.as_slice-4.result.now) c.as_slice-3.ensures.value (ap forest c.as_slice-4.ensures) c.as_slice-3.ensures.octets c.in-None.ensures in
    omega (arith, h.long, c.head_octets.ensures.value, rw c.as_slice-2.ensures.value at c.body_octets.ensures.value, rw c.as_slice.ensures at c.extent_of-extent.ensures.octets)

pub invariant_of-result : goal.invariant_of-result
invariant_of-result c =
    let h = lawful_parts c.args.kind c.args.fields.now c.args.tail (forest c.args.children) c.as_slice-3.result.now (forest c.as_slice-4.result.now) c.as_slice-3.ensures.value (ap forest c.as_slice-4.ensures) c.as_slice-3.ensures.octets c.in-None.ensures in (
      omega (arith, c.head_octets.ensures.value, rw c.as_slice-2.ensures.value at c.body_octets.ensures.value, rw c.as_slice.ensures at c.extent_of-extent.ensures.octets),
      omega (arith, rw c.as_slice.ensures at c.extent_of-extent.ensures.levels),
      (rw c.kept.ensures h, rw c.as_slice.ensures at c.extent_of-extent.ensures.lawful),
    )

pub returns-in-None-clause-lawful : goal.returns-in-None-clause-lawful
returns-in-None-clause-lawful c =
    let h = lawful_parts c.args.kind c.args.fields.now c.args.tail (forest c.args.children) c.as_slice-3.result.now (forest c.as_slice-4.result.now) c.as_slice-3.ensures.value (ap forest c.as_slice-4.ensures) c.as_slice-3.ensures.octets c.in-None.ensures in
    (rw c.kept.ensures h, rw c.as_slice.ensures at c.extent_of-extent.ensures.lawful)

pub first_fault-requires-clause-few : goal.first_fault-requires-clause-few
first_fault-requires-clause-few c = search rules
