use Rattle.std.proofs.Common.{refl, sym, ap, ◌∙◌, map, drop, drop-cons}
use Rattle.llrp_schema.specs.Calls.Schema.{group_rule}
use Rattle.llrp_tree.proofs.KindLemmas.{parent_apart, first_decides}
use Rattle.llrp_tree.proofs.decode.groups.group_of.Goals as goal

pub loop-group-init : goal.loop-group-init
loop-group-init c = record {
  placed = rw c.groups-groups.ensures refl;
  takes = λ children. rw c.groups-groups.ensures refl;
  apart = rw c.groups-groups.ensures (parent_apart c.args.parent);
}

pub returns-then-is_member-clause-some : goal.returns-then-is_member-clause-some
returns-then-is_member-clause-some c = λ children.
    first_decides c.args.kind _ _ (map group_rule (drop c.loop-group.group-index c.groups-groups.result.now)) _ children
    (ap (map group_rule) (drop-cons c.groups-groups.result.now c.loop-group.group-index _ c.loop-group-test.true))
    (sym c.is_member.ensures ∙ c.if-is_member.true) c.loop-group.invariant.apart (c.loop-group.invariant.takes children)
