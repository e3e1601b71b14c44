-- The groups before have not the kind; those that are left share none.
use Rattle.std.proofs.Common.{◌≡◌, map, drop, true}
use Rattle.llrp_schema.specs.Calls.Schema.{group_rule}
use Rattle.llrp_schema.specs.Schema.{groups_of}
use Rattle.llrp_tree.specs.Tree.{Forest}
use Rattle.llrp_tree.specs.Lawful.{has_place}
use Rattle.llrp_tree.specs.OpenTree.{takes_more}
use Rattle.llrp_tree.proofs.KindLemmas.{are_apart}
use Rattle.llrp_tree.proofs.decode.groups.group_of.Given as goal

abbrev pub invariant-loop-group : goal.invariant-loop-group
invariant-loop-group l = record {
  placed : has_place (map group_rule (drop l.group-index l.groups)) l.kind ≡ has_place (groups_of l.fn.parent) l.kind;
  takes : (children : Forest) → takes_more (map group_rule (drop l.group-index l.groups)) l.kind children ≡ takes_more (groups_of l.fn.parent) l.kind children;
  apart : are_apart (map group_rule (drop l.group-index l.groups)) ≡ true;
}
