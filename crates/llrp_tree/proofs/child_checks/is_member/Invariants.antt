use Rattle.std.proofs.Common.{◌≡◌, drop}
use Rattle.std.specs.List.{list_any}
use denote.Enum.Bare.{sameb}
use Rattle.llrp_schema.specs.contracts.kinds.ParamKind.{the_type}
use Rattle.llrp_schema.specs.Calls.Schema.{group_rule}
use Rattle.llrp_tree.specs.Lawful.{is_member}
use Rattle.llrp_tree.proofs.child_checks.is_member.Given as goal

abbrev pub invariant-loop-member : goal.invariant-loop-member
invariant-loop-member l = list_any (λ k. sameb the_type k l.kind) (drop l.member-index l.group.members.now) ≡ is_member (group_rule l.group) l.kind
