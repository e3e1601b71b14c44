use Rattle.std.proofs.Common.{ap, map, ◌∙◌}
use Rattle.json.specs.Value.{members_view, value_view}
use Rattle.llrp_json_read.specs.Private.Words.{member_rule}
use Rattle.llrp_json_read.proofs.MemberFaults.{fault_found}
use Rattle.llrp_json_read.proofs.nodes.check_members.Goals as goal

pub returns-in-Some-member_fault : goal.returns-in-Some-member_fault
returns-in-Some-member_fault c =
    fault_found (value_view c.args.object.now) c.args.kind (members_view c.in-Some.members.now) (map member_rule c.as_slice.result.now) c.in-Some-member_fault.name.now c.in-Some-member_fault.reason _ c.in-Some.ensures
    (ap (λ rules. map member_rule rules) c.as_slice.ensures.value ∙ c.member_rules.ensures) c.in-Some-member_fault.ensures c.at_member.ensures
