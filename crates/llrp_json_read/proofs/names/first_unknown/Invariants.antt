use Rattle.std.proofs.Common.{◌≡◌, drop}
use Rattle.std.specs.Prelude.{map}
use Rattle.json.specs.Value.{members_view}
use Rattle.llrp_json_read.specs.ObjectMembers.{unknown}
use Rattle.llrp_json_read.specs.Private.Words.{member_rule}
use Rattle.llrp_json_read.proofs.names.first_unknown.Given as goal

abbrev pub invariant-loop-member : goal.invariant-loop-member
invariant-loop-member l = unknown (members_view (drop l.member-index l.members)) (map member_rule l.rules) ≡ unknown (members_view l.members) (map member_rule l.rules)
