use Rattle.std.proofs.Common.{◌≡◌, drop}
use Rattle.std.specs.Prelude.{map}
use Rattle.json.specs.Value.{members_view}
use Rattle.llrp_json_read.specs.ObjectMembers.{twice}
use Rattle.llrp_json_read.specs.Private.Words.{member_rule}
use Rattle.llrp_json_read.proofs.names.first_twice.Given as goal

abbrev pub invariant-loop-rule : goal.invariant-loop-rule
invariant-loop-rule l = twice (members_view l.members) (map member_rule (drop l.rule-index l.rules)) ≡ twice (members_view l.members) (map member_rule l.rules)
