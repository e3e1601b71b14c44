use Rattle.std.proofs.Common.{◌≡◌, drop}
use Rattle.std.specs.Prelude.{map}
use Rattle.json.specs.Value.{members_view}
use Rattle.llrp_json_read.specs.ObjectMembers.{missing}
use Rattle.llrp_json_read.specs.Private.Words.{member_rule}
use Rattle.llrp_json_read.proofs.names.first_missing.Given as goal

abbrev pub invariant-loop-rule : goal.invariant-loop-rule
invariant-loop-rule l = missing (members_view l.members) (map member_rule (drop l.rule-index l.rules)) ≡ missing (members_view l.members) (map member_rule l.rules)
