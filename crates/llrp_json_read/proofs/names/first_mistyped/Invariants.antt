use Rattle.std.proofs.Common.{◌≡◌, drop}
use Rattle.std.specs.Prelude.{map}
use Rattle.json.specs.Value.{value_view}
use Rattle.llrp_json_read.specs.ObjectMembers.{mistyped}
use Rattle.llrp_json_read.specs.Private.Words.{member_rule}
use Rattle.llrp_json_read.proofs.names.first_mistyped.Given as goal

abbrev pub invariant-loop-rule : goal.invariant-loop-rule
invariant-loop-rule l = mistyped (value_view l.object) (map member_rule (drop l.rule-index l.rules)) ≡ mistyped (value_view l.object) (map member_rule l.rules)
