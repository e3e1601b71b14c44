use Rattle.std.proofs.Common.{◌≡◌, ◌+◌, ◌≤◌, ◌++◌, drop, length}
use Rattle.std.specs.Prelude.{map}
use Rattle.llrp_schema.specs.Calls.Schema.{field_rule}
use Rattle.llrp_json_read.specs.Private.Words.{field_members}
use Rattle.llrp_json_read.specs.Private.Words.{member_rule}
use Rattle.llrp_json_read.proofs.rules.push_fields.Given as goal

abbrev pub invariant-loop-field : goal.invariant-loop-field
invariant-loop-field l =
    record {
      pushed : map member_rule l.rules.items ++ field_members (map field_rule (drop l.field-index l.fields)) ≡ map member_rule l.initial.rules.items ++ field_members (map field_rule l.fields);
      room : length l.rules.items + length (field_members (map field_rule (drop l.field-index l.fields))) ≤ 15;
    }
