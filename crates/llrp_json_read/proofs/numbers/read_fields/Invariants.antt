use Rattle.std.proofs.Common.{◌≡◌, ◌++◌, List, drop, map}
use Rattle.json.specs.Value.{value_view}
use Rattle.llrp_schema.specs.Schema.{FieldRule}
use Rattle.llrp_schema.specs.Calls.Schema.{field_rule}
use Rattle.llrp_json_read.specs.ObjectSays.{SaysFields}
use Rattle.llrp_json_read.specs.Private.Words.{plain}
use Rattle.llrp_json_read.proofs.numbers.read_fields.Given as goal

abbrev pub invariant-loop-rule : goal.invariant-loop-rule
invariant-loop-rule l =
    record {
      front : List FieldRule;
      said : SaysFields front (value_view l.object) l.fields.items;
      split : plain (map field_rule l.rules) ≡ front ++ plain (map field_rule (drop l.rule-index l.rules));
    }
