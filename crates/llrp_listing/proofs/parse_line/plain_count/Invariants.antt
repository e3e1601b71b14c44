use Rattle.std.proofs.Common.{◌≡◌, ◌+◌, ◌≤◌, length, drop, map}
use Rattle.llrp_schema.specs.Calls.Schema.{field_rule}
use Rattle.llrp_listing.specs.Private.LineReading.{forms_of}
use Rattle.llrp_listing.proofs.parse_line.plain_count.Given as goal

abbrev pub invariant-loop-rule : goal.invariant-loop-rule
invariant-loop-rule l = (l.count + length (forms_of (map field_rule (drop l.rule-index l.rules))) ≡ length (forms_of (map field_rule l.rules))) × (l.count ≤ l.rule-index)
