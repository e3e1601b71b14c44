use Rattle.std.proofs.Common.{◌≡◌, length, ap, ◌∙◌, arith}
use Rattle.std.specs.Prelude.{map}
use Rattle.std.proofs.lemmas.List.{length-map}
use Rattle.llrp_schema.specs.Calls.Schema.{field_rule}
use Rattle.llrp_schema.specs.Schema.{plain_fields_of}
use Rattle.llrp_schema.proofs.TableLaws.{few_plain_fields}
use Rattle.llrp_json_read.specs.MemberRules.{field_member}
use Rattle.llrp_json_read.specs.Private.Words.{field_members}
use Rattle.llrp_json_read.proofs.rules.member_rules.Goals as goal

pub push_fields-requires : goal.push_fields-requires
push_fields-requires c =
    let fields : length (field_members (map field_rule c.fields.result.now)) ≡ length (plain_fields_of c.args.kind) = ap (λ rules. length (field_members rules)) c.fields.ensures ∙ length-map (plain_fields_of c.args.kind) field_member in
    record { room = omega (arith, fields, few_plain_fields c.args.kind, c.first_members-rules.ensures.few) }
