-- The tables' fields can be read.
use Rattle.std.proofs.Common.{◌≡◌, true, refl}
use Rattle.std.specs.List.{list_all}
use Rattle.llrp_schema.specs.declared.kinds.Kind.{Kind}
use Rattle.llrp_schema.specs.Schema.{fields_of, message_kinds, message_rule, param_kinds, param_rule, plain_fields_of, rule_of, whole_message_kinds, whole_param_kinds}
use Rattle.llrp_schema.proofs.TableLaws.{every_rule}
use Rattle.llrp_json_read.specs.Private.Words.{is_readable, plain}

-- the greatest value of each plain field is one that its form has
pub all_readable : (kind : Kind) → list_all is_readable (plain_fields_of kind) ≡ true
unfolding fields_of rule_of message_rule param_rule message_kinds whole_message_kinds param_kinds whole_param_kinds
all_readable kind = every_rule (λ row. list_all is_readable (plain row.fields)) (refl, refl) (refl, refl) kind
