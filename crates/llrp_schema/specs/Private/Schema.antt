-- Beside Schema: words of private functions.
use Rattle.std.specs.Prelude.{map}
use Rattle.llrp_schema.specs.declared.kinds.Definition.{Definition}
use Rattle.llrp_schema.specs.Schema.{KindRule}
use Rattle.llrp_schema.specs.Calls.Schema.{field_rule, group_rule}

-- what a row of the program says
abbrev pub kind_rule : Definition → KindRule
kind_rule row = record { set = row.set; number = row.number; name = row.name.now; fields = map field_rule row.fields.now; tail = row.tail; groups = map group_rule row.groups.now }
