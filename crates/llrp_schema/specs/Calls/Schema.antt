-- Beside Schema: what contracts say that no promise rests on.
use Rattle.std.specs.Prelude.{ℕ, List, Option, find, nat_eq}
use Rattle.std.specs.Cmp.Lexicographic.{pointwise}
use Rattle.llrp_schema.specs.declared.kinds.MsgKind.{MsgKind}
use Rattle.llrp_schema.specs.declared.kinds.ParamKind.{ParamKind}
use Rattle.llrp_schema.specs.declared.kinds.Kind.TheVariants.{Message, Parameter}
use Rattle.llrp_schema.specs.declared.kinds.KindSet.{KindSet}
use Rattle.llrp_schema.specs.declared.kinds.KindSet.TheVariants.{Profile}
use Rattle.llrp_schema.specs.declared.kinds.Field.{Field}
use Rattle.llrp_schema.specs.declared.kinds.Group.{Group}
use Rattle.llrp_schema.specs.Schema.{FieldRule, GroupRule, any_field, name_of, messages_of, params_of, message_in, tlv_in, tv_in}

-- what a field of the program says
abbrev pub field_rule : Field → FieldRule
field_rule any_field = record { name = any_field.name.now; width = any_field.width; reserved = any_field.reserved; greatest = any_field.greatest; signed = any_field.signed }

-- what a group of the program says
abbrev pub group_rule : Group → GroupRule
group_rule group = record { members = group.members.now; least = group.least; most = group.most }

-- the message with a name
unfoldable pub message_named_in : KindSet → List ℕ → Option MsgKind
message_named_in p name = find (λ kind. pointwise nat_eq (name_of (Message kind)) name) (messages_of p)

-- the parameter with a name
unfoldable pub param_named_in : KindSet → List ℕ → Option ParamKind
param_named_in p name = find (λ kind. pointwise nat_eq (name_of (Parameter kind)) name) (params_of p)

-- the same of the profile
abbrev pub message_with_number : ℕ → Option MsgKind
message_with_number number = message_in Profile number

abbrev pub tlv_with_number : ℕ → Option ParamKind
tlv_with_number number = tlv_in Profile number

abbrev pub tv_with_number : ℕ → Option ParamKind
tv_with_number number = tv_in Profile number

abbrev pub message_with_name : List ℕ → Option MsgKind
message_with_name name = message_named_in Profile name

abbrev pub param_with_name : List ℕ → Option ParamKind
param_with_name name = param_named_in Profile name
