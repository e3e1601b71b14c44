-- The profile as a part of the whole standard: its rows are those of the standard without what it leaves out, and with names of its own for some fields.
use Rattle.std.specs.Prelude.{◌≡◌, ℕ, Bool, List, [], ◌∷◌, Option, Some, option_map, filter, find, map, ◌==◌}
use Rattle.std.specs.List.{list_any}
use Rattle.llrp_schema.specs.declared.kinds.MsgKind.{MsgKind}
use Rattle.llrp_schema.specs.declared.kinds.ParamKind.{ParamKind}
use Rattle.llrp_schema.specs.declared.kinds.Kind.TheVariants.{Message, Parameter}
use Rattle.llrp_schema.specs.declared.kinds.KindSet.TheVariants.{Standard}
use Rattle.llrp_schema.specs.declared.kinds.Tail.{Tail}
use Rattle.llrp_schema.specs.Schema.{FieldRule, GroupRule, KindRule, message_in, number_of, param_kinds, rule_of, whole_param_kinds}

-- the numbers of the kinds of a group that the profile has
abbrev pub own_numbers : GroupRule → List ℕ
own_numbers group = map (λ kind. number_of (Parameter kind)) (filter (λ kind. list_any (λ m. number_of (Parameter m) == number_of (Parameter kind)) group.members) param_kinds)

-- the groups that have such kinds, each with their numbers and its bounds
abbrev pub with_group : List ℕ → GroupRule → List (List ℕ × ℕ × Option ℕ) → List (List ℕ × ℕ × Option ℕ)
with_group [] group groups = groups
with_group (n ∷ ns) group groups = (n ∷ ns, group.least, group.most) ∷ groups

abbrev pub own_groups : List GroupRule → List (List ℕ × ℕ × Option ℕ)
own_groups [] = []
own_groups (group ∷ groups) = with_group (own_numbers group) group (own_groups groups)

-- what a field is, whatever its name is
abbrev pub field_shape : FieldRule → ℕ × Bool × ℕ × Bool
field_shape field = (field.width, field.reserved, field.greatest, field.signed)

-- a row without what the profile leaves out, and without the names of its fields
pub record Part : Type 0 where
  pub number : ℕ
  pub name : List ℕ
  pub fields : List (ℕ × Bool × ℕ × Bool)
  pub tail : Tail
  pub groups : List (List ℕ × ℕ × Option ℕ)

abbrev pub part_of : KindRule → Part
part_of rule = record { number = rule.number; name = rule.name; fields = map field_shape rule.fields; tail = rule.tail; groups = own_groups rule.groups }

-- the row of the whole standard with the message's number has the same part
abbrev pub IsPartOfMessage : MsgKind → Type 0
IsPartOfMessage kind = option_map (λ whole. part_of (rule_of (Message whole))) (message_in Standard (number_of (Message kind))) ≡ Some (part_of (rule_of (Message kind)))

-- and that with the parameter's number
abbrev pub IsPartOfParameter : ParamKind → Type 0
IsPartOfParameter kind = option_map (λ whole. part_of (rule_of (Parameter whole))) (find (λ whole. number_of (Parameter whole) == number_of (Parameter kind)) whole_param_kinds) ≡ Some (part_of (rule_of (Parameter kind)))
