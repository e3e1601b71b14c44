-- A message without fields has no tail.
use Rattle.std.proofs.Common.{◌≡◌, Bool, true, false, not, ◌||◌, List, [], ◌∷◌, refl, ap}
use Rattle.llrp_schema.specs.declared.kinds.MsgKind.{MsgKind}
use Rattle.llrp_schema.specs.declared.kinds.Kind.TheVariants.{Message}
use Rattle.llrp_schema.specs.declared.kinds.Tail.{Tail}
use Rattle.llrp_schema.specs.declared.kinds.Tail.TheVariants.{Absent, Words, Text, Bits, Data}
use Rattle.llrp_schema.specs.Schema.{FieldRule, fields_of, tail_of, rule_of, message_rule, message_kinds, whole_message_kinds}
use Rattle.llrp_schema.proofs.SchemaLemmas.{implied}
use Rattle.llrp_schema.proofs.TableLaws.{every_message}

abbrev has_none : List FieldRule → Bool
has_none [] = true
has_none (rule ∷ rules) = false

abbrev is_absent : Tail → Bool
is_absent Absent = true
is_absent Words = false
is_absent Text = false
is_absent Bits = false
is_absent Data = false

absent : (form : Tail) → is_absent form ≡ true → form ≡ Absent
absent Absent test = refl
absent Words test = cc test
absent Text test = cc test
absent Bits test = cc test
absent Data test = cc test

pub bare_tail : (kind : MsgKind) → fields_of (Message kind) ≡ [] → tail_of (Message kind) ≡ Absent
unfolding fields_of tail_of rule_of message_rule message_kinds whole_message_kinds
bare_tail kind none = absent (tail_of (Message kind)) (implied (has_none (fields_of (Message kind))) (is_absent (tail_of (Message kind))) (every_message (λ row. not (has_none row.fields) || is_absent row.tail) (refl, refl) kind) (ap has_none none))
