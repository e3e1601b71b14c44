-- What holds of the kinds of the profile alone.
use Rattle.std.proofs.Common.{◌≡◌, ◌+◌, ◌*◌, ◌≤◌, Bool, true, false, not, ◌||◌, [], refl, sym, ap, ◌∙◌, arith}
use Rattle.std.specs.Prelude.{nat_le}
use Rattle.std.proofs.lemmas.Bool.{leb-true}
use Rattle.llrp_schema.specs.declared.kinds.MsgKind.{MsgKind}
use Rattle.llrp_schema.specs.declared.kinds.ParamKind.{ParamKind}
use Rattle.llrp_schema.specs.declared.kinds.Kind.TheVariants.{Message, Parameter}
use Rattle.llrp_schema.specs.declared.kinds.KindSet.{KindSet}
use Rattle.llrp_schema.specs.declared.kinds.KindSet.TheVariants.{Profile, Standard}
use Rattle.llrp_schema.specs.declared.kinds.Tail.{Tail}
use Rattle.llrp_schema.specs.declared.kinds.Tail.TheVariants.{Absent, Words, Text, Bits, Data}
use Rattle.llrp_schema.specs.Schema.{bits_of, fields_of, tail_of, set_of_kind, rule_of, message_rule, param_rule, message_kinds, whole_message_kinds, param_kinds, whole_param_kinds}
use Rattle.llrp_schema.proofs.SchemaLemmas.{implied}
use Rattle.llrp_schema.proofs.TableLaws.{every_message, every_parameter}
use Rattle.llrp_tree.proofs.MessageTails.{uncounted}
use Rattle.llrp_tree.specs.Lawful.{head_octets, body_octets, count_octets}
use Rattle.llrp_tree.specs.Calls.Lawful.{own_octets}
use Rattle.llrp_tree.proofs.SpelledLemmas.{head_fits}

abbrev is_own : KindSet → Bool
is_own Profile = true
is_own Standard = false

abbrev is_counted : Tail → Bool
is_counted Absent = true
is_counted Words = true
is_counted Text = true
is_counted Bits = true
is_counted Data = false

few_bits_own : (kind : ParamKind) → set_of_kind (Parameter kind) ≡ Profile → bits_of (fields_of (Parameter kind)) + 8 * count_octets (tail_of (Parameter kind)) ≤ 96
unfolding set_of_kind fields_of tail_of rule_of param_rule param_kinds whole_param_kinds
few_bits_own kind own = leb-true (bits_of (fields_of (Parameter kind)) + 8 * count_octets (tail_of (Parameter kind))) 96
    (implied (is_own (set_of_kind (Parameter kind))) (nat_le (bits_of (fields_of (Parameter kind)) + 8 * count_octets (tail_of (Parameter kind))) 96) (every_parameter (λ row. not (is_own row.set) || nat_le (bits_of row.fields + 8 * count_octets row.tail) 96) (refl, refl) kind) (ap is_own own))

few_message_bits_own : (kind : MsgKind) → set_of_kind (Message kind) ≡ Profile → bits_of (fields_of (Message kind)) ≤ 48
unfolding set_of_kind fields_of rule_of message_rule message_kinds whole_message_kinds
few_message_bits_own kind own = leb-true (bits_of (fields_of (Message kind))) 48
    (implied (is_own (set_of_kind (Message kind))) (nat_le (bits_of (fields_of (Message kind))) 48) (every_message (λ row. not (is_own row.set) || nat_le (bits_of row.fields) 48) (refl, refl) kind) (ap is_own own))

-- a node of the profile has sixteen octets at most before its tail
pub short_parameter : (kind : ParamKind) → set_of_kind (Parameter kind) ≡ Profile → own_octets (Parameter kind) [] ≤ 16
unfolding body_octets
short_parameter kind own = (let head = head_fits kind (8 * head_octets kind) refl in omega (arith, few_bits_own kind own, head.1))

pub short_message : (kind : MsgKind) → set_of_kind (Message kind) ≡ Profile → own_octets (Message kind) [] ≤ 16
unfolding body_octets
short_message kind own = (omega (arith, few_message_bits_own kind own, uncounted kind))

-- and no data
pub no_data : (kind : ParamKind) → set_of_kind (Parameter kind) ≡ Profile → tail_of (Parameter kind) ≡ Data → ⊥
unfolding set_of_kind tail_of rule_of param_rule param_kinds whole_param_kinds
no_data kind own same = absurd (let z : false ≡ true = ap is_counted (sym same) ∙ implied (is_own (set_of_kind (Parameter kind))) (is_counted (tail_of (Parameter kind))) (every_parameter (λ row. not (is_own row.set) || is_counted row.tail) (refl, refl) kind) (ap is_own own) in cc)
