-- Whole nodes as begun ones of which all is read, and how long their digits are.
use Rattle.std.proofs.Common.{◌≡◌, ℕ, ◌^◌, Bool, true, false, ◌&&◌, List, [], ◌∷◌, ◌++◌, length, drop, Option, Some, None, refl, sym, ap, ◌∙◌}
use Rattle.std.specs.Prelude.{nat_lt, unwrap_or}
use Rattle.std.proofs.lemmas.Bool.{ltb-true}
use Rattle.tag_bits.specs.Digits.{digits_of_bytes}
use Rattle.tag_bits.proofs.ByteLemmas.{bytes-nil}
use Rattle.llrp_schema.specs.declared.kinds.Kind.{Kind}
use Rattle.llrp_schema.specs.declared.kinds.ParamKind.{ParamKind}
use Rattle.llrp_schema.specs.declared.kinds.Tail.{Tail}
use Rattle.llrp_schema.specs.declared.kinds.Tail.TheVariants.{Absent, Words, Text, Bits, Data}
use Rattle.llrp_schema.specs.Schema.{whole_message_kinds, whole_param_kinds, FieldRule, GroupRule, fields_of, tail_of, groups_of, rule_of, message_rule, param_rule, message_kinds, param_kinds}
use Rattle.llrp_schema.proofs.TableLaws.{every_rule, data_groups}
use Rattle.llrp_tree.specs.Lawful.{AreOctets, IsTail, has_place}
use Rattle.llrp_tree.specs.Spelling.{spread, field_digits, tail_digits, body_digits}
use Rattle.llrp_tree.specs.OpenTree.{tail_due, field_due, Due, Rest, read_digits, leading_digits, AreLeading, plain_values, IsReadTail}
use Rattle.llrp_tree.specs.Calls.OpenTree.{as_read}
use Rattle.llrp_tree.proofs.LawLemmas.{both}
use Rattle.llrp_tree.proofs.Leading.{AreRules, spread-plain}

-- ---- the tables

abbrev rules_test : List FieldRule → Bool
rules_test [] = true
rules_test (r ∷ rules) = nat_lt 0 r.width && (nat_lt r.greatest (2 ^ r.width) && rules_test rules)

rules_pass : (rules : List FieldRule) → rules_test rules ≡ true → AreRules rules
rules_pass [] e = tt
rules_pass (r ∷ rules) e =
    let p = both (nat_lt 0 r.width) (nat_lt r.greatest (2 ^ r.width) && rules_test rules) e in
    let q = both (nat_lt r.greatest (2 ^ r.width)) (rules_test rules) p.1 in
    (ltb-true 0 r.width p.0, ltb-true r.greatest (2 ^ r.width) q.0, rules_pass rules q.1)

-- each field of the tables has some bits, and its values fit them
pub are_rules : (kind : Kind) → AreRules (fields_of kind)
unfolding fields_of rule_of message_rule param_rule message_kinds whole_message_kinds param_kinds whole_param_kinds
are_rules kind = rules_pass (fields_of kind) (every_rule (λ row. rules_test row.fields) (refl, refl) (refl, refl) kind)

-- a kind with data has no place for a child
pub data_childless : (kind : Kind) (child : ParamKind) → tail_of kind ≡ Data → has_place (groups_of kind) child ≡ true → ⊥
data_childless kind child e h = absurd (let z : false ≡ true = ap (λ (x : List GroupRule). has_place x child) (sym (data_groups kind e)) ∙ h in cc)

-- ---- from begun nodes of which all is read to whole ones

pub no_field_due : (rules : List FieldRule) (after : Due) → field_due rules after ≡ Rest → (rules ≡ []) × (after ≡ Rest)
no_field_due [] after e = (refl, e)
no_field_due (r ∷ rules) after e = absurd cc

read_tail_digits : (form : Tail) (tail : Option (List ℕ)) → tail_due form tail ≡ Rest → read_digits form tail ≡ tail_digits form (unwrap_or tail [])
read_tail_digits Absent None e = sym bytes-nil
read_tail_digits Words None e = absurd cc
read_tail_digits Text None e = absurd cc
read_tail_digits Bits None e = absurd cc
read_tail_digits Data None e = absurd cc
read_tail_digits form (Some os) e = refl

pub closed_digits : (kind : Kind) (fields : List ℕ) (tail : Option (List ℕ)) → AreLeading (fields_of kind) fields → drop (length fields) (fields_of kind) ≡ [] → tail_due (tail_of kind) tail ≡ Rest
    → leading_digits kind fields tail ≡ body_digits kind (plain_values (fields_of kind) fields) (unwrap_or tail [])
unfolding leading_digits body_digits
closed_digits kind fields tail h e d = rw (spread-plain (fields_of kind) fields h e, read_tail_digits (tail_of kind) tail d) refl

pub whole_tail : (form : Tail) (fields : List ℕ) (tail : Option (List ℕ)) → IsReadTail form fields tail → tail_due form tail ≡ Rest → IsTail form fields (unwrap_or tail []) × AreOctets (unwrap_or tail [])
whole_tail Absent fields None h e = (refl, tt)
whole_tail Words fields None h e = absurd cc
whole_tail Text fields None h e = absurd cc
whole_tail Bits fields None h e = absurd cc
whole_tail Data fields None h e = absurd cc
whole_tail form fields (Some os) h e = (h.1, h.2)

-- ---- and back

pub read_is_rest : (form : Tail) (os : List ℕ) → tail_due form (as_read form os) ≡ Rest
read_is_rest Absent os = refl
read_is_rest Words os = refl
read_is_rest Text os = refl
read_is_rest Bits os = refl
read_is_rest Data os = refl

pub read_again : (form : Tail) (fields os : List ℕ) → IsTail form fields os → unwrap_or (as_read form os) [] ≡ os
read_again Absent fields os h = sym h
read_again Words fields os h = refl
read_again Text fields os h = refl
read_again Bits fields os h = refl
read_again Data fields os h = refl

pub is_read_tail : (form : Tail) (fields os : List ℕ) → IsTail form fields os → AreOctets os → IsReadTail form fields (as_read form os)
is_read_tail Absent fields os h o = tt
is_read_tail Words fields os h o = (refl, h, o)
is_read_tail Text fields os h o = (refl, h, o)
is_read_tail Bits fields os h o = (refl, h, o)
is_read_tail Data fields os h o = (refl, h, o)

as_read_digits : (form : Tail) (fields os : List ℕ) → IsTail form fields os → read_digits form (as_read form os) ≡ tail_digits form os
as_read_digits Absent fields os h = sym (ap digits_of_bytes h ∙ bytes-nil)
as_read_digits Words fields os h = refl
as_read_digits Text fields os h = refl
as_read_digits Bits fields os h = refl
as_read_digits Data fields os h = refl

-- all that is read of a whole node spells its own digits
pub read_body : (kind : Kind) (fields tail : List ℕ) → IsTail (tail_of kind) fields tail → leading_digits kind (spread (fields_of kind) fields) (as_read (tail_of kind) tail) ≡ body_digits kind fields tail
unfolding leading_digits body_digits
read_body kind fields tail h = ap (λ (x : List Bool). field_digits (fields_of kind) (spread (fields_of kind) fields) ++ x) (as_read_digits (tail_of kind) fields tail h)
