-- The laws of the tables: each is a test that the checker computes at every row, and the fact that follows from it.
use Rattle.std.proofs.Common.{arith, ◌≡◌, ◌⊎◌, inl, inr, ℕ, ◌<◌, ◌≤◌, ◌%◌, ◌^◌, ◌-◌, ◌↔◌, Bool, true, false, not, ◌&&◌, ◌||◌, List, [], ◌∷◌, Option, Some, None, IfSome, cond, length, filter, nat_eq, nat_lt, nat_le, ◌==◌, refl, sym, ap, ◌∙◌, eq-eqb, eqb-true}
use Rattle.std.proofs.lemmas.Option.{same_Some, none-some}
use Rattle.std.proofs.lemmas.Bool.{and_parts, ltb-true, leb-true}
use Rattle.std.proofs.lemmas.List.Elements.{All-contains}
use Rattle.std.specs.List.{list_all, All, AllPairs, Contains}
use Rattle.std.specs.Cmp.Lexicographic.{pointwise, same_text}
use Rattle.llrp_schema.specs.declared.kinds.MsgKind.{MsgKind}
use Rattle.llrp_schema.specs.declared.kinds.MsgKind.TheVariants.{SetReaderConfig}
use Rattle.llrp_schema.specs.declared.kinds.ParamKind.{ParamKind}
use Rattle.llrp_schema.specs.declared.kinds.ParamKind.TheVariants.{AntennaId, EpcData, WholeEpcData}
use Rattle.llrp_schema.specs.declared.kinds.KindSet.{KindSet}
use Rattle.llrp_schema.specs.declared.kinds.KindSet.TheVariants.{Profile, Standard}
use Rattle.llrp_schema.specs.declared.kinds.Tail.{Tail}
use Rattle.llrp_schema.specs.declared.kinds.Tail.TheVariants.{Absent, Words, Text, Bits, Data}
use Rattle.llrp_schema.specs.declared.kinds.Kind.{Kind}
use Rattle.llrp_schema.specs.declared.kinds.Kind.TheVariants.{Message, Parameter}
use Rattle.llrp_schema.specs.Schema.{FieldRule, GroupRule, KindRule, any_field, number_of, name_of, fields_of, tail_of, groups_of, rule_of, message_rule, param_rule, message_kinds, param_kinds, is_tv, message_in, tlv_in, tv_in, messages_of, params_of, set_of_kind, key_of, key_in, whole_message_kinds, whole_param_kinds, bits_of, plain_fields_of}
use Rattle.llrp_schema.specs.Calls.Schema.{message_named_in, param_named_in}
use Rattle.llrp_schema.proofs.SchemaLemmas.{find-all, find-passes, list_all-filter, list_all-thinned, not_true, implied, same_split, All-from_list_all, AllPairs-from_pairs_all, pairs_all}

-- a message is found at its number
pub message_at_number : (kind : MsgKind) → message_in (set_of_kind (Message kind)) (number_of (Message kind)) ≡ Some kind
unfolding set_of_kind number_of rule_of message_rule message_kinds whole_message_kinds message_in
message_at_number SetReaderConfig = refl
message_at_number _ = refl

-- a parameter with type, length and value is found at its number, and no other
pub tlv_at_number : (kind : ParamKind) → tlv_in (set_of_kind (Parameter kind)) (number_of (Parameter kind)) ≡ cond (is_tv kind) None (Some kind)
unfolding set_of_kind number_of rule_of param_rule param_kinds whole_param_kinds tlv_in is_tv
tlv_at_number AntennaId = refl
tlv_at_number _ = refl

-- a parameter with a type and a value alone is found at its number, and no other
pub tv_at_number : (kind : ParamKind) → tv_in (set_of_kind (Parameter kind)) (number_of (Parameter kind)) ≡ cond (is_tv kind) (Some kind) None
unfolding set_of_kind number_of rule_of param_rule param_kinds whole_param_kinds tv_in is_tv
tv_at_number AntennaId = refl
tv_at_number _ = refl

-- a message is found at its name
pub message_at_name : (kind : MsgKind) → message_named_in (set_of_kind (Message kind)) (name_of (Message kind)) ≡ Some kind
unfolding set_of_kind name_of rule_of message_rule message_kinds whole_message_kinds message_named_in
message_at_name SetReaderConfig = refl
message_at_name _ = refl

-- a parameter is found at its name
pub param_at_name : (kind : ParamKind) → param_named_in (set_of_kind (Parameter kind)) (name_of (Parameter kind)) ≡ Some kind
unfolding set_of_kind name_of rule_of param_rule param_kinds whole_param_kinds param_named_in
param_at_name AntennaId = refl
param_at_name _ = refl

-- no message has a parameter's name
pub no_message_at_name : (p : KindSet) (kind : ParamKind) → message_named_in p (name_of (Parameter kind)) ≡ None
unfolding name_of rule_of message_rule param_rule message_kinds whole_message_kinds message_named_in
no_message_at_name Profile AntennaId = refl
no_message_at_name Profile _ = refl
no_message_at_name Standard AntennaId = refl
no_message_at_name Standard _ = refl

-- a test that both lists pass
both_messages : (test : MsgKind → Bool) → (list_all test message_kinds ≡ true) × (list_all test whole_message_kinds ≡ true) → (p : KindSet) → list_all test (messages_of p) ≡ true
both_messages test pass Profile = pass.0
both_messages test pass Standard = pass.1

both_params : (test : ParamKind → Bool) → (list_all test param_kinds ≡ true) × (list_all test whole_param_kinds ≡ true) → (p : KindSet) → list_all test (params_of p) ≡ true
both_params test pass Profile = pass.0
both_params test pass Standard = pass.1

-- a test of rows that passes at every listed message passes at every message
pub every_message : (test : KindRule → Bool) → (list_all (λ kind. test (rule_of (Message kind))) message_kinds ≡ true) × (list_all (λ kind. test (rule_of (Message kind))) whole_message_kinds ≡ true) → (kind : MsgKind) → test (rule_of (Message kind)) ≡ true
unfolding message_in
every_message test pass kind = find-all (λ other. number_of (Message other) == number_of (Message kind)) (λ other. test (rule_of (Message other))) (messages_of (set_of_kind (Message kind))) kind (both_messages (λ other. test (rule_of (Message other))) pass (set_of_kind (Message kind))) (message_at_number kind)

-- and one that passes at every listed parameter at every parameter
pub every_parameter : (test : KindRule → Bool) → (list_all (λ kind. test (rule_of (Parameter kind))) param_kinds ≡ true) × (list_all (λ kind. test (rule_of (Parameter kind))) whole_param_kinds ≡ true) → (kind : ParamKind) → test (rule_of (Parameter kind)) ≡ true
unfolding param_named_in
every_parameter test pass kind = find-all (λ other. pointwise nat_eq (name_of (Parameter other)) (name_of (Parameter kind))) (λ other. test (rule_of (Parameter other))) (params_of (set_of_kind (Parameter kind))) kind (both_params (λ other. test (rule_of (Parameter other))) pass (set_of_kind (Parameter kind))) (param_at_name kind)

-- a test of rows that passes at every listed kind passes at every kind
pub every_rule : (test : KindRule → Bool) → (list_all (λ kind. test (rule_of (Message kind))) message_kinds ≡ true) × (list_all (λ kind. test (rule_of (Message kind))) whole_message_kinds ≡ true) → (list_all (λ kind. test (rule_of (Parameter kind))) param_kinds ≡ true) × (list_all (λ kind. test (rule_of (Parameter kind))) whole_param_kinds ≡ true) → (kind : Kind) → test (rule_of kind) ≡ true
every_rule test messages parameters (Message kind) = every_message test messages kind
every_rule test messages parameters (Parameter kind) = every_parameter test parameters kind

-- a search by number finds a parameter with a length that has the number
pub tlv_found_in : (p : KindSet) (number : ℕ) (kind : ParamKind) → tlv_in p number ≡ Some kind → (is_tv kind ≡ false) × (number_of (Parameter kind) ≡ number)
unfolding tlv_in
tlv_found_in p number kind found = (
  not_true (is_tv kind) (find-all (λ other. number_of (Parameter other) == number) (λ other. not (is_tv other)) (filter (λ other. not (is_tv other)) (params_of p)) kind (list_all-filter (λ other. not (is_tv other)) (params_of p)) found),
  eqb-true (number_of (Parameter kind)) number (find-passes (λ other. number_of (Parameter other) == number) (filter (λ other. not (is_tv other)) (params_of p)) kind found),
)

-- and one with a type and a value alone that has the number
pub tv_found_in : (p : KindSet) (number : ℕ) (kind : ParamKind) → tv_in p number ≡ Some kind → (is_tv kind ≡ true) × (number_of (Parameter kind) ≡ number)
unfolding tv_in
tv_found_in p number kind found = (
  find-all (λ other. number_of (Parameter other) == number) is_tv (filter is_tv (params_of p)) kind (list_all-filter is_tv (params_of p)) found,
  eqb-true (number_of (Parameter kind)) number (find-passes (λ other. number_of (Parameter other) == number) (filter is_tv (params_of p)) kind found),
)

abbrev same_as : KindSet → KindSet → Bool
same_as Profile Profile = true
same_as Profile Standard = false
same_as Standard Profile = false
same_as Standard Standard = true

same_is : (p q : KindSet) → same_as p q ≡ true → p ≡ q
same_is Profile Profile e = refl
same_is Profile Standard e = cc e
same_is Standard Profile e = cc e
same_is Standard Standard e = refl

listed_there : (p : KindSet) → list_all (λ other. same_as (set_of_kind (Message other)) p) (messages_of p) ≡ true
unfolding set_of_kind rule_of message_rule message_kinds whole_message_kinds
listed_there Profile = refl
listed_there Standard = refl

-- a search by number finds a message of that profile that has the number
pub message_found_in : (p : KindSet) (number : ℕ) (kind : MsgKind) → message_in p number ≡ Some kind → (set_of_kind (Message kind) ≡ p) × (number_of (Message kind) ≡ number)
unfolding message_in
message_found_in p number kind found = (
  same_is (set_of_kind (Message kind)) p (find-all (λ other. number_of (Message other) == number) (λ other. same_as (set_of_kind (Message other)) p) (messages_of p) kind (listed_there p) found),
  eqb-true (number_of (Message kind)) number (find-passes (λ other. number_of (Message other) == number) (messages_of p) kind found),
)

-- each parameter that is listed is of the profile
params_there : (p : KindSet) → list_all (λ other. same_as (set_of_kind (Parameter other)) p) (params_of p) ≡ true
unfolding set_of_kind rule_of param_rule param_kinds whole_param_kinds
params_there Profile = refl
params_there Standard = refl

-- a search by number finds exactly the message of a set of kinds with the number
pub message_found : (p : KindSet) (number : ℕ) (kind : MsgKind) → (message_in p number ≡ Some kind) ↔ ((set_of_kind (Message kind) ≡ p) × (number_of (Message kind) ≡ number))
message_found p number kind = (
  message_found_in p number kind,
  (λ (there, same). ap (λ q. message_in q number) (sym there) ∙ ap (message_in (set_of_kind (Message kind))) (sym same) ∙ message_at_number kind),
)

-- what a search by number finds is of the profile
tlv_there : (p : KindSet) (number : ℕ) (kind : ParamKind) → tlv_in p number ≡ Some kind → set_of_kind (Parameter kind) ≡ p
unfolding tlv_in
tlv_there p number kind found = same_is (set_of_kind (Parameter kind)) p (find-all (λ other. number_of (Parameter other) == number) (λ other. same_as (set_of_kind (Parameter other)) p) (filter (λ other. not (is_tv other)) (params_of p)) kind (list_all-thinned (λ other. same_as (set_of_kind (Parameter other)) p) (λ other. not (is_tv other)) (params_of p) (params_there p)) found)

-- and among its parameters with a length exactly the one with the number
pub tlv_found : (p : KindSet) (number : ℕ) (kind : ParamKind) → (tlv_in p number ≡ Some kind) ↔ ((set_of_kind (Parameter kind) ≡ p) × (is_tv kind ≡ false) × (number_of (Parameter kind) ≡ number))
tlv_found p number kind = (
  (λ found. let facts = tlv_found_in p number kind found in (tlv_there p number kind found, facts.0, facts.1)),
  (λ (there, long, same). ap (λ q. tlv_in q number) (sym there) ∙ ap (tlv_in (set_of_kind (Parameter kind))) (sym same) ∙ tlv_at_number kind ∙ ap (λ b. cond b None (Some kind)) long),
)

-- what a search by number finds is of the profile
tv_there : (p : KindSet) (number : ℕ) (kind : ParamKind) → tv_in p number ≡ Some kind → set_of_kind (Parameter kind) ≡ p
unfolding tv_in
tv_there p number kind found = same_is (set_of_kind (Parameter kind)) p (find-all (λ other. number_of (Parameter other) == number) (λ other. same_as (set_of_kind (Parameter other)) p) (filter is_tv (params_of p)) kind (list_all-thinned (λ other. same_as (set_of_kind (Parameter other)) p) is_tv (params_of p) (params_there p)) found)

-- and among those with a type and a value alone exactly the one with the number
pub tv_found : (p : KindSet) (number : ℕ) (kind : ParamKind) → (tv_in p number ≡ Some kind) ↔ ((set_of_kind (Parameter kind) ≡ p) × (is_tv kind ≡ true) × (number_of (Parameter kind) ≡ number))
tv_found p number kind = (
  (λ found. let facts = tv_found_in p number kind found in (tv_there p number kind found, facts.0, facts.1)),
  (λ (there, short, same). ap (λ q. tv_in q number) (sym there) ∙ ap (tv_in (set_of_kind (Parameter kind))) (sym same) ∙ tv_at_number kind ∙ ap (λ b. cond b (Some kind) None) short),
)

-- a search by name finds exactly the message of a set of kinds with the name
pub message_name_found : (p : KindSet) (name : List ℕ) (kind : MsgKind) → (message_named_in p name ≡ Some kind) ↔ ((set_of_kind (Message kind) ≡ p) × (name_of (Message kind) ≡ name))
unfolding message_named_in
message_name_found p name kind = (
  (λ found. (
    same_is (set_of_kind (Message kind)) p (find-all (λ other. pointwise nat_eq (name_of (Message other)) name) (λ other. same_as (set_of_kind (Message other)) p) (messages_of p) kind (listed_there p) found),
    same_text (name_of (Message kind)) name (sym (find-passes (λ other. pointwise nat_eq (name_of (Message other)) name) (messages_of p) kind found)),
  )),
  (λ (there, same). ap (λ q. message_named_in q name) (sym there) ∙ ap (message_named_in (set_of_kind (Message kind))) (sym same) ∙ message_at_name kind),
)

-- and exactly its parameter with the name
pub param_name_found : (p : KindSet) (name : List ℕ) (kind : ParamKind) → (param_named_in p name ≡ Some kind) ↔ ((set_of_kind (Parameter kind) ≡ p) × (name_of (Parameter kind) ≡ name))
unfolding param_named_in
param_name_found p name kind = (
  (λ found. (
    same_is (set_of_kind (Parameter kind)) p (find-all (λ other. pointwise nat_eq (name_of (Parameter other)) name) (λ other. same_as (set_of_kind (Parameter other)) p) (params_of p) kind (params_there p) found),
    same_text (name_of (Parameter kind)) name (sym (find-passes (λ other. pointwise nat_eq (name_of (Parameter other)) name) (params_of p) kind found)),
  )),
  (λ (there, same). ap (λ q. param_named_in q name) (sym there) ∙ ap (param_named_in (set_of_kind (Parameter kind))) (sym same) ∙ param_at_name kind),
)

-- no two kinds of one set have one name
pub names_in : (a b : Kind) → set_of_kind a ≡ set_of_kind b → name_of a ≡ name_of b → a ≡ b
names_in (Message a) (Message b) there same = ap (λ kind. Message kind) (same_Some a b (sym (message_at_name a) ∙ ap (λ p. message_named_in p (name_of (Message a))) there ∙ ap (message_named_in (set_of_kind (Message b))) same ∙ message_at_name b))
names_in (Message a) (Parameter b) there same = absurd (none-some a (sym (no_message_at_name (set_of_kind (Message a)) b) ∙ ap (message_named_in (set_of_kind (Message a))) (sym same) ∙ message_at_name a))
names_in (Parameter a) (Message b) there same = absurd (none-some b (sym (no_message_at_name (set_of_kind (Message b)) a) ∙ ap (message_named_in (set_of_kind (Message b))) same ∙ message_at_name b))
names_in (Parameter a) (Parameter b) there same = ap (λ kind. Parameter kind) (same_Some a b (sym (param_at_name a) ∙ ap (λ p. param_named_in p (name_of (Parameter a))) there ∙ ap (param_named_in (set_of_kind (Parameter b))) same ∙ param_at_name b))

-- no two messages of one set have one number
pub message_numbers_in : (a b : MsgKind) → set_of_kind (Message a) ≡ set_of_kind (Message b) → number_of (Message a) ≡ number_of (Message b) → a ≡ b
message_numbers_in a b where_ same = same_Some a b (sym (message_at_number a) ∙ ap (λ p. message_in p (number_of (Message a))) where_ ∙ ap (message_in (set_of_kind (Message b))) same ∙ message_at_number b)

-- no two parameters of one set have one number
pub param_numbers_in : (a b : ParamKind) → set_of_kind (Parameter a) ≡ set_of_kind (Parameter b) → number_of (Parameter a) ≡ number_of (Parameter b) → a ≡ b
param_numbers_in a b where_ same = same_split (is_tv a) (is_tv b) a b
    (sym (tlv_at_number a) ∙ ap (λ p. tlv_in p (number_of (Parameter a))) where_ ∙ ap (tlv_in (set_of_kind (Parameter b))) same ∙ tlv_at_number b)
    (sym (tv_at_number a) ∙ ap (λ p. tv_in p (number_of (Parameter a))) where_ ∙ ap (tv_in (set_of_kind (Parameter b))) same ∙ tv_at_number b)

-- the number of a parameter fits its header
small_number : (kind : ParamKind) → number_of (Parameter kind) < 1024
unfolding number_of rule_of param_rule param_kinds whole_param_kinds
small_number kind = ltb-true (number_of (Parameter kind)) 1024 (every_parameter (λ row. nat_lt row.number 1024) (refl, refl) kind)

keys_apart : (p q : KindSet) (m n : ℕ) → m < 1024 → n < 1024 → key_in p m ≡ key_in q n → (p ≡ q) × (m ≡ n)
keys_apart Profile Profile m n small less same = (refl, same)
keys_apart Profile Standard m n small less same = absurd (omega arith)
keys_apart Standard Profile m n small less same = absurd (omega arith)
keys_apart Standard Standard m n small less same = (refl, omega arith)

-- no two parameters have one key
pub param_keys : (a b : ParamKind) → key_of a ≡ key_of b → a ≡ b
unfolding key_of
param_keys a b same =
    let apart = keys_apart (set_of_kind (Parameter a)) (set_of_kind (Parameter b)) (number_of (Parameter a)) (number_of (Parameter b)) (small_number a) (small_number b) same in
    param_numbers_in a b apart.0 apart.1

-- the number of a message fits its header
pub message_number_fits : (kind : MsgKind) → number_of (Message kind) < 2 ^ 10
unfolding number_of rule_of message_rule message_kinds whole_message_kinds
message_number_fits kind = ltb-true (number_of (Message kind)) (2 ^ 10) (every_message (λ row. nat_lt row.number (2 ^ 10)) (refl, refl) kind)

-- the number of a parameter fits its header
pub param_number_fits : (kind : ParamKind) → number_of (Parameter kind) < 2 ^ 10
unfolding number_of rule_of param_rule param_kinds whole_param_kinds
param_number_fits kind = ltb-true (number_of (Parameter kind)) (2 ^ 10) (every_parameter (λ row. nat_lt row.number (2 ^ 10)) (refl, refl) kind)

-- whether a name begins with a capital letter
abbrev begins_with_capital : List ℕ → Bool
begins_with_capital [] = false
begins_with_capital (c ∷ cs) = nat_le 65 c && nat_le c 90

-- what follows from that test
capital : (name : List ℕ) → begins_with_capital name ≡ true → (first : ℕ) × (rest : List ℕ) × (name ≡ first ∷ rest) × (65 ≤ first) × (first ≤ 90)
capital [] test = cc test
capital (c ∷ cs) test = let parts = and_parts (nat_le 65 c) (nat_le c 90) test in (c, cs, refl, leb-true 65 c parts.0, leb-true c 90 parts.1)

-- names begin with a capital letter
pub name_begins : (kind : Kind) → (first : ℕ) × (rest : List ℕ) × (name_of kind ≡ first ∷ rest) × (65 ≤ first) × (first ≤ 90)
unfolding name_of rule_of message_rule param_rule message_kinds param_kinds whole_message_kinds whole_param_kinds
name_begins kind = capital (name_of kind) (every_rule (λ row. begins_with_capital row.name) (refl, refl) (refl, refl) kind)

-- what follows from the test of a visible character
visible : (c : ℕ) → (nat_le 33 c && nat_le c 126) ≡ true → (33 ≤ c) × (c ≤ 126)
visible c test = let parts = and_parts (nat_le 33 c) (nat_le c 126) test in (leb-true 33 c parts.0, leb-true c 126 parts.1)

-- names are of visible characters alone
pub name_visible : (kind : Kind) → All (λ c. (33 ≤ c) × (c ≤ 126)) (name_of kind)
unfolding name_of rule_of message_rule param_rule message_kinds param_kinds whole_message_kinds whole_param_kinds
name_visible kind = All-from_list_all (λ c. nat_le 33 c && nat_le c 126) (λ c. (33 ≤ c) × (c ≤ 126)) visible (name_of kind) (every_rule (λ row. list_all (λ c. nat_le 33 c && nat_le c 126) row.name) (refl, refl) (refl, refl) kind)

-- names have 48 characters at most
pub name_short : (kind : Kind) → length (name_of kind) ≤ 48
unfolding name_of rule_of message_rule param_rule message_kinds param_kinds whole_message_kinds whole_param_kinds
name_short kind = leb-true (length (name_of kind)) 48 (every_rule (λ row. nat_le (length row.name) 48) (refl, refl) (refl, refl) kind)

-- and 32 at most in the profile
pub own_name_short : (kind : Kind) → set_of_kind kind ≡ Profile → length (name_of kind) ≤ 32
unfolding name_of set_of_kind rule_of message_rule param_rule message_kinds param_kinds whole_message_kinds whole_param_kinds
own_name_short kind own = leb-true (length (name_of kind)) 32 (implied (same_as (set_of_kind kind) Profile) (nat_le (length (name_of kind)) 32) (every_rule (λ row. not (same_as row.set Profile) || nat_le (length row.name) 32) (refl, refl) (refl, refl) kind) (ap (λ p. same_as p Profile) own))

-- the fields of a kind fill whole octets
pub whole_octets : (kind : Kind) → bits_of (fields_of kind) % 8 ≡ 0
unfolding fields_of rule_of message_rule param_rule message_kinds param_kinds whole_message_kinds whole_param_kinds
whole_octets kind = eqb-true (bits_of (fields_of kind) % 8) 0 (every_rule (λ row. nat_eq (bits_of row.fields % 8) 0) (refl, refl) (refl, refl) kind)

-- the fields of a kind have 96 bits together at most
pub few_bits : (kind : Kind) → bits_of (fields_of kind) ≤ 96
unfolding fields_of rule_of message_rule param_rule message_kinds param_kinds whole_message_kinds whole_param_kinds
few_bits kind = leb-true (bits_of (fields_of kind)) 96 (every_rule (λ row. nat_le (bits_of row.fields) 96) (refl, refl) (refl, refl) kind)

-- a kind has twelve plain fields at most
pub few_plain_fields : (kind : Kind) → length (plain_fields_of kind) ≤ 12
unfolding fields_of rule_of message_rule param_rule message_kinds param_kinds whole_message_kinds whole_param_kinds
few_plain_fields kind = leb-true (length (plain_fields_of kind)) 12 (every_rule (λ row. nat_le (length (filter (λ any_field. not any_field.reserved) row.fields)) 12) (refl, refl) (refl, refl) kind)

-- a test of fields that passes at every row, and what follows from it
every_field : (test : FieldRule → Bool) (P : FieldRule → Type 0) → ((any_field : FieldRule) → test any_field ≡ true → P any_field) → ((kind : Kind) → list_all test (rule_of kind).fields ≡ true) → (kind : Kind) → All P (fields_of kind)
unfolding fields_of
every_field test P tells pass kind = All-from_list_all test P tells (fields_of kind) (pass kind)

-- a field has 1 to 96 bits
pub field_widths : (kind : Kind) → All (λ any_field. (1 ≤ any_field.width) × (any_field.width ≤ 96)) (fields_of kind)
unfolding rule_of message_rule param_rule message_kinds param_kinds whole_message_kinds whole_param_kinds
field_widths = every_field (λ any_field. nat_le 1 any_field.width && nat_le any_field.width 96) (λ any_field. (1 ≤ any_field.width) × (any_field.width ≤ 96)) (λ any_field test. let parts = and_parts (nat_le 1 any_field.width) (nat_le any_field.width 96) test in (leb-true 1 any_field.width parts.0, leb-true any_field.width 96 parts.1)) (every_rule (λ row. list_all (λ any_field. nat_le 1 any_field.width && nat_le any_field.width 96) row.fields) (refl, refl) (refl, refl))

-- the greatest value of a field fits its bits
pub field_values : (kind : Kind) → All (λ any_field. any_field.greatest < 2 ^ any_field.width) (fields_of kind)
unfolding rule_of message_rule param_rule message_kinds param_kinds whole_message_kinds whole_param_kinds
field_values = every_field (λ any_field. nat_lt any_field.greatest (2 ^ any_field.width)) (λ any_field. any_field.greatest < 2 ^ any_field.width) (λ any_field. ltb-true any_field.greatest (2 ^ any_field.width)) (every_rule (λ row. list_all (λ any_field. nat_lt any_field.greatest (2 ^ any_field.width)) row.fields) (refl, refl) (refl, refl))

-- a reserved field holds zero alone
pub reserved_fields : (kind : Kind) → All (λ any_field. any_field.reserved ≡ true → any_field.greatest ≡ 0) (fields_of kind)
unfolding rule_of message_rule param_rule message_kinds param_kinds whole_message_kinds whole_param_kinds
reserved_fields = every_field (λ any_field. not any_field.reserved || nat_eq any_field.greatest 0) (λ any_field. any_field.reserved ≡ true → any_field.greatest ≡ 0) (λ any_field test is_reserved. eqb-true any_field.greatest 0 (implied any_field.reserved (nat_eq any_field.greatest 0) test is_reserved)) (every_rule (λ row. list_all (λ any_field. not any_field.reserved || nat_eq any_field.greatest 0) row.fields) (refl, refl) (refl, refl))

-- a signed field is plain, of 8 bits, and each of its values is lawful
pub signed_fields : (kind : Kind) → All (λ any_field. any_field.signed ≡ true → (any_field.reserved ≡ false) × (any_field.width ≡ 8) × (any_field.greatest ≡ 255)) (fields_of kind)
unfolding rule_of message_rule param_rule message_kinds param_kinds whole_message_kinds whole_param_kinds
signed_fields = every_field (λ any_field. not any_field.signed || (not any_field.reserved && (nat_eq any_field.width 8 && nat_eq any_field.greatest 255))) (λ any_field. any_field.signed ≡ true → (any_field.reserved ≡ false) × (any_field.width ≡ 8) × (any_field.greatest ≡ 255)) tells (every_rule (λ row. list_all (λ any_field. not any_field.signed || (not any_field.reserved && (nat_eq any_field.width 8 && nat_eq any_field.greatest 255))) row.fields) (refl, refl) (refl, refl))
  where
    tells : (any_field : FieldRule) → (not any_field.signed || (not any_field.reserved && (nat_eq any_field.width 8 && nat_eq any_field.greatest 255))) ≡ true → any_field.signed ≡ true → (any_field.reserved ≡ false) × (any_field.width ≡ 8) × (any_field.greatest ≡ 255)
    tells any_field test is_signed =
        let all = implied any_field.signed (not any_field.reserved && (nat_eq any_field.width 8 && nat_eq any_field.greatest 255)) test is_signed in
        let parts = and_parts (not any_field.reserved) (nat_eq any_field.width 8 && nat_eq any_field.greatest 255) all in
        let numbers = and_parts (nat_eq any_field.width 8) (nat_eq any_field.greatest 255) parts.1 in
        (not_true any_field.reserved parts.0, eqb-true any_field.width 8 numbers.0, eqb-true any_field.greatest 255 numbers.1)

-- whether the fields are one alone, which is plain and of which every value is lawful
abbrev is_one_plain : List FieldRule → Bool
is_one_plain [] = false
is_one_plain (any_field ∷ []) = not any_field.reserved && nat_eq any_field.greatest (2 ^ any_field.width - 1)
is_one_plain (any_field ∷ other ∷ more) = false

-- what follows from that test
one_plain : (fields : List FieldRule) → is_one_plain fields ≡ true → (any_field : FieldRule) × (fields ≡ any_field ∷ []) × (any_field.reserved ≡ false) × (any_field.greatest ≡ 2 ^ any_field.width - 1)
one_plain [] test = cc test
one_plain (any_field ∷ []) test = let parts = and_parts (not any_field.reserved) (nat_eq any_field.greatest (2 ^ any_field.width - 1)) test in (any_field, refl, not_true any_field.reserved parts.0, eqb-true any_field.greatest (2 ^ any_field.width - 1) parts.1)
one_plain (any_field ∷ other ∷ more) test = cc test

-- a parameter with a type and a value alone has one field, which is plain, and whose values are all lawful
pub tv_field : (kind : ParamKind) → is_tv kind ≡ true → (any_field : FieldRule) × (fields_of (Parameter kind) ≡ any_field ∷ []) × (any_field.reserved ≡ false) × (any_field.greatest ≡ 2 ^ any_field.width - 1)
unfolding is_tv number_of fields_of rule_of param_rule param_kinds whole_param_kinds
tv_field kind short = one_plain (fields_of (Parameter kind)) (implied (nat_lt (number_of (Parameter kind)) 128) (is_one_plain (fields_of (Parameter kind))) (every_parameter (λ row. not (nat_lt row.number 128) || is_one_plain row.fields) (refl, refl) kind) short)

-- whether a kind has no tail
abbrev is_absent : Tail → Bool
is_absent Absent = true
is_absent Words = false
is_absent Text = false
is_absent Bits = false
is_absent Data = false

-- what follows from that test
absent : (tail : Tail) → is_absent tail ≡ true → tail ≡ Absent
absent Absent test = refl
absent Words test = cc test
absent Text test = cc test
absent Bits test = cc test
absent Data test = cc test

-- a parameter with a type and a value alone has no tail
pub tv_tail : (kind : ParamKind) → is_tv kind ≡ true → tail_of (Parameter kind) ≡ Absent
unfolding is_tv number_of tail_of rule_of param_rule param_kinds whole_param_kinds
tv_tail kind short = absent (tail_of (Parameter kind)) (implied (nat_lt (number_of (Parameter kind)) 128) (is_absent (tail_of (Parameter kind))) (every_parameter (λ row. not (nat_lt row.number 128) || is_absent row.tail) (refl, refl) kind) short)

-- whether a list is empty
abbrev is_empty : {X : Type 0} → List X → Bool
is_empty [] = true
is_empty (x ∷ xs) = false

-- what follows from that test
empty : {X : Type 0} (xs : List X) → is_empty xs ≡ true → xs ≡ []
empty [] test = refl
empty (x ∷ xs) test = cc test

-- a parameter with a type and a value alone has no group
pub tv_groups : (kind : ParamKind) → is_tv kind ≡ true → groups_of (Parameter kind) ≡ []
unfolding is_tv number_of groups_of rule_of param_rule param_kinds whole_param_kinds
tv_groups kind short = empty (groups_of (Parameter kind)) (implied (nat_lt (number_of (Parameter kind)) 128) (is_empty (groups_of (Parameter kind))) (every_parameter (λ row. not (nat_lt row.number 128) || is_empty row.groups) (refl, refl) kind) short)

-- whether a rule is of the profile
abbrev is_own : KindSet → Bool
is_own Profile = true
is_own Standard = false

-- a message of the profile has no tail
pub message_tail : (kind : MsgKind) → set_of_kind (Message kind) ≡ Profile → tail_of (Message kind) ≡ Absent
unfolding tail_of set_of_kind rule_of message_rule message_kinds whole_message_kinds
message_tail kind own = absent (tail_of (Message kind)) (implied (is_own (set_of_kind (Message kind))) (is_absent (tail_of (Message kind))) (every_message (λ row. not (is_own row.set) || is_absent row.tail) (refl, refl) kind) (ap is_own own))

-- the bits of a tail are counted by the one field
pub bits_field : (kind : ParamKind) → tail_of (Parameter kind) ≡ Bits → fields_of (Parameter kind) ≡ any_field "BitCount" 16 ∷ []
unfolding tail_of fields_of rule_of param_rule
bits_field EpcData same = refl
bits_field WholeEpcData same = refl
bits_field _ same = cc same

-- whether a tail is all octets up to the end
abbrev is_data : Tail → Bool
is_data Absent = false
is_data Words = false
is_data Text = false
is_data Bits = false
is_data Data = true

-- a message has no tail, or data
either : (form : Tail) → is_absent form || is_data form ≡ true → (form ≡ Absent) ⊎ (form ≡ Data)
either Absent test = inl refl
either Words test = cc test
either Text test = cc test
either Bits test = cc test
either Data test = inr refl

pub message_form : (kind : MsgKind) → (tail_of (Message kind) ≡ Absent) ⊎ (tail_of (Message kind) ≡ Data)
unfolding tail_of rule_of message_rule message_kinds whole_message_kinds
message_form kind = either (tail_of (Message kind)) (every_message (λ row. is_absent row.tail || is_data row.tail) (refl, refl) kind)

-- a node with data has no group
pub data_groups : (kind : Kind) → tail_of kind ≡ Data → groups_of kind ≡ []
unfolding tail_of groups_of rule_of message_rule param_rule message_kinds whole_message_kinds param_kinds whole_param_kinds
data_groups (Message kind) same = empty (groups_of (Message kind)) (implied (is_data (tail_of (Message kind))) (is_empty (groups_of (Message kind))) (every_message (λ row. not (is_data row.tail) || is_empty row.groups) (refl, refl) kind) (ap is_data same))
data_groups (Parameter kind) same = empty (groups_of (Parameter kind)) (implied (is_data (tail_of (Parameter kind))) (is_empty (groups_of (Parameter kind))) (every_parameter (λ row. not (is_data row.tail) || is_empty row.groups) (refl, refl) kind) (ap is_data same))

-- a test of groups that passes at every row, and what follows from it
pub every_group : (test : GroupRule → Bool) (P : GroupRule → Type 0) → ((group : GroupRule) → test group ≡ true → P group) → ((kind : Kind) → list_all test (rule_of kind).groups ≡ true) → (kind : Kind) → All P (groups_of kind)
unfolding groups_of
every_group test P tells pass kind = All-from_list_all test P tells (groups_of kind) (pass kind)

-- whether a least number is at most the greatest, where there is one
abbrev is_within : ℕ → Option ℕ → Bool
is_within least None = true
is_within least (Some most) = nat_le least most

-- what follows from that test
within : (least : ℕ) (most : Option ℕ) → is_within least most ≡ true → IfSome most (λ most. least ≤ most)
within least None test = tt
within least (Some most) test = leb-true least most test

-- the least number of a group is at most its greatest
pub group_bounds : (kind : Kind) → All (λ group. IfSome group.most (λ most. group.least ≤ most)) (groups_of kind)
unfolding rule_of message_rule param_rule message_kinds param_kinds whole_message_kinds whole_param_kinds
group_bounds = every_group (λ group. is_within group.least group.most) (λ group. IfSome group.most (λ most. group.least ≤ most)) (λ group. within group.least group.most) (every_rule (λ row. list_all (λ group. is_within group.least group.most) row.groups) (refl, refl) (refl, refl))

-- a group has members
pub group_members : (kind : Kind) → All (λ group. 1 ≤ length group.members) (groups_of kind)
unfolding rule_of message_rule param_rule message_kinds param_kinds whole_message_kinds whole_param_kinds
group_members = every_group (λ group. nat_le 1 (length group.members)) (λ group. 1 ≤ length group.members) (λ group. leb-true 1 (length group.members)) (every_rule (λ row. list_all (λ group. nat_le 1 (length group.members)) row.groups) (refl, refl) (refl, refl))

-- whether two parameters have two numbers
abbrev has_other_number : ParamKind → ParamKind → Bool
has_other_number a b = not (nat_eq (key_of a) (key_of b))

-- whether two groups share no number
abbrev is_apart : GroupRule → GroupRule → Bool
is_apart g h = list_all (λ a. list_all (has_other_number a) h.members) g.members

-- what follows from that test
apart : (g h : GroupRule) → is_apart g h ≡ true → (child : ParamKind) → Contains g.members child → Contains h.members child → ⊥
apart g h test child left right =
    let in_left = All-from_list_all (λ a. list_all (has_other_number a) h.members) (λ a. list_all (has_other_number a) h.members ≡ true) (λ a passes. passes) g.members test in
    let row = All-contains (λ a. list_all (has_other_number a) h.members ≡ true) g.members child in_left left in
    let in_right = All-from_list_all (has_other_number child) (λ b. has_other_number child b ≡ true) (λ b passes. passes) h.members row in
    other_than_itself child (All-contains (λ b. has_other_number child b ≡ true) h.members child in_right right)
  where
    other_than_itself : (a : ParamKind) → has_other_number a a ≡ true → ⊥
    other_than_itself a test = cc (not_true (nat_eq (key_of a) (key_of a)) test, eq-eqb (key_of a) (key_of a) refl)

-- no kind of child is in two groups of one parent
pub groups_apart : (kind : Kind) → AllPairs (λ g h. (child : ParamKind) → Contains g.members child → Contains h.members child → ⊥) (groups_of kind)
unfolding groups_of rule_of message_rule param_rule message_kinds param_kinds number_of key_of set_of_kind whole_message_kinds whole_param_kinds
groups_apart kind = AllPairs-from_pairs_all is_apart (λ g h. (child : ParamKind) → Contains g.members child → Contains h.members child → ⊥) apart (groups_of kind) (every_rule (λ row. pairs_all is_apart row.groups) (refl, refl) (refl, refl) kind)
