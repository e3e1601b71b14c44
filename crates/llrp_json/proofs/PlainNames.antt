-- No name of a kind or of a field has an octet that needs an escape.
use Rattle.std.proofs.Common.{◌≡◌, ℕ, zero, suc, Bool, true, false, List, [], ◌∷◌, ◌++◌, cond, drop, refl, sym, ap, ◌∙◌, append_assoc}
use Rattle.std.specs.Prelude.{◌==◌, codes}
use Rattle.std.specs.List.{list_all}
use Rattle.llrp_schema.specs.declared.kinds.Kind.{Kind}
use Rattle.llrp_schema.specs.Schema.{FieldRule, fields_of, message_kinds, message_rule, name_of, param_kinds, param_rule, rule_of, whole_message_kinds, whole_param_kinds}
use Rattle.llrp_schema.proofs.TableLaws.{every_rule}
use Rattle.llrp_tree.specs.OpenTree.{Begun, kind_of_head, rules}
use Rattle.llrp_stream.specs.Calls.Received.{IsNextField}
use Rattle.tag_uri.proofs.UriLemmas.{left, right}
use Rattle.llrp_json.specs.JsonItems.{field_name}
use Rattle.llrp_json.specs.JsonValues.{inside, string}
use Rattle.llrp_json.specs.Private.PlainStrings.{is_plain}
use Rattle.llrp_json.proofs.ValueLemmas.{inside_plain}

pub kind_plain : (kind : Kind) → list_all is_plain (name_of kind) ≡ true
unfolding name_of rule_of message_rule param_rule message_kinds whole_message_kinds param_kinds whole_param_kinds
kind_plain kind = every_rule (λ row. list_all is_plain row.name) (refl, refl) (refl, refl) kind

abbrev pub is_named : FieldRule → Bool
is_named field = list_all is_plain field.name

pub fields_plain : (kind : Kind) → list_all is_named (fields_of kind) ≡ true
unfolding fields_of rule_of message_rule param_rule message_kinds whole_message_kinds param_kinds whole_param_kinds
fields_plain kind = every_rule (λ row. list_all is_named row.fields) (refl, refl) (refl, refl) kind

dropped : (rs : List FieldRule) (k : ℕ) (r : FieldRule) (others : List FieldRule) → list_all is_named rs ≡ true → drop k rs ≡ r ∷ others → is_named r ≡ true
dropped [] zero r others all e = absurd (let bad : [] ≡ r ∷ others = e in cc)
dropped [] (suc k) r others all e = absurd (let bad : [] ≡ r ∷ others = e in cc)
dropped (s ∷ rs) zero r others all e = let same : s ≡ r = cc in ap is_named (sym same) ∙ left (is_named s) (list_all is_named rs) all
dropped (s ∷ rs) (suc k) r others all e = dropped rs k r others (right (is_named s) (list_all is_named rs) all) e

-- the next field of a node
pub next_named : (t : List Begun) (r : FieldRule) → IsNextField t r → is_named r ≡ true
next_named t r next = dropped (rules next.node) _ r next.others (fields_plain (kind_of_head next.node.head)) next.next

-- ---- a name is appended

-- what comes before a name, the name, and what follows it
pub name_appended : (front name after given old t1 t2 t3 : List ℕ) → list_all is_plain name ≡ true → given ≡ name → t1 ≡ old ++ front → t2 ≡ t1 ++ given → t3 ≡ t2 ++ after → t3 ≡ old ++ (front ++ (inside name ++ after))
name_appended front name after given old t1 t2 t3 plain is p q r =
    r ∙ ap (λ (x : List ℕ). x ++ after) (q ∙ ap (λ (x : List ℕ). t1 ++ x) is ∙ ap (λ (x : List ℕ). x ++ name) p) ∙ append_assoc (old ++ front) name after ∙ append_assoc old front (name ++ after)
    ∙ ap (λ (x : List ℕ). old ++ (front ++ (x ++ after))) (sym (inside_plain name plain))

-- the name of a field that is no EPC, after a comma, and its colon
pub field_name_appended : (r : FieldRule) (given old t1 t2 t3 : List ℕ) → is_named r ≡ true → (r.width == 96) ≡ false → given ≡ r.name → t1 ≡ old ++ (44 ∷ 34 ∷ []) → t2 ≡ t1 ++ given → t3 ≡ t2 ++ (34 ∷ 58 ∷ []) → t3 ≡ old ++ (44 ∷ (string (field_name r) ++ 58 ∷ []))
field_name_appended r given old t1 t2 t3 plain other is p q e =
    name_appended (44 ∷ 34 ∷ []) r.name (34 ∷ 58 ∷ []) given old t1 t2 t3 plain is p q e
    ∙ ap (λ (x : List ℕ). old ++ (44 ∷ 34 ∷ x)) (sym (append_assoc (inside r.name) (34 ∷ []) (58 ∷ [])))
    ∙ ap (λ (b : Bool). old ++ (44 ∷ (string (cond b (codes "EPC") r.name) ++ 58 ∷ []))) (sym other)
