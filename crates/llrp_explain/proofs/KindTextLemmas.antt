-- Lists of kinds by their numbers, and fields that are narrow.
use Rattle.std.proofs.Common.{ℕ, suc, ◌≡◌, ◌+◌, ◌≤◌, ◌<◌, ◌++◌, List, sym, ap, ◌∙◌, All, map, subst, arith}
use Rattle.std.proofs.lemmas.List.{append-nil, append_assoc, length-map}
use Rattle.std.proofs.Math.ListN.{get_or-map}
use Rattle.llrp_schema.specs.declared.kinds.Kind.{Kind}
use Rattle.llrp_schema.specs.declared.kinds.Field.{Field}
use Rattle.llrp_schema.specs.Schema.{FieldRule}
use Rattle.llrp_schema.specs.Calls.Schema.{field_rule}
use Rattle.llrp_explain.specs.Calls.KindTexts.{by_number}

-- before the first number
pub number_init : (at : ℕ → List Kind) (xs : List Kind) → xs ≡ xs ++ by_number at 0
unfolding by_number
number_init at xs = sym (append-nil xs)

pub next : (n : ℕ) → n + 1 ≡ suc n
next n = omega arith

-- after one more
pub number_step : (at : ℕ → List Kind) (n : ℕ) (old now new : List Kind) → now ≡ old ++ by_number at n → new ≡ now ++ at n → new ≡ old ++ by_number at (n + 1)
unfolding by_number
number_step at n old now new was is = is ∙ ap (λ (z : List Kind). z ++ at n) was ∙ append_assoc old (by_number at n) (at n) ∙ ap (λ (k : ℕ). old ++ by_number at k) (sym (next n))

-- fields whose rules are narrow
pub narrow : (fields : List Field) (rules : List FieldRule) → map field_rule fields ≡ rules → All (λ rule. (1 ≤ rule.width) × (rule.width ≤ 96)) rules → All (λ field. field.width ≤ 96) fields
narrow fields rules is all k d below =
    let here = subst (λ (x : List FieldRule). All (λ rule. (1 ≤ rule.width) × (rule.width ≤ 96)) x) (sym is) all in
    let within = subst (λ (n : ℕ). k < n) (sym (length-map fields field_rule)) below in
    subst (λ (r : FieldRule). r.width ≤ 96) (get_or-map field_rule fields k d) (here k (field_rule d) within).1
