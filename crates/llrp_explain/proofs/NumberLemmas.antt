-- No two numbers of a field have the same text.
use Rattle.std.proofs.Common.{◌≡◌, ℕ, ◌-◌, ◌^◌, ◌<◌, Bool, true, false, List, ◌∷◌, drop, nat_eq, refl, sym, ap, subst, ◌∙◌, arith}
use Rattle.std.specs.Prelude.{◌&&◌, nat_lt, decimal, if◌then◌else◌}
use Rattle.std.specs.Char.{digit_value}
use Rattle.std.specs.Str.Parse.{AllDigits, digits_value}
use Rattle.std.proofs.lemmas.Bool.{eqb-true}
use Rattle.std.proofs.lemmas.Fmt.{decimal_is_IsNumeral_wide}
use Rattle.llrp_schema.specs.declared.kinds.Kind.{Kind}
use Rattle.llrp_explain.specs.Calls.ExplainText.{is_signed, number_text, signed_text}

same_decimal : (v w : ℕ) → v < 10 ^ 64 → w < 10 ^ 64 → decimal v ≡ decimal w → v ≡ w
same_decimal v w a b e = sym (decimal_is_IsNumeral_wide v a).1 ∙ ap (digits_value 10) e ∙ (decimal_is_IsNumeral_wide w b).1

-- the text of a number does not begin with '-'
not_dash : (v : ℕ) (others : List ℕ) {Q : Type 0} → v < 10 ^ 64 → decimal v ≡ 45 ∷ others → Q
not_dash v others a e = (let digits = subst (λ (x : List ℕ). AllDigits 10 x) e (decimal_is_IsNumeral_wide v a).0.1 in let first : digit_value 45 < 10 = digits.0 in absurd (omega (arith, first)))

same_signed : (v w : ℕ) → v < 256 → w < 256 → v < 10 ^ 64 → w < 10 ^ 64 → signed_text v ≡ signed_text w → v ≡ w
same_signed v w a b c d e =
    elim (nat_lt v 128) as (λ p. (if p then decimal v else 45 ∷ decimal (256 - v)) ≡ signed_text w → v ≡ w) [
      | true ↦ λ f. elim (nat_lt w 128) as (λ q. decimal v ≡ (if q then decimal w else 45 ∷ decimal (256 - w)) → v ≡ w) [ true ↦ λ g. same_decimal v w c d g | false ↦ λ g. not_dash v (decimal (256 - w)) c g ] f
      | false ↦ λ f. elim (nat_lt w 128) as (λ q. 45 ∷ decimal (256 - v) ≡ (if q then decimal w else 45 ∷ decimal (256 - w)) → v ≡ w) [
        | true ↦ λ g. not_dash w (decimal (256 - v)) d (sym g)
        | false ↦ λ g. let same : 256 - v ≡ 256 - w = same_decimal (256 - v) (256 - w) (omega arith) (omega arith) (ap (λ (x : List ℕ). drop 1 x) g) in omega (arith, same, a, b)
      ] f
    ] e

eight : (width : ℕ) (x : Bool) → (nat_eq width 8 && x) ≡ true → width ≡ 8
eight width x e = elim (nat_eq width 8) as (λ b. nat_eq width 8 ≡ b → (b && x) ≡ true → width ≡ 8) [ true ↦ λ p q. eqb-true width 8 p | false ↦ λ p q. absurd (let z : false ≡ true = q in cc) ] refl e

pub same_number : (kind : Kind) (name : List ℕ) (width v w : ℕ) → v < 2 ^ width → w < 2 ^ width → v < 10 ^ 64 → w < 10 ^ 64 → number_text kind name width v ≡ number_text kind name width w → v ≡ w
same_number kind name width v w a b c d e =
    elim (is_signed kind name width) as (λ s. is_signed kind name width ≡ s → (if s then signed_text v else decimal v) ≡ (if s then signed_text w else decimal w) → v ≡ w) [
      | true ↦ λ s f. let is : width ≡ 8 = eight width _ s in same_signed v w (subst (λ (n : ℕ). v < 2 ^ n) is a) (subst (λ (n : ℕ). w < 2 ^ n) is b) c d f
      | false ↦ λ s f. same_decimal v w c d f
    ] refl e
