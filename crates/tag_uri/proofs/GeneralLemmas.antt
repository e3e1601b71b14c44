-- The rules at the three numbers of GID-96.
use Rattle.std.proofs.Common.{◌≡◌, ℕ, ◌^◌, ◌<◌, ◌≤◌, Bool, true, false, List, [], ◌∷◌, Some, None, refl, sym, length, arith, lit<}
use Rattle.std.specs.Prelude.{◌==◌, nat_le}
use Rattle.std.proofs.lemmas.Bool.{ne_eqb, le-leb, lt-leb}
use Rattle.std.proofs.Math.Nat.{pow-le-pow_right}
use Rattle.tag_epc.specs.declared.epc.Parts.TheVariants.{General}
use Rattle.tag_epc.specs.LawfulWord.{IsLawfulEpc}
use Rattle.tag_uri.specs.declared.fault.UriFault.TheVariants as fault
use Rattle.tag_uri.specs.Decimal.{decimal_value, plain}
use Rattle.tag_uri.specs.TagText.{refusal, forms_of, some_component, is_stray, has_leading_zero, is_above, is_zero_led}
use Rattle.tag_uri.proofs.DecimalLemmas.{plain_text}
use Rattle.tag_uri.proofs.ReadLemmas.{SomeDigits, not_stray}
use Rattle.tag_uri.proofs.ComponentLemmas.{or_false}

pub wrong_count : (cs : List (List ℕ)) → (length cs ≡ 3 → ⊥) → refusal None cs ≡ Some fault.Parts
unfolding refusal
wrong_count cs other =
    let fails : (length cs == 3) ≡ false = ne_eqb (length cs) 3 other in
    rw fails refl

module _ (cs : List (List ℕ)) (a b c : List ℕ) (is : cs ≡ a ∷ b ∷ c ∷ []) where
  abbrev stray : Bool
  stray = some_component is_stray (forms_of None) (a ∷ b ∷ c ∷ [])

  abbrev led : Bool
  led = some_component has_leading_zero (forms_of None) (a ∷ b ∷ c ∷ [])

  abbrev over : Bool
  over = some_component is_above (forms_of None) (a ∷ b ∷ c ∷ [])

  pub digit_first : stray ≡ true → refusal None cs ≡ Some fault.Digit
  unfolding refusal
  digit_first h = rw (is, h) refl

  pub zero_first : stray ≡ false → led ≡ true → refusal None cs ≡ Some fault.LeadingZero
  unfolding refusal
  zero_first h k = rw (is, h, k) refl

  pub range_first : stray ≡ false → led ≡ false → over ≡ true → refusal None cs ≡ Some fault.Range
  unfolding refusal
  range_first h k o = rw (is, h, k, o) refl

-- three texts of digits without leading zeros
pub record PlainDigits (a b c : List ℕ) : Type 0 where
  pub first : SomeDigits a
  pub second : SomeDigits b
  pub third : SomeDigits c
  pub first_plain : is_zero_led a ≡ false
  pub second_plain : is_zero_led b ≡ false
  pub third_plain : is_zero_led c ≡ false

pub plain_digits : (a b c : List ℕ) → some_component is_stray (forms_of None) (a ∷ b ∷ c ∷ []) ≡ false → some_component has_leading_zero (forms_of None) (a ∷ b ∷ c ∷ []) ≡ false → PlainDigits a b c
plain_digits a b c h k =
    let p = or_false _ _ h in let q = or_false _ _ p.1 in let r = or_false _ _ q.1 in
    let s = or_false _ _ k in let t = or_false _ _ s.1 in let u = or_false _ _ t.1 in
    record { first = not_stray a p.0; second = not_stray b q.0; third = not_stray c r.0; first_plain = s.0; second_plain = t.0; third_plain = u.0 }

-- the plain text of a number of at most this many bits
pub as_plain : (text : List ℕ) (w n : ℕ) → SomeDigits text → is_zero_led text ≡ false → w < 64 → n ≡ decimal_value text → n < 2 ^ w → plain n ≡ text
as_plain text w n d p narrow e below =
    let small : n < 2 ^ 64 = omega (arith, below, pow-le-pow_right {n = 2} (omega arith) {i = w} {j = 64} (omega arith)) in
    sym (plain_text text n d.digits d.some p small e)

-- numbers of this many bits are an EPC's
pub lawful : (m o s : ℕ) → m < 2 ^ 28 → o < 2 ^ 24 → s < 2 ^ 36 → IsLawfulEpc (General m o s)
lawful m o s a b c = record {
  fields = _;
  has = refl;
  fit = (record { bits = lit< tt; decimals = tt }, (record { bits = a; decimals = tt }, (record { bits = b; decimals = tt }, (record { bits = c; decimals = tt }, tt))));
}

pub is_over-yes : (w : ℕ) (text : List ℕ) → 2 ^ w ≤ decimal_value text → nat_le (2 ^ w) (decimal_value text) ≡ true
is_over-yes w text h = le-leb (2 ^ w) (decimal_value text) h

pub is_over-no : (w n : ℕ) (text : List ℕ) → n ≡ decimal_value text → n < 2 ^ w → nat_le (2 ^ w) (decimal_value text) ≡ false
is_over-no w n text e h = lt-leb (2 ^ w) (decimal_value text) (rw e at h)
