-- Decimal texts as words.
use Rattle.std.proofs.Common.{◌≡◌, ℕ, zero, suc, ◌+◌, ◌-◌, ◌*◌, ◌/◌, ◌%◌, ◌^◌, ◌<◌, ◌≤◌, Bool, true, false, cond, List, [], ◌∷◌, ◌++◌, length, get_or, take, refl, sym, ap, ◌∙◌, arith, Some, None, Option, decimal}
use Rattle.std.specs.Prelude.{nat_le, nat_lt, ◌==◌, ◌&&◌, ◌||◌, not}
use Rattle.std.specs.Char.{digit_value, is_ascii_digit}
use Rattle.std.specs.Str.{all_ascii_digits}
use Rattle.std.specs.Str.Parse.{digits_value}
use Rattle.std.proofs.Math.Seq.{take-suc}
use Rattle.std.proofs.Math.Nat.{pow-le-pow_right, pow-suc}
use Rattle.std.proofs.lemmas.List.{take_all}
use Rattle.std.proofs.lemmas.Int.Digits.{digits_value_more}
use Rattle.std.proofs.lemmas.Fmt.{decimal_digit, decimal_step_wide, decimal_by_steps_wide, decimal_is_IsNumeral_wide, length-decimal-le_wide}
use Rattle.std.proofs.lemmas.Str.Parse.{digit_at}
use Rattle.llrp_listing.specs.Private.Numeral.{numeral, is_numeral}
use Rattle.tag_uri.proofs.UriLemmas.{left, right}

digit : (c : ℕ) → (48 ≤ c) × (c ≤ 57) → digit_value c ≡ c - 48
digit c r = grind arith

-- the front of i + 1 digits is the text of its value, which isn't 0 where the first digit isn't
record Front (w : List ℕ) (i : ℕ) : Type 0 where
  text : decimal (digits_value 10 (take (suc i) w)) ≡ take (suc i) w
  some : 48 < get_or w 0 0 → 0 < digits_value 10 (take (suc i) w)
  below : digits_value 10 (take (suc i) w) < 10 ^ suc i

wide : (i : ℕ) → i < 64 → 10 ^ suc i ≤ 10 ^ 64
wide i le =
    let positive : 0 < 10 = omega arith in
    let more : suc i ≤ 64 = omega arith in
    pow-le-pow_right positive more

ten : (i : ℕ) → 10 ^ suc i ≡ 10 ^ i * 10
ten i = pow-suc 10 i

front : (w : List ℕ) (i : ℕ) → i < length w → i < 64 → ((k : ℕ) → k < length w → (48 ≤ get_or w k 0) × (get_or w k 0 ≤ 57)) → (0 < i → 48 < get_or w 0 0) → Front w i
front (c ∷ w) zero lt few range lead =
    let r = range 0 (omega arith) in
    let v : digits_value 10 (take 1 (c ∷ w)) ≡ c - 48 = (let z : 0 * 10 + (c - 48) ≡ c - 48 = omega arith in ap (λ (n : ℕ). 0 * 10 + n) (digit c r) ∙ z) in
    let back : 48 + (c - 48) ≡ c = omega arith in
    record {
      text = ap decimal v ∙ decimal_digit (c - 48) (omega arith) ∙ ap (λ (n : ℕ). n ∷ []) back;
      some = λ h. omega (arith, v);
      below = omega (arith, v);
    }
front [] zero lt few range lead = absurd (omega arith)
front w (suc i) lt few range lead =
    let f = front w i (omega arith) (omega arith) range (λ _. lead (omega arith)) in
    let n = digits_value 10 (take (suc i) w) in
    let d = get_or w (suc i) 0 in
    let r = range (suc i) lt in
    let next : suc (suc i) ≡ suc i + 1 = omega arith in
    let step : digits_value 10 (take (suc (suc i)) w) ≡ n * 10 + (d - 48) =
    ap (λ (k : ℕ). digits_value 10 (take k w)) next ∙ digits_value_more 10 w (suc i) lt ∙ ap (λ (x : ℕ). n * 10 + x) (digit d r) in
    let pos : 0 < n = f.some (lead (omega arith)) in
    let m = n * 10 + (d - 48) in
    let lt10 : m < 10 ^ suc (suc i) = rw (ten (suc i)) (omega (arith, f.below)) in
    let small : m < 10 ^ 64 = omega (arith, lt10, wide (suc i) few) in
    let top : m / 10 ≡ n = omega arith in
    let low : 48 + m % 10 ≡ d = omega arith in
    record {
      text = ap decimal step ∙ decimal_step_wide m (omega arith) small ∙ ap (λ (x : ℕ). decimal x ++ ((48 + m % 10) ∷ [])) top ∙ ap (λ (x : List ℕ). x ++ ((48 + m % 10) ∷ [])) f.text ∙ ap (λ (x : ℕ). take (suc i) w ++ (x ∷ [])) low ∙ sym (take-suc w (suc i) 0 lt);
      some = λ h. omega (arith, step);
      below = omega (arith, step, lt10);
    }

-- ---- words and numbers

some_chosen : (b : Bool) (x n : ℕ) → cond b (Some x) None ≡ Some n → (b ≡ true) × (x ≡ n)
some_chosen true x n h = (refl, cc)
some_chosen false x n h = cc

four : (a b c d : Bool) → (a && (b && (c && d))) ≡ true → (a ≡ true) × (b ≡ true) × (c ≡ true) × (d ≡ true)
four true true true true h = (refl, refl, refl, refl)
four false b c d h = cc
four true false c d h = cc
four true true false d h = cc
four true true true false h = cc

in_range : (c : ℕ) → is_ascii_digit c ≡ true → (48 ≤ c) × (c ≤ 57)
in_range c h = (grind arith, grind arith)

is_digit : (c : ℕ) → 48 ≤ c → c ≤ 57 → is_ascii_digit c ≡ true
is_digit c a b = grind arith

ranges : (w : List ℕ) → all_ascii_digits w ≡ true → (k : ℕ) → k < length w → (48 ≤ get_or w k 0) × (get_or w k 0 ≤ 57)
ranges [] h k lt = absurd (omega arith)
ranges (c ∷ w) h zero lt = in_range c (left _ _ h)
ranges (c ∷ w) h (suc k) lt = ranges w (right _ _ h) k (omega arith)

-- what a numeral is
pub record IsNumeralOf (w : List ℕ) (n : ℕ) : Type 0 where
  pub text : w ≡ decimal n
  pub below : n < 10 ^ 20

-- a numeral is the number's decimal text
pub numeral_is : (w : List ℕ) (n : ℕ) → numeral w ≡ Some n → IsNumeralOf w n
unfolding numeral
numeral_is w n h =
    let c = some_chosen (is_numeral w) (digits_value 10 w) n h in
    let t = four (all_ascii_digits w) (nat_lt 0 (length w)) (nat_le (length w) 20) (nat_le (length w) 1 || not (get_or w 0 0 == 48)) c.0 in
    let some : 0 < length w = positive (length w) t.1 in
    let few : length w ≤ 20 = at_most (length w) t.2 in
    let i = length w - 1 in
    let range = ranges w t.0 in
    let f = front w i (omega arith) (omega arith) range (λ lt. one w (omega arith) (range 0 some) t.3) in
    let all : take (suc i) w ≡ w = take_all (suc i) w (omega arith) in
    let pow : 10 ^ suc i ≤ 10 ^ 20 = (let positive : 0 < 10 = omega arith in let more : suc i ≤ 20 = omega arith in pow-le-pow_right positive more) in
    let value : digits_value 10 (take (suc i) w) ≡ n = ap (digits_value 10) all ∙ c.1 in
    record { text = sym all ∙ sym f.text ∙ ap decimal value; below = omega (arith, f.below, pow, value) }
  where
    positive : (n : ℕ) → nat_lt 0 n ≡ true → 0 < n
    positive n h = grind arith

    at_most : (n : ℕ) → nat_le n 20 ≡ true → n ≤ 20
    at_most n h = grind arith

    one : (w : List ℕ) → 1 < length w → (48 ≤ get_or w 0 0) × (get_or w 0 0 ≤ 57) → (nat_le (length w) 1 || not (get_or w 0 0 == 48)) ≡ true → 48 < get_or w 0 0
    one w some r t = grind (arith, r.0)

-- the digits of a number
pub record DigitsOf (n : ℕ) : Type 0 where
  pub digits : all_ascii_digits (decimal n) ≡ true
  pub value : digits_value 10 (decimal n) ≡ n
  pub some : 0 < length (decimal n)
  pub lead : 0 < n → 48 < get_or (decimal n) 0 0

tested : (w : List ℕ) → ((k : ℕ) → k < length w → (48 ≤ get_or w k 0) × (get_or w k 0 ≤ 57)) → all_ascii_digits w ≡ true
tested [] h = refl
tested (c ∷ w) h =
    let r = h 0 (omega arith) in
    let first : is_ascii_digit c ≡ true = is_digit c r.0 r.1 in
    rw first (tested w (λ k lt. h (suc k) (omega arith)))

abbrev Leads : ℕ → List ℕ → Type 0
Leads n ds = (0 < length ds) × (0 < n → 48 < get_or ds 0 0)

lead_more : (n : ℕ) (ds : List ℕ) → 10 ≤ n → Leads (n / 10) ds → Leads n (ds ++ ((48 + n % 10) ∷ []))
lead_more n [] ten l = absurd (omega (arith, l.0))
lead_more n (c ∷ ds) ten l = (omega arith, λ pos. l.1 (omega arith))

leads : (n : ℕ) → n < 10 ^ 64 → Leads n (decimal n)
leads n lt = decimal_by_steps_wide Leads (λ n small. (omega arith, λ pos. omega arith)) (λ n ds ten l. lead_more n ds ten l) n lt

twenty : 10 ^ 20 ≤ 10 ^ 64
twenty = let positive : 0 < 10 = omega arith in let more : 20 ≤ 64 = omega arith in pow-le-pow_right positive more

pub digits_of : (n : ℕ) → n < 10 ^ 20 → DigitsOf n
digits_of n lt =
    let small : n < 10 ^ 64 = omega (arith, twenty) in
    let d = decimal_is_IsNumeral_wide n small in
    let l = leads n small in
    record { digits = tested (decimal n) (λ k lt. digit_at (decimal n) k d.0.1 lt); value = d.1; some = l.0; lead = l.1 }

-- the decimal text of a number is a numeral
pub numeral_back : (n : ℕ) → n < 10 ^ 20 → numeral (decimal n) ≡ Some n
unfolding numeral
numeral_back n lt =
    let d = digits_of n lt in
    let some : nat_lt 0 (length (decimal n)) ≡ true = positive (length (decimal n)) d.some in
    let few : nat_le (length (decimal n)) 20 ≡ true = at_most (length (decimal n)) (length-decimal-le_wide 20 n (omega arith) lt (omega (arith, twenty))) in
    let first : (nat_le (length (decimal n)) 1 || not (get_or (decimal n) 0 0 == 48)) ≡ true = no_zero n d.lead in
    let all : is_numeral (decimal n) ≡ true = rw (d.digits, some, few, first) refl in
    rw all (ap Some d.value)
  where
    positive : (n : ℕ) → 0 < n → nat_lt 0 n ≡ true
    positive n h = grind arith

    at_most : (n : ℕ) → n ≤ 20 → nat_le n 20 ≡ true
    at_most n h = grind arith

    no_zero : (n : ℕ) → (0 < n → 48 < get_or (decimal n) 0 0) → (nat_le (length (decimal n)) 1 || not (get_or (decimal n) 0 0 == 48)) ≡ true
    no_zero zero l = rw (decimal_digit 0 (omega arith)) refl
    no_zero (suc n) l = let t : 48 < get_or (decimal (suc n)) 0 0 = l (omega arith) in grind arith

-- two numbers have two texts
pub one_number : (m n : ℕ) → m < 10 ^ 20 → n < 10 ^ 20 → decimal m ≡ decimal n → m ≡ n
one_number m n p q e = let t : ◌≡◌ {A = Option ℕ} (Some m) (Some n) = sym (numeral_back m p) ∙ ap numeral e ∙ numeral_back n q in cc

-- a word that is no numeral is no number's text
pub no_text : (w : List ℕ) → numeral w ≡ None → (n : ℕ) → n < 10 ^ 20 → w ≡ decimal n → ⊥
no_text w none n lt e = let t : ◌≡◌ {A = Option ℕ} None (Some n) = sym none ∙ ap numeral e ∙ numeral_back n lt in cc

-- a word that is a numeral is that of its number alone
pub same_number : (w : List ℕ) (m n : ℕ) → numeral w ≡ Some m → n < 10 ^ 20 → w ≡ decimal n → m ≡ n
same_number w m n is lt e = let t : ◌≡◌ {A = Option ℕ} (Some m) (Some n) = sym is ∙ ap numeral e ∙ numeral_back n lt in cc
