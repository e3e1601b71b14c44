-- Components between dots.
use Rattle.std.proofs.Common.{◌≡◌, ℕ, zero, suc, ◌+◌, ◌<◌, Bool, true, false, not, cond, List, [], ◌∷◌, length, get_or, ◌&&◌, ◌||◌, refl, ap, arith}
use Rattle.std.specs.Prelude.{◌==◌}
use Rattle.std.specs.List.{slice_split, onto_first, position_or_len, before_first, after_first, join_with_byte}
use Rattle.std.proofs.lemmas.List.Splits.{slice_split_first, length-slice_split, join_with_byte-slice_split}
use Rattle.tag_uri.specs.TagText.{components, is_strange as strange}
use Rattle.std.proofs.lemmas.Str.Parse.{tells_all_ascii_digits}
use Rattle.std.specs.Str.{all_ascii_digits}
use Rattle.std.specs.Char.{is_ascii_digit}
use Rattle.tag_uri.specs.Calls.Decimal.{AreDigits}

module _ (p : ℕ → Bool) where
  alone : (xs : List ℕ) → position_or_len p xs ≡ length xs → slice_split p xs ≡ xs ∷ []
  alone [] h = refl
  alone (x ∷ xs) h =
      let M : Bool → Type 0 = λ b. cond (not b) (1 + position_or_len p xs) 0 ≡ suc (length xs) → cond b ([] ∷ slice_split p xs) (onto_first x (slice_split p xs)) ≡ (x ∷ xs) ∷ [] in
      (elim (p x) as M [
        | true ↦ λ e. absurd (omega arith)
        | false ↦ λ e. let rest = alone xs (omega arith) in ap (onto_first x) rest
      ]) h

pub one_component : (text : List ℕ) → position_or_len (λ b. b == 46) text ≡ length text → components text ≡ text ∷ []
unfolding components
one_component text h = alone (λ b. b == 46) text h

pub first_component : (text first rest : List ℕ) → (first ≡ before_first (λ b. b == 46) text) × (rest ≡ after_first (λ b. b == 46) text) × (position_or_len (λ b. b == 46) text < length text)
    → components text ≡ first ∷ components rest
unfolding components
first_component text first rest h = rw (h.0, h.1) (slice_split_first (λ b. b == 46) text 0 h.2)

pub some_component : (text : List ℕ) → 0 < length (components text)
unfolding components
some_component text = omega (arith, length-slice_split (λ b. b == 46) text)

-- the components joined by dots are the text
pub joined : (text : List ℕ) → join_with_byte 46 (components text) ≡ text
unfolding components
joined text = join_with_byte-slice_split 46 text

-- a text that begins with digits
pub strange_at : (text : List ℕ) (i : ℕ) → i < length text → is_ascii_digit (get_or text i 0) ≡ false → strange text ≡ true
strange_at [] i h e = absurd (omega arith)
strange_at (c ∷ cs) zero h e = rw e refl
strange_at (c ∷ cs) (suc i) h e =
    let ih : not (all_ascii_digits cs) ≡ true = strange_at cs i (omega arith) e in
    elim (is_ascii_digit c) as (λ b. not (b && all_ascii_digits cs) ≡ true) [ true ↦ ih | false ↦ refl ]

pub not_strange : (text : List ℕ) → ((k : ℕ) → k < length text → is_ascii_digit (get_or text k 0) ≡ true) → strange text ≡ false
not_strange [] h = refl
not_strange (c ∷ cs) h =
    let first : is_ascii_digit c ≡ true = h 0 (omega arith) in
    let ih : not (all_ascii_digits cs) ≡ false = not_strange cs (λ k l. h (suc k) (omega arith)) in
    rw first ih

all_are : (text : List ℕ) → all_ascii_digits text ≡ true → AreDigits text
all_are [] h = tt
all_are (c ∷ cs) h = let p = tells_all_ascii_digits.parts c cs h in (p.0, all_are cs p.1)

pub not_false : (b : Bool) → not b ≡ false → b ≡ true
not_false true h = refl
not_false false h = cc

pub or_false : (a b : Bool) → (a || b) ≡ false → (a ≡ false) × (b ≡ false)
or_false true b h = cc
or_false false b h = (refl, h)

pub digits_of_not_strange : (text : List ℕ) → strange text ≡ false → AreDigits text
digits_of_not_strange text h = all_are text (not_false (all_ascii_digits text) h)
