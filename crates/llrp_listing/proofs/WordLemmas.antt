-- The words of a line.
use Rattle.std.proofs.Common.{◌≡◌, ℕ, suc, ◌+◌, ◌<◌, Bool, true, false, not, cond, List, [], ◌∷◌, ◌++◌, length, refl, sym, ap, ◌∙◌, arith}
use Rattle.std.specs.Prelude.{◌==◌}
use Rattle.std.specs.List.{slice_split, onto_first, position_or_len, before_first, after_first, join_with_byte}
use Rattle.std.proofs.lemmas.List.Splits.{slice_split_first, length-slice_split, join_with_byte-slice_split}
use Rattle.llrp_listing.specs.Calls.Splits.{Lacks, IsSplit}
use Rattle.llrp_listing.specs.Lines.{words}

module _ (p : ℕ → Bool) where
  alone : (xs : List ℕ) → position_or_len p xs ≡ length xs → slice_split p xs ≡ xs ∷ []
  alone [] h = refl
  alone (x ∷ xs) h =
      let M : Bool → Type 0 = λ b. cond (not b) (1 + position_or_len p xs) 0 ≡ suc (length xs) → cond b ([] ∷ slice_split p xs) (onto_first x (slice_split p xs)) ≡ (x ∷ xs) ∷ [] in
      (elim (p x) as M [
        | true ↦ λ e. absurd (omega arith)
        | false ↦ λ e. let rest = alone xs (omega arith) in ap (onto_first x) rest
      ]) h

-- a line without spaces is one word
pub one_word : (line : List ℕ) → position_or_len (λ b. b == 32) line ≡ length line → words line ≡ line ∷ []
one_word line h = alone (λ b. b == 32) line h

-- the first word is before the first space
pub first_word : (line first rest : List ℕ) → (first ≡ before_first (λ b. b == 32) line) × (rest ≡ after_first (λ b. b == 32) line) × (position_or_len (λ b. b == 32) line < length line) → words line ≡ first ∷ words rest
first_word line first rest h = rw (h.0, h.1) (slice_split_first (λ b. b == 32) line 0 h.2)

-- at any byte: a list that lacks it is one part
pub one_part : (c : ℕ) (w : List ℕ) → Lacks c w → slice_split (λ b. b == c) w ≡ w ∷ []
one_part c [] h = refl
one_part c (b ∷ w) h = rw h.0 (ap (onto_first b) (one_part c w h.1))

pub first_part : (c : ℕ) (w rest : List ℕ) → Lacks c w → slice_split (λ b. b == c) (w ++ (c ∷ rest)) ≡ w ∷ slice_split (λ b. b == c) rest
first_part c [] rest h = let t : (c == c) ≡ true = same c in rw t refl
  where
    same : (c : ℕ) → (c == c) ≡ true
    same c = grind arith
first_part c (b ∷ w) rest h = rw h.0 (ap (onto_first b) (first_part c w rest h.1))

pub split_part : (c : ℕ) (line w rest : List ℕ) → IsSplit c line w rest → slice_split (λ b. b == c) line ≡ w ∷ slice_split (λ b. b == c) rest
split_part c line w rest h = ap (slice_split (λ b. b == c)) h.1 ∙ first_part c w rest h.0

-- each line has a word
pub some_word : (line : List ℕ) → 0 < length (words line)
some_word line = omega (arith, length-slice_split (λ b. b == 32) line)

-- a line that is one word is that word
pub only_word : (line w : List ℕ) → words line ≡ w ∷ [] → line ≡ w
only_word line w h = sym (join_with_byte-slice_split 32 line) ∙ ap (join_with_byte 32) h
