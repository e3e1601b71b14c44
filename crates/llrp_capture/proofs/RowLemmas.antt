-- The fields of a line.
use Rattle.std.proofs.Common.{◌≡◌, ◌∙◌, ℕ, suc, refl, ◌+◌, ◌<◌, Bool, true, false, not, cond, List, [], ◌∷◌, length, ap, arith}
use Rattle.std.specs.Prelude.{◌==◌, Option, Some, None, MatchOption, count_by}
use Rattle.std.specs.Borrow.{Bor}
use Rattle.std.specs.List.{slice_split, onto_first, position_or_len, before_first, after_first}
use Rattle.std.proofs.lemmas.List.Splits.{slice_split_first, length-slice_split}
use Rattle.llrp_capture.specs.Calls.Rows.{fields_of}

module _ (p : ℕ → Bool) where
  alone : (xs : List ℕ) → position_or_len p xs ≡ length xs → slice_split p xs ≡ xs ∷ []
  alone [] h = refl
  alone (x ∷ xs) h =
      let M : Bool → Type 0 = λ b. cond (not b) (1 + position_or_len p xs) 0 ≡ suc (length xs) → cond b ([] ∷ slice_split p xs) (onto_first x (slice_split p xs)) ≡ (x ∷ xs) ∷ [] in
      (elim (p x) as M [
        | true ↦ λ e. absurd (omega arith)
        | false ↦ λ e. let rest = alone xs (omega arith) in ap (onto_first x) rest
      ]) h

-- the first field of a line, and what stands after its tab
pub cut_of : (line : List ℕ) (r : Option (Bor (List ℕ) × Bor (List ℕ)))
    → MatchOption r (position_or_len (λ b. b == 9) line ≡ length line)
    (λ x. (x.0.now ≡ before_first (λ b. b == 9) line) × (x.1.now ≡ after_first (λ b. b == 9) line) × (position_or_len (λ b. b == 9) line < length line))
    → MatchOption r (fields_of line ≡ line ∷ []) (λ x. fields_of line ≡ x.0.now ∷ fields_of x.1.now)
cut_of line None h = alone (λ b. b == 9) line h
cut_of line (Some x) h = rw (h.0, h.1) (slice_split_first (λ b. b == 9) line 0 h.2)

-- a line with a tab has two fields or more
pub two_fields : (line field rest : List ℕ) → fields_of line ≡ field ∷ fields_of rest → 1 < length (fields_of line)
two_fields line field rest h =
    let all : length (fields_of line) ≡ 1 + length (fields_of rest) = ap length h ∙ omega arith in
    let some : length (fields_of rest) ≡ count_by (λ b. b == 9) rest + 1 = length-slice_split (λ b. b == 9) rest in
    omega arith
