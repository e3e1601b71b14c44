-- The lines of a text.
use Rattle.std.specs.Prelude.{◌≡◌, ℕ, ◌==◌, false, cond, List, [], ◌∷◌}
use Rattle.std.specs.List.{AllByRecursion, slice_split}

-- the words of a line: the parts round its spaces
abbrev pub words : List ℕ → List (List ℕ)
words bytes = slice_split (λ b. b == 32) bytes

-- a line without its LF: each is ended by one, save perhaps the last
pub data TextLine : Type 0 where
  Ended : List ℕ → TextLine
  Unended : List ℕ → TextLine

-- a byte and then lines: the byte belongs to the first of them
abbrev pub onto_line : ℕ → List TextLine → List TextLine
onto_line b [] = Unended (b ∷ []) ∷ []
onto_line b (Ended x ∷ xs) = Ended (b ∷ x) ∷ xs
onto_line b (Unended x ∷ xs) = Unended (b ∷ x) ∷ xs

-- the lines of a text
unfoldable pub lines_of : List ℕ → List TextLine
lines_of [] = []
lines_of (b ∷ bs) = cond (b == 10) (Ended [] ∷ lines_of bs) (onto_line b (lines_of bs))

-- no byte is an LF
abbrev pub NoLf : List ℕ → Type 0
NoLf bytes = AllByRecursion (λ b. (b == 10) ≡ false) bytes
