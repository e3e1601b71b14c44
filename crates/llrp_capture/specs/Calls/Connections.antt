-- Which connections are open.
use Rattle.std.specs.Prelude.{◌≡◌, ◌⊎◌, ℕ, ◌<◌, List, [], ◌∷◌, ◌++◌, length, slice_get, Some}

-- no place has this number
abbrev pub IsNotThere : List ℕ → ℕ → Type 0
IsNotThere streams stream = (place : ℕ) → slice_get streams place ≡ Some stream → ⊥

-- The connection is at this place, one of less than 1,000. It was open and nothing changed, or it is a new one at the end.
abbrev pub Opens : (stream place : ℕ) (old new : List ℕ) → Type 0
Opens stream place old new = (slice_get new place ≡ Some stream)
    × ((new ≡ old) ⊎ (IsNotThere old stream × (length old < 1000) × (place ≡ length old) × (new ≡ old ++ stream ∷ [])))
