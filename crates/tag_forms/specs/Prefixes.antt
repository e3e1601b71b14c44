-- How many digits a company prefix has, by a table of the digits that such prefixes begin with.
use Rattle.std.specs.Prelude.{◌≡◌, ℕ, ◌≤◌, ◌⊎◌, ◌==◌, true, Bool, List, [], ◌∷◌, ◌++◌, length, slice_get, Option, Some, None}
use Rattle.std.specs.Borrow.{Bor}
use Rattle.std.specs.List.{starts_with}
use Rattle.tag_forms.specs.declared.prefixes.Entry.{Entry}

-- whether some digits begin with those of an entry
abbrev pub begins_with : List ℕ → Entry → Bool
begins_with digits entry = starts_with (λ a b. a == b) digits entry.start.items

-- the entry of the table that some digits begin with, and no such entry has a longer start; none where they begin with no entry's
abbrev pub IsLongest : List Entry → List ℕ → Option (Bor Entry) → Type 0
IsLongest entries digits None = (at : ℕ) (entry : Entry) → slice_get entries at ≡ Some entry → begins_with digits entry ≡ true → ⊥
IsLongest entries digits (Some best) =
    ((at : ℕ) × (slice_get entries at ≡ Some best.now)) × (begins_with digits best.now ≡ true)
    × ((at : ℕ) (entry : Entry) → slice_get entries at ≡ Some entry → begins_with digits entry ≡ true → length entry.start.items ≤ length best.now.start.items)

-- the entry is in the table and has this start
abbrev pub HasStart : List Entry → List ℕ → Entry → Type 0
HasStart entries start entry = ((at : ℕ) × (slice_get entries at ≡ Some entry)) × (entry.start.items ≡ start)

-- no entry of the table has this start
abbrev pub HasNoStart : List Entry → List ℕ → Type 0
HasNoStart entries start = (at : ℕ) (entry : Entry) → slice_get entries at ≡ Some entry → entry.start.items ≡ start → ⊥

-- the table says that another number of digits goes with this start
abbrev pub HasOther : List Entry → List ℕ → ℕ → Type 0
HasOther entries start count = (entry : Entry) × HasStart entries start entry × (entry.company_digits ≡ count → ⊥)

-- the table with an entry more, which comes last; it is as it was if it has that entry
abbrev pub Adds : List Entry → List ℕ → ℕ → List Entry → Type 0
Adds old start count new =
    ((entry : Entry) × HasStart old start entry × (entry.company_digits ≡ count) × (new ≡ old))
    ⊎ (HasNoStart old start × (entry : Entry) × (entry.start.items ≡ start) × (entry.company_digits ≡ count) × (new ≡ old ++ entry ∷ []))

-- how many digits the table gives for a company prefix that some digits begin with
abbrev pub Counts : List Entry → List ℕ → Option ℕ → Type 0
Counts entries digits None = IsLongest entries digits None
Counts entries digits (Some count) = (best : Bor Entry) × IsLongest entries digits (Some best) × (count ≡ best.now.company_digits)
