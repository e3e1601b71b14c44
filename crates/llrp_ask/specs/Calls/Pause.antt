-- The line of a pause in a file of messages: "= ", a number of seconds, and "s".
use Rattle.std.specs.Prelude.{◌≡◌, ◌⊎◌, ℕ, ◌+◌, ◌*◌, ◌≤◌, List, [], ◌∷◌, ◌++◌, decimal}
use Rattle.llrp_ask.specs.declared.pause.TheConstants.{MOST_SECONDS}

-- the word is a number of seconds, of at most a day and nine tenths, with one digit after its point (46) or none; it is this many milliseconds
abbrev pub IsTime : List ℕ → ℕ → Type 0
IsTime word milliseconds =
    ((s : ℕ) × (s ≤ MOST_SECONDS) × (word ≡ decimal s) × (milliseconds ≡ 1000 * s))
    ⊎ ((s d : ℕ) × (s ≤ MOST_SECONDS) × (d ≤ 9) × (word ≡ decimal s ++ (46 ∷ decimal d)) × (milliseconds ≡ 1000 * s + 100 * d))

-- the line is that of a pause of this many milliseconds: 61 is =, 32 a space and 115 an s
abbrev pub IsPause : List ℕ → ℕ → Type 0
IsPause line milliseconds = (word : List ℕ) × IsTime word milliseconds × (line ≡ 61 ∷ 32 ∷ (word ++ 115 ∷ []))
