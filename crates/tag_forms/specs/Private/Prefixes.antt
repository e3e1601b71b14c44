-- The longest start so far.
use Rattle.std.specs.Prelude.{◌≡◌, ◌<◌, ◌≤◌, ◌⊎◌, ℕ, true, List, length, Option, Some, None}
use Rattle.std.specs.Borrow.{Bor}
use Rattle.tag_forms.specs.declared.prefixes.Entry.{Entry}
use Rattle.tag_forms.specs.Prefixes.{begins_with}

-- of an entry, and the best one before it if there is one, the one with the longer start that some digits begin with
abbrev pub IsBetter : List ℕ → Option (Bor Entry) → Entry → Entry → Type 0
IsBetter digits None entry x = (begins_with digits entry ≡ true) × (x ≡ entry)
IsBetter digits (Some best) entry x =
    ((begins_with digits entry ≡ true) × (length best.now.start.items < length entry.start.items) × (x ≡ entry))
    ⊎ ((begins_with digits entry ≡ true → length entry.start.items ≤ length best.now.start.items) × (x ≡ best.now))
