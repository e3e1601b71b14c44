-- How often something is said that comes again and again. A moment is a number of milliseconds.
use Rattle.std.specs.Prelude.{ℕ, ◌+◌, ◌-◌, ◌≤◌, min, not, nat_lt, Bool, true, if◌then◌else◌, List, [], ◌∷◌, Option, None, Some}
use Rattle.llrp_waits.specs.declared.repeats.TheConstants.{MINUTE}
use Rattle.llrp_waits.specs.declared.repeats.Repeats.{Repeats}

abbrev pub no_repeats : Repeats
no_repeats = record { last = None; held = 0 }

abbrev pub is_past : ℕ → Option ℕ → Bool
is_past now None = true
is_past now (Some last) = not (nat_lt (now - last) MINUTE)

-- one that comes at this moment is written
abbrev pub is_due : ℕ → Repeats → Bool
is_due now r = is_past now r.last

-- one came; those that are not written are counted
abbrev pub counts : ℕ → Repeats → Repeats
counts now r = if is_due now r then record { last = Some now; held = 0 } else record { last = r.last; held = min (r.held + 1) 18446744073709551615 }

-- those that were not written were told
abbrev pub told : Repeats → Repeats
told r = record r { held = 0 }

-- the moments at which one is written, of those at which one comes
abbrev pub written : Repeats → List ℕ → List ℕ
written r [] = []
written r (now ∷ later) = if is_due now r then now ∷ written (counts now r) later else written (counts now r) later

-- each is a minute after the one before
abbrev pub AreApart : Option ℕ → List ℕ → Type 0
AreApart last [] = Unit {0}
AreApart None (now ∷ later) = AreApart (Some now) later
AreApart (Some last) (now ∷ later) = (last + MINUTE ≤ now) × AreApart (Some now) later

abbrev pub OneAMinute : Type 0
OneAMinute = (r : Repeats) (moments : List ℕ) → AreApart r.last (written r moments)
