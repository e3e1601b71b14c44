-- What holds of the entry that is taken, in words that don't say how it is found.
use Rattle.std.specs.Prelude.{◌≡◌, ℕ, ◌<◌, ◌≤◌, List, [], Option, None, Some}
use Rattle.std.specs.List.{All, Contains}
use Rattle.llrp_power.specs.declared.entries.PowerEntry.{PowerEntry}
use Rattle.llrp_power.specs.Calls.Entries.{entry_within, least_level}

-- it is in the table, its power is not above this level, and no such entry has more power
pub record IsGreatestWithin (most : ℕ) (entries : List PowerEntry) (taken : PowerEntry) : Type 0 where
  pub is_there : Contains entries taken
  pub is_within : taken.level ≤ most
  pub is_greatest : All (λ entry. entry.level ≤ most → entry.level ≤ taken.level) entries

-- of what is taken that holds; where none is, each entry has more power
abbrev pub Takes : (most : ℕ) → List PowerEntry → Option PowerEntry → Type 0
Takes most entries (Some taken) = IsGreatestWithin most entries taken
Takes most entries None = All (λ entry. most < entry.level) entries

abbrev pub IsTheGreatestWithin : Type 0
IsTheGreatestWithin = (most : ℕ) (entries : List PowerEntry) → Takes most entries (entry_within most entries)

-- the level of an entry, and no entry has a lesser one
pub record IsLeast (entries : List PowerEntry) (level : ℕ) : Type 0 where
  pub entry : PowerEntry
  pub is_there : Contains entries entry
  pub is_its : entry.level ≡ level
  pub is_least : All (λ other. level ≤ other.level) entries

abbrev pub HasLeast : List PowerEntry → Option ℕ → Type 0
HasLeast entries (Some level) = IsLeast entries level
HasLeast entries None = entries ≡ []

abbrev pub IsTheLeast : Type 0
IsTheLeast = (entries : List PowerEntry) → HasLeast entries (least_level entries)
