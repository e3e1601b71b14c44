-- Which entry of a reader's power table is taken (LLRP 1.1, section 10: TransmitPowerLevelTableEntry).
use Rattle.std.specs.Prelude.{ℕ, Bool, not, ◌&&◌, nat_lt, min, if◌then◌else◌, List, [], ◌∷◌, Option, None, Some}
use Rattle.llrp_power.specs.declared.entries.PowerEntry.{PowerEntry}

-- its power is not above the greatest level that is wanted, and it is the first such or has more power than the one found before
abbrev pub is_better : (most : ℕ) → Option PowerEntry → PowerEntry → Bool
is_better most None entry = not (nat_lt most entry.level)
is_better most (Some best) entry = not (nat_lt most entry.level) && nat_lt best.level entry.level

-- the one that is taken after these entries, where this one was found before them
abbrev pub entry_from : (most : ℕ) → Option PowerEntry → List PowerEntry → Option PowerEntry
entry_from most found [] = found
entry_from most found (entry ∷ entries) = entry_from most (if is_better most found entry then Some entry else found) entries

-- the entry with the greatest power that is not above this level; the first one of several
abbrev pub entry_within : (most : ℕ) → List PowerEntry → Option PowerEntry
entry_within most entries = entry_from most None entries

abbrev pub least_of : Option ℕ → PowerEntry → ℕ
least_of None entry = entry.level
least_of (Some level) entry = min entry.level level

abbrev pub least_from : Option ℕ → List PowerEntry → Option ℕ
least_from found [] = found
least_from found (entry ∷ entries) = least_from (Some (least_of found entry)) entries

-- the least power of the entries
abbrev pub least_level : List PowerEntry → Option ℕ
least_level entries = least_from None entries
