-- The parts of a key that is written by its name.
use Rattle.std.specs.Prelude.{ℕ, List, Option, Some, None}
use Rattle.llrp_listing.specs.Calls.Splits.{IsSplit, Lacks}

-- the parts of the text of a key by its name: the name, the key and its serial number, if it has one, with a blank (32) between two
abbrev pub IsNamedKey : (text name number : List ℕ) → Option (List ℕ) → Type 0
IsNamedKey text name number None = IsSplit 32 text name number × Lacks 32 number
IsNamedKey text name number (Some serial) = (rest : List ℕ) × IsSplit 32 text name rest × IsSplit 32 rest number serial
