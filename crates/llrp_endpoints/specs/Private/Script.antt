-- Beside Calls/Script: words of private functions.
use Rattle.std.specs.Prelude.{◌≡◌, ℕ, ◌+◌, ◌<◌, ◌≤◌, ◌⊎◌, List, [], length, All, Result, Ok, Err}
use Rattle.llrp_listing.specs.declared.outcome.ToolErr.{ToolErr}
use Rattle.llrp_listing.specs.declared.outcome.ToolErr.TheVariants.{Script, Memory}
use Rattle.llrp_listing.specs.Calls.Splits.{Lacks}
use Rattle.llrp_endpoints.specs.declared.script.Entry.{Entry}
use Rattle.llrp_endpoints.specs.declared.script.TheConstants.{LONGEST_ENTRY, MOST_ENTRIES}
use Rattle.llrp_endpoints.specs.Calls.ReadScript.{EndsInLine, StaysRefused}
use Rattle.llrp_endpoints.specs.Calls.Script.{Begins, IsEntryLine, IsInRange, IsLawfulScript}

-- there is room for an entry after these, and these AFTER and NOW do not fall
pub record MayFollow (entries : List Entry) (after now : ℕ) : Type 0 where
  pub after_rises : All (λ e. e.after ≤ after) entries
  pub now_rises : All (λ e. e.now ≤ now) entries
  pub room : length entries < MOST_ENTRIES

-- the line is that of an entry that may follow these
abbrev pub Follows : List Entry → List ℕ → Entry → Type 0
Follows entries line e = IsInRange e × IsEntryLine e line × MayFollow entries e.after e.now

abbrev pub NoneFollows : List Entry → List ℕ → Type 0
NoneFollows entries line = (e : Entry) → Follows entries line e → ⊥

-- a line that begins so may be that of an entry after these
abbrev pub MayGoOn : List Entry → List ℕ → Type 0
MayGoOn entries line = (length line ≡ 0) ⊎ ((length line ≤ LONGEST_ENTRY) × (length entries < MOST_ENTRIES))

-- each text that begins so is refused at this line, unless memory ran out
abbrev pub RefusesText : List ℕ → ToolErr → Type 0
RefusesText text (Script line) = StaysRefused text line
RefusesText text Memory = Unit {0}
RefusesText text _ = ⊥

-- the text in which this one comes after the lines of these entries is refused so
abbrev pub RefusesAfter : List Entry → List ℕ → ToolErr → Type 0
RefusesAfter entries text e = (whole : List ℕ) → Begins whole entries text → RefusesText whole e

-- After the lines of the old entries come those of the new ones, and then a rest without LF.
pub record TakesLines (old new : List Entry) (text rest : List ℕ) : Type 0 where
  pub lawful : IsLawfulScript new
  pub begins : (whole : List ℕ) → Begins whole old text → Begins whole new rest
  pub unended : Lacks 10 rest

-- and that rest may be the front of one more
abbrev pub TakesPiece : (old new : List Entry) → (text line : List ℕ) → Type 0
TakesPiece old new text line = (whole : List ℕ) → Begins whole old text → EndsInLine whole new line

-- where nothing is left after the lines of these entries, they are the script; else the next line is refused
abbrev pub EndsBy : List Entry → List ℕ → Result (List Entry) ToolErr → Type 0
EndsBy entries rest (Ok script) = (rest ≡ []) × (script ≡ entries)
EndsBy entries rest (Err e) = (0 < length rest) × (e ≡ Script (length entries + 1))
