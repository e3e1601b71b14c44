-- What reading a script from a source answers.
use Rattle.std.specs.Prelude.{ℕ, ◌<◌, ◌≤◌, ◌⊎◌, List, ◌++◌, length, Result, Ok, Err}
use Rattle.llrp_stream.specs.Device.{SourceLog}
use Rattle.llrp_listing.specs.declared.outcome.ToolErr.{ToolErr}
use Rattle.llrp_listing.specs.declared.outcome.ToolErr.TheVariants.{Script, Read, Bound, Memory}
use Rattle.llrp_listing.specs.Copying.{ReadAll, WasGiven}
use Rattle.llrp_listing.specs.Calls.Copying.{ReadStopped}
use Rattle.llrp_listing.specs.Calls.Splits.{Lacks}
use Rattle.llrp_endpoints.specs.declared.script.Entry.{Entry}
use Rattle.llrp_endpoints.specs.declared.script.TheConstants.{LONGEST_ENTRY, MOST_ENTRIES}
use Rattle.llrp_endpoints.specs.Calls.Script.{IsScript, Begins, IsRefusedAt}

-- each text that begins so is refused at this line
abbrev pub StaysRefused : List ℕ → ℕ → Type 0
StaysRefused text line = (more : List ℕ) → IsRefusedAt (text ++ more) line

-- The text has the lines of these entries, and then a line without LF, which is short enough to become that of one more.
pub record EndsInLine (text : List ℕ) (entries : List Entry) (line : List ℕ) : Type 0 where
  pub begins : Begins text entries line
  pub unended : Lacks 10 line
  pub short : length line ≤ LONGEST_ENTRY
  pub room : 0 < length line → length entries < MOST_ENTRIES

-- no line of the text was refused so far
abbrev pub NoneIsRefused : List ℕ → Type 0
NoneIsRefused text = (entries : List Entry) × (line : List ℕ) × EndsInLine text entries line

-- The entries of all that the source gave; or the first refused line of that, or of every text that begins with what it gave
-- until then; or why reading stopped, where a read failed or was one too many only if no line was refused before.
abbrev pub ReadsScript : SourceLog → SourceLog → Result (List Entry) ToolErr → Type 0
ReadsScript r0 r1 (Ok entries) = (text : List ℕ) × ReadAll r0 r1 text × IsScript entries text
ReadsScript r0 r1 (Err (Script line)) = (text : List ℕ) × ((ReadAll r0 r1 text × IsRefusedAt text line) ⊎ (WasGiven r0 r1 text × StaysRefused text line))
ReadsScript r0 r1 (Err Read) = (text : List ℕ) × ReadStopped r0 r1 text Read × NoneIsRefused text
ReadsScript r0 r1 (Err Bound) = (text : List ℕ) × ReadStopped r0 r1 text Bound × NoneIsRefused text
ReadsScript r0 r1 (Err Memory) = (text : List ℕ) × ReadStopped r0 r1 text Memory
ReadsScript r0 r1 (Err _) = ⊥
