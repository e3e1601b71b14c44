-- A table of how many digits company prefixes have: a line for each. The lines are this project's own; GS1 publishes the same pairs.
use Rattle.std.specs.Prelude.{◌≡◌, ℕ, zero, suc, ◌+◌, ◌<◌, ◌≤◌, ◌⊎◌, List, [], ◌∷◌, ◌++◌, length, codes, decimal, Result, Ok, Err}
use Rattle.tag_keys.specs.KeyFaults.{IsNumber}
use Rattle.tag_forms.specs.declared.prefixes.Entry.{Entry}
use Rattle.tag_forms.specs.declared.prefixes.Prefixes.{Prefixes}
use Rattle.tag_forms.specs.Prefixes.{Adds, HasOther}
use Rattle.llrp_listing.specs.declared.outcome.ToolErr.TheVariants as tool
use Rattle.llrp_listing.specs.Copying.{ReadAll}
use Rattle.llrp_listing.specs.Calls.Copying.{ReadStopped}
use Rattle.llrp_stream.specs.Device.{SourceLog}
use Rattle.llrp_keys.specs.declared.prefixes.TableErr.{TableErr}
use Rattle.llrp_keys.specs.declared.prefixes.TableErr.TheVariants.{Unread, Line, Two, Memory}

-- the line, without its LF, says that company prefixes which begin with this start have this many digits
pub record IsPrefixLine (line start : List ℕ) (count : ℕ) : Type 0 where
  pub number : IsNumber start
  pub most : count ≤ 12
  pub is : line ≡ start ++ (codes " " ++ decimal count)

-- the first line of a text says so, and this is the text after it
pub record Continues (text start : List ℕ) (count : ℕ) (rest : List ℕ) : Type 0 where
  pub line : List ℕ
  pub says : IsPrefixLine line start count
  pub text_is : text ≡ line ++ (codes "\n" ++ rest)

-- it says nothing of the kind
abbrev pub NoneContinues : List ℕ → Type 0
NoneContinues text = (start : List ℕ) (count : ℕ) (rest : List ℕ) → Continues text start count rest → ⊥

-- the first lines of a text, this many, make this table, and this is the text after them
abbrev pub Makes : ℕ → List ℕ → List Entry → List ℕ → Type 0
Makes zero text table rest = (table ≡ []) × (rest ≡ text)
Makes (suc lines) text table rest =
    (before : List Entry) × (between start : List ℕ) × (count : ℕ) × Makes lines text before between × Continues between start count rest × Adds before start count table

-- the text is such lines, which make this table
abbrev pub IsTable : List ℕ → List Entry → Type 0
IsTable text table = (lines : ℕ) × Makes lines text table []

-- why the first line of a text, which has this number, adds nothing to a table; memory may run out at any line
abbrev pub IsRefusedHere : ℕ → List Entry → List ℕ → TableErr → Type 0
IsRefusedHere number table text (Line n) = (n ≡ number) × NoneContinues text
IsRefusedHere number table text (Two n) = (n ≡ number) × (start : List ℕ) × (count : ℕ) × (rest : List ℕ) × Continues text start count rest × HasOther table start count
IsRefusedHere number table text Memory = Unit {0}
IsRefusedHere number table text Unread = ⊥

-- why a text makes no table: its first lines make one, and the line after them, which is there, is refused
abbrev pub IsRefused : List ℕ → TableErr → Type 0
IsRefused text e = (lines : ℕ) × (table : List Entry) × (rest : List ℕ) × Makes lines text table rest × (0 < length rest) × IsRefusedHere (lines + 1) table rest e

-- What reading a table answers: the table that all of the source makes, or why there is none.
abbrev pub ReadsTable : SourceLog → SourceLog → Result Prefixes TableErr → Type 0
ReadsTable r0 r1 (Ok table) = (text : List ℕ) × ReadAll r0 r1 text × IsTable text table.entries.items
ReadsTable r0 r1 (Err Unread) = (front : List ℕ) × (ReadStopped r0 r1 front tool.Read ⊎ ReadStopped r0 r1 front tool.Bound)
ReadsTable r0 r1 (Err Memory) = (bytes : List ℕ) × (ReadStopped r0 r1 bytes tool.Memory ⊎ ReadAll r0 r1 bytes)
ReadsTable r0 r1 (Err (Line n)) = (text : List ℕ) × ReadAll r0 r1 text × IsRefused text (Line n)
ReadsTable r0 r1 (Err (Two n)) = (text : List ℕ) × ReadAll r0 r1 text × IsRefused text (Two n)
