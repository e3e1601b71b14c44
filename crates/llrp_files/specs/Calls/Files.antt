-- What a command does over files, one after another.
use Rattle.std.specs.Prelude.{◌≡◌, ◌⊎◌, ℕ, List, [], ◌∷◌, ◌++◌, Option, Some, None, Result, Ok, Err, codes, max}
use Rattle.llrp_stream.specs.Device.{SourceLog, SinkLog, IsFreshSource, Wrote, WroteAndFailed}
use Rattle.llrp_stream.specs.Calls.Device.{new_sink}
use Rattle.llrp_listing.specs.Copying.{IsPrefix}
use Rattle.llrp_listing.specs.declared.outcome.ToolErr.{ToolErr}
use Rattle.llrp_listing.specs.declared.outcome.ToolErr.TheVariants.{Memory, Read, Write}
use Rattle.llrp_words.specs.Calls.Asked.{Asked, Show, show}
use Rattle.llrp_commands.specs.Calls.Command.{error_line}
use Rattle.llrp_commands.specs.Calls.Does.{Does, MeansLines, captured}
use Rattle.llrp_commands.specs.Calls.ShowSegments.{CapturesTo}
use Rattle.llrp_files.specs.declared.files.Opening.{Opening}
use Rattle.llrp_files.specs.declared.files.Opening.TheVariants.{Opened, Unread, NoMemory}

-- a name, as the octets of a word
abbrev pub Name : Type 0
Name = List ℕ

-- what a name stands for: a source as it is when it was opened, or nothing that can be read
abbrev pub Standing : Type 1
Standing = Name → Option SourceLog → Type 0

-- what opening a name gave
abbrev pub Opens : {R : Type 0} → (log : R → SourceLog) → Standing → Name → Opening R → Type 0
Opens log stands name (Opened input) = stands name (Some (log input)) × IsFreshSource (log input)
Opens log stands name Unread = stands name None
Opens log stands name NoMemory = Unit {0}

-- ---- what is said of a file

-- the error line of a command, with the file's name after the program's
abbrev pub line_of : Name → List ℕ → List ℕ
line_of name reason = codes "llrp: " ++ (name ++ (codes ": " ++ reason))

-- it gives no reason after the program's name
abbrev pub HasNoReason : List ℕ → Type 0
HasNoReason line = (reason : List ℕ) → line ≡ codes "llrp: " ++ reason → ⊥

-- What is said where a command over a file wrote this line for its error, if any: its name is put in. A line that says that a write failed is not the file's.
abbrev pub IsSaid : Name → List ℕ → List ℕ → Type 0
IsSaid name line text =
    ((line ≡ error_line Write) × (text ≡ line))
    ⊎ ((line ≡ error_line Write → ⊥) × (reason : List ℕ) × (line ≡ codes "llrp: " ++ reason) × (text ≡ line_of name reason))
    ⊎ (HasNoReason line × (text ≡ line))

-- it was said whole
abbrev pub Said : Name → List ℕ → SinkLog → SinkLog → Type 0
Said name line e0 e1 = (line ≡ error_line Write → ⊥) × (text : List ℕ) × IsSaid name line text × Wrote e0 e1 text

-- A write failed: that which the line says, or one of the line itself after a front of it.
abbrev pub Unsaid : Name → List ℕ → SinkLog → SinkLog → ToolErr → Type 0
Unsaid name line e0 e1 error =
    (error ≡ Write) × (text : List ℕ) × IsSaid name line text
    × (((line ≡ error_line Write) × Wrote e0 e1 text) ⊎ ((front : List ℕ) × IsPrefix front text × WroteAndFailed e0 e1 front))

-- ---- one file

-- The command did what is asked over a source and a sink, and wrote its line for an error, if any, to a buffer.
pub record Did (asked : Asked) (r0 : SourceLog) (w0 w1 : SinkLog) (line : List ℕ) (answer : Result ℕ ToolErr) : Type 0 where
  pub r1 : SourceLog
  pub t0 : SinkLog
  pub t1 : SinkLog
  pub untold : t0.taken ≡ Some []
  pub told : t1.taken ≡ Some line
  pub does : Does asked r0 r1 w0 w1 t0 t1 answer
  pub segments : (s : Show) (port : ℕ) → asked ≡ show s → MeansLines s (captured port) → CapturesTo s port r0 r1 w0 w1 t0 t1 answer

-- What it did over a source that was opened by this name, and its answer: its line was said; or memory ran out before that, or a write failed.
abbrev pub RunsOver : Asked → Name → SourceLog → SinkLog → SinkLog → SinkLog → SinkLog → Result ℕ ToolErr → Type 0
RunsOver asked name r0 w0 w1 e0 e1 (Ok status) = (line : List ℕ) × Did asked r0 w0 w1 line (Ok status) × Said name line e0 e1
RunsOver asked name r0 w0 w1 e0 e1 (Err error) =
    ((error ≡ Memory) × (e1 ≡ e0) × (line : List ℕ) × (fault : ToolErr) × Did asked r0 w0 w1 line (Err fault))
    ⊎ ((line : List ℕ) × (status : ℕ) × Did asked r0 w0 w1 line (Ok status) × Unsaid name line e0 e1 error)

-- It ran over the source that the name stands for, to this answer. The writer held c0 before and c1 after.
pub record OverFile (stands : Standing) (asked : Asked) (name : Name) (c0 c1 : Option (List ℕ)) (e0 e1 : SinkLog) (answer : Result ℕ ToolErr) : Type 0 where
  pub r0 : SourceLog
  pub w1 : SinkLog
  pub opened : stands name (Some r0)
  pub held : w1.taken ≡ c1
  pub ran : RunsOver asked name r0 (new_sink c0) w1 e0 e1 answer

-- It ran over a file to this status; or the file can't be opened: this is said, and counts as status 3.
abbrev pub RanFile : Standing → Asked → Name → Option (List ℕ) → Option (List ℕ) → SinkLog → SinkLog → ℕ → Type 0
RanFile stands asked name c0 c1 e0 e1 status =
    OverFile stands asked name c0 c1 e0 e1 (Ok status)
    ⊎ (stands name None × (c1 ≡ c0) × (status ≡ 3) × Said name (error_line Read) e0 e1)

-- A file's turn failed: memory ran out before the command began; or it failed over the file; or the line failed that says that it can't be opened.
abbrev pub FailedFile : Standing → Asked → Name → Option (List ℕ) → Option (List ℕ) → SinkLog → SinkLog → ToolErr → Type 0
FailedFile stands asked name c0 c1 e0 e1 error =
    ((error ≡ Memory) × (c1 ≡ c0) × (e1 ≡ e0))
    ⊎ OverFile stands asked name c0 c1 e0 e1 (Err error)
    ⊎ (stands name None × (c1 ≡ c0) × Unsaid name (error_line Read) e0 e1 error)

-- ---- all of them

-- The command ran over these files in order, none with status 2, which is that of arguments that mean nothing together. The greatest status was the one before, and is the other after them.
abbrev pub RanFiles : Standing → Asked → ℕ → List Name → Option (List ℕ) → Option (List ℕ) → SinkLog → SinkLog → ℕ → Type 0
RanFiles stands asked before [] c0 c1 e0 e1 worst = (c1 ≡ c0) × (e1 ≡ e0) × (worst ≡ before)
RanFiles stands asked before (name ∷ names) c0 c1 e0 e1 worst =
    (c : Option (List ℕ)) × (e : SinkLog) × (status : ℕ) × RanFile stands asked name c0 c e0 e status × (status ≡ 2 → ⊥)
    × RanFiles stands asked (max before status) names c c1 e e1 worst

-- The files before this one ran, and this is its turn.
pub record Reached (stands : Standing) (asked : Asked) (names : List Name) (c0 c : Option (List ℕ)) (e0 e : SinkLog) (name : Name) : Type 0 where
  pub before : List Name
  pub after : List Name
  pub worst : ℕ
  pub names_are : names ≡ before ++ (name ∷ after)
  pub ran : RanFiles stands asked 0 before c0 c e0 e worst

-- What the command did over these files, and its answer: the greatest status once all ran; status 2 at the first file that gave it, and no other is opened; or the error at the first
-- whose turn failed.
abbrev pub RunsFiles : Standing → Asked → List Name → Option (List ℕ) → Option (List ℕ) → SinkLog → SinkLog → Result ℕ ToolErr → Type 0
RunsFiles stands asked names c0 c1 e0 e1 (Ok status) =
    RanFiles stands asked 0 names c0 c1 e0 e1 status
    ⊎ ((status ≡ 2) × (name : Name) × (c : Option (List ℕ)) × (e : SinkLog) × Reached stands asked names c0 c e0 e name × RanFile stands asked name c c1 e e1 2)
RunsFiles stands asked names c0 c1 e0 e1 (Err error) =
    (name : Name) × (c : Option (List ℕ)) × (e : SinkLog) × Reached stands asked names c0 c e0 e name × FailedFile stands asked name c c1 e e1 error
