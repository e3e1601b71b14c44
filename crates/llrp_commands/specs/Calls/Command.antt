-- What a command does, and how it is answered: its exit status, and its line for an error.
use Rattle.std.specs.Prelude.{◌≡◌, ℕ, ◌⊎◌, List, [], ◌∷◌, ◌++◌, Bool, true, false, Option, Some, None, Result, Ok, Err, codes, decimal}
use Rattle.clap.specs.Words.{Text}
use Rattle.hex.specs.Hex.{encode_upper}
use Rattle.llrp_schema.specs.declared.kinds.KindSet.{KindSet}
use Rattle.llrp_schema.specs.declared.kinds.KindSet.TheVariants.{Profile, Standard}
use Rattle.llrp_listing.specs.declared.outcome.Refusal.{Refusal}
use Rattle.llrp_listing.specs.declared.outcome.ToolErr.{ToolErr}
use Rattle.llrp_listing.specs.declared.outcome.ToolErr.TheVariants.{Listing, Script, Hex, Read, Write, Bound, Memory, Broken, Peer, Strange, Early}
use Rattle.llrp_listing.specs.declared.outcome.Verdict.{Verdict}
use Rattle.llrp_listing.specs.declared.outcome.Verdict.TheVariants.{Lawful, Faulty}
use Rattle.llrp_listing.specs.Copying.{GaveAndFailed, IsPrefix, ReadAll}
use Rattle.llrp_listing.specs.declared.devices.TheConstants.{MOST_READS}
use Rattle.llrp_listing.specs.Calls.Copying.{ReadStopped}
use Rattle.llrp_stream.specs.Device.{SourceLog, SinkLog, Gave, Wrote, WroteAndFailed}
use Rattle.llrp_listing.specs.Encoding.{EncodedIn, EncodesIn, EncodeStoppedIn, ListingRefusedIn, WasRead}
use Rattle.llrp_listing.specs.Calls.EpcLines.{PrintsEpc}
use Rattle.llrp_listing.specs.Calls.Hexadecimal.{IsHexOf, IsNoHex}
use Rattle.llrp_listing.specs.Refused.{refusal_name}
use Rattle.llrp_listing.specs.Show.{ListedAs, ShowsAs, StoppedAs}
use Rattle.llrp_listing.specs.StreamListing.{IsItemText, end_text}
use Rattle.llrp_json.specs.JsonLines.{end_json}
use Rattle.llrp_json.specs.JsonNames.{IsNamedJson}
use Rattle.llrp_json.specs.declared.names.Names.{Names}
use Rattle.llrp_json.specs.declared.names.Names.TheVariants.{Own}
use Rattle.llrp_stream.specs.declared.item.Item.{Item}
use Rattle.llrp_stream.specs.declared.item.End.{End}
use Rattle.llrp_words.specs.Calls.Arguments.{Asks, AsksEpc, AsksNoLabels, AsksNoSegments, command_in, word_in}

-- the set of kinds that a command takes, with --all or without
abbrev pub set_of : Bool → KindSet
set_of false = Profile
set_of true = Standard

-- the exit status of a verdict
abbrev pub status_of : Verdict → ℕ
status_of Lawful = 0
status_of Faulty = 1

-- the exit status of an error
abbrev pub error_status : ToolErr → ℕ
error_status (Listing line reason) = 1
error_status (Script line) = 1
error_status Hex = 1
error_status Broken = 1
error_status (Peer status) = 1
error_status Strange = 1
error_status Early = 1
error_status Read = 3
error_status Write = 3
error_status Bound = 3
error_status Memory = 3

-- the number of a line that is refused, and the reason, to the line's end
unfoldable pub reason_line : ℕ → Refusal → List ℕ
reason_line line reason = decimal line ++ (codes ": " ++ (refusal_name reason ++ codes "\n"))

-- the line of a refusal: what stands before that number, and both
abbrev pub refusal_line : List ℕ → ℕ → Refusal → List ℕ
refusal_line front line reason = front ++ reason_line line reason

-- the line of an error
unfoldable pub error_line : ToolErr → List ℕ
error_line (Listing line reason) = refusal_line (codes "llrp: line ") line reason
error_line (Script line) = codes "llrp: script line " ++ (decimal line ++ codes "\n")
error_line Hex = codes "llrp: hex\n"
error_line Read = codes "llrp: read\n"
error_line Write = codes "llrp: write\n"
error_line Bound = codes "llrp: bound\n"
error_line Broken = codes "llrp: broken\n"
error_line Memory = codes "llrp: memory\n"
error_line (Peer status) = codes "llrp: status " ++ (decimal status ++ codes "\n")
error_line Strange = codes "llrp: strange\n"
error_line Early = codes "llrp: early\n"

-- What a command that ended so answered, and wrote to the sink for errors: its status alone, or its
-- error's line and status, or the Write that stopped that line.
abbrev pub Answers : Result ℕ ToolErr → SinkLog → SinkLog → Result ℕ ToolErr → Type 0
Answers (Ok status) e0 e1 answer = (answer ≡ Ok status) × (e1 ≡ e0)
Answers (Err error) e0 e1 (Ok status) = (status ≡ error_status error) × Wrote e0 e1 (error_line error)
Answers (Err error) e0 e1 (Err fault) = (fault ≡ Write) × (front : List ℕ) × IsPrefix front (error_line error) × WroteAndFailed e0 e1 front

-- ---- show

-- the line of an item: of a listing, or an object of JSON under these names
abbrev pub IsLine : Option Names → Item → List ℕ → Type 0
IsLine None item line = IsItemText item line
IsLine (Some names) item line = IsNamedJson names item line

-- the line of an end, if it has one
abbrev pub end_line : Option Names → End → List ℕ
end_line None end = end_text end
end_line (Some names) end = end_json end

-- Show of hexadecimal digits stopped: while it read, in what it had read, or while it listed the bytes.
abbrev pub ShowDigitsStopped : Option Names → KindSet → ℕ → SourceLog → SourceLog → SinkLog → SinkLog → List ℕ → ToolErr → Type 0
ShowDigitsStopped names p limit r0 r1 w0 w1 text error =
    (ReadStopped r0 r1 text error × (w1 ≡ w0))
    ⊎ (ReadAll r0 r1 text × (w1 ≡ w0) × ((error ≡ Memory) ⊎ ((error ≡ Hex) × IsNoHex text)))
    ⊎ (ReadAll r0 r1 text × (bytes : List ℕ) × IsHexOf text bytes × StoppedAs (IsLine names) (end_line names) p limit bytes w0 w1 error)

-- What show of hexadecimal digits did, by its answer.
abbrev pub ShowsDigits : Option Names → KindSet → ℕ → SourceLog → SourceLog → SinkLog → SinkLog → Result Verdict ToolErr → Type 0
ShowsDigits names p limit r0 r1 w0 w1 (Ok verdict) = (text bytes : List ℕ) × ReadAll r0 r1 text × IsHexOf text bytes × ListedAs (IsLine names) (end_line names) p limit bytes w0 w1 verdict
ShowsDigits names p limit r0 r1 w0 w1 (Err error) = (text : List ℕ) × ShowDigitsStopped names p limit r0 r1 w0 w1 text error

-- What show did in a set of kinds, with a listing or lines of JSON, and without --hex or with it, by its verdict.
abbrev pub DoesShow : Option Names → Bool → KindSet → (limit : ℕ) → SourceLog → SourceLog → SinkLog → SinkLog → Result Verdict ToolErr → Type 0
DoesShow names false p limit r0 r1 w0 w1 outcome = ShowsAs (IsLine names) (end_line names) p limit r0 r1 w0 w1 outcome
DoesShow names true p limit r0 r1 w0 w1 outcome = ShowsDigits names p limit r0 r1 w0 w1 outcome

-- ---- encode

-- bytes as one line of upper-case digits, and no bytes as nothing
abbrev pub digit_line : List ℕ → List ℕ
digit_line [] = []
digit_line (byte ∷ bytes) = encode_upper (byte ∷ bytes) ++ codes "\n"

-- No encoding was made of what was read, for this reason.
abbrev pub NotEncoded : KindSet → ℕ → SourceLog → SourceLog → ToolErr → Type 0
NotEncoded p limit r0 r1 (Listing line reason) = (bytes : List ℕ) × ListingRefusedIn p limit r0 r1 line reason bytes
NotEncoded p limit r0 r1 Read = (n : ℕ) × (front : List ℕ) × GaveAndFailed r0 r1 n front
NotEncoded p limit r0 r1 Bound = (front : List ℕ) × Gave r0 r1 MOST_READS front
NotEncoded p limit r0 r1 Memory = (front : List ℕ) × WasRead r0 r1 front
NotEncoded p limit r0 r1 _ = ⊥

-- a front of the digits of the encoding was written, and then a write failed
abbrev pub DigitsUnwritten : KindSet → ℕ → SourceLog → SourceLog → SinkLog → SinkLog → Type 0
DigitsUnwritten p limit r0 r1 w0 w1 = (text bytes front : List ℕ) × ReadAll r0 r1 text × EncodesIn p limit text bytes × IsPrefix front (digit_line bytes) × WroteAndFailed w0 w1 front

-- What encode to hexadecimal digits did, by its answer.
abbrev pub EncodesDigits : KindSet → ℕ → SourceLog → SourceLog → SinkLog → SinkLog → Result (Unit {0}) ToolErr → Type 0
EncodesDigits p limit r0 r1 w0 w1 (Ok u) = (text bytes : List ℕ) × ReadAll r0 r1 text × EncodesIn p limit text bytes × Wrote w0 w1 (digit_line bytes)
EncodesDigits p limit r0 r1 w0 w1 (Err error) = ((w1 ≡ w0) × NotEncoded p limit r0 r1 error) ⊎ ((error ≡ Write) × DigitsUnwritten p limit r0 r1 w0 w1)

-- What encode did, by its answer.
abbrev pub EncodesBytes : KindSet → ℕ → SourceLog → SourceLog → SinkLog → SinkLog → Result (Unit {0}) ToolErr → Type 0
EncodesBytes p limit r0 r1 w0 w1 (Ok u) = EncodedIn p limit r0 r1 w0 w1
EncodesBytes p limit r0 r1 w0 w1 (Err error) = EncodeStoppedIn p limit r0 r1 w0 w1 error

-- What encode did in a set of kinds, with --hex or without.
abbrev pub DoesEncode : Bool → KindSet → (limit : ℕ) → SourceLog → SourceLog → SinkLog → SinkLog → Result (Unit {0}) ToolErr → Type 0
DoesEncode false p limit r0 r1 w0 w1 outcome = EncodesBytes p limit r0 r1 w0 w1 outcome
DoesEncode true p limit r0 r1 w0 w1 outcome = EncodesDigits p limit r0 r1 w0 w1 outcome

-- Memory ran out before a command began: nothing was read or written.
pub record IsNotBegun (r0 r1 : SourceLog) (w0 w1 e0 e1 : SinkLog) (answer : Result ℕ ToolErr) : Type 0 where
  pub answer_is : answer ≡ Err Memory
  pub unread : r1 ≡ r0
  pub unwritten : w1 ≡ w0
  pub untold : e1 ≡ e0

-- the status of a verdict, or the error
abbrev pub verdict_status : Result Verdict ToolErr → Result ℕ ToolErr
verdict_status (Ok verdict) = Ok (status_of verdict)
verdict_status (Err error) = Err error

-- status 0, or the error
abbrev pub fine_status : Result (Unit {0}) ToolErr → Result ℕ ToolErr
fine_status (Ok u) = Ok 0
fine_status (Err error) = Err error

-- the names of lines of JSON, with --json alone
abbrev pub own_names : Bool → Option Names
own_names false = None
own_names true = Some Own

-- Show ran to this answer.
abbrev pub RanShow : Bool → Bool → KindSet → (limit : ℕ) → SourceLog → SourceLog → SinkLog → SinkLog → SinkLog → SinkLog → Result ℕ ToolErr → Type 0
RanShow json hex p limit r0 r1 w0 w1 e0 e1 answer =
    IsNotBegun r0 r1 w0 w1 e0 e1 answer
    ⊎ ((outcome : Result Verdict ToolErr) × DoesShow (own_names json) hex p limit r0 r1 w0 w1 outcome × Answers (verdict_status outcome) e0 e1 answer)

-- Epc ran to this answer. It reads nothing.
abbrev pub RanEpc : List ℕ → SourceLog → SourceLog → SinkLog → SinkLog → SinkLog → SinkLog → Result ℕ ToolErr → Type 0
RanEpc text r0 r1 w0 w1 e0 e1 answer =
    IsNotBegun r0 r1 w0 w1 e0 e1 answer
    ⊎ ((outcome : Result Verdict ToolErr) × (r1 ≡ r0) × PrintsEpc text w0 w1 outcome × Answers (verdict_status outcome) e0 e1 answer)

-- if the words ask for show without --names, --segments and labels, it ran so
abbrev pub ShowsIfAsked : List Text → SourceLog → SourceLog → SinkLog → SinkLog → SinkLog → SinkLog → Result ℕ ToolErr → Type 0
ShowsIfAsked words r0 r1 w0 w1 e0 e1 answer =
    (hex all json : Bool) (limit : ℕ) → Asks words (codes "show") hex all json limit → word_in (codes "names") (command_in words) ≡ None → AsksNoLabels words → AsksNoSegments words
    → RanShow json hex (set_of all) limit r0 r1 w0 w1 e0 e1 answer

-- the same of epc
abbrev pub PrintsEpcIfAsked : List Text → SourceLog → SourceLog → SinkLog → SinkLog → SinkLog → SinkLog → Result ℕ ToolErr → Type 0
PrintsEpcIfAsked words r0 r1 w0 w1 e0 e1 answer = (text : List ℕ) → AsksEpc words text → RanEpc text r0 r1 w0 w1 e0 e1 answer

-- The command is left to the program: nothing was read or written.
abbrev pub LeftAlone : SourceLog → SourceLog → SinkLog → SinkLog → SinkLog → SinkLog → Result ℕ ToolErr → Type 0
LeftAlone r0 r1 w0 w1 e0 e1 answer =
    IsNotBegun r0 r1 w0 w1 e0 e1 answer ⊎ ((answer ≡ Ok 2) × (r1 ≡ r0) × (w1 ≡ w0) × (e1 ≡ e0))

-- an error is that of memory, or of the sink for errors
abbrev pub FailsAsTold : SinkLog → SinkLog → ToolErr → Type 0
FailsAsTold e0 e1 error = (error ≡ Memory) ⊎ ((error ≡ Write) × (front : List ℕ) × WroteAndFailed e0 e1 front)
