-- The lines of a script in real time. Their text is this project's own.
use Rattle.std.specs.Prelude.{◌≡◌, ℕ, ◌+◌, ◌*◌, ◌<◌, ◌⊎◌, ℤ, ◌≤ℤ◌, Bool, true, false, List, [], ◌∷◌, ◌++◌, Option, None, Some, Ok, codes, decimal, length, take}
use Rattle.std.specs.Fmt.{signed_decimal}
use Rattle.hex.specs.Hex.{decode_of}
use Rattle.llrp_schema.specs.Calls.Schema.{message_named_in}
use Rattle.llrp_schema.specs.declared.kinds.KindSet.TheVariants.{Standard}
use Rattle.llrp_schema.specs.declared.kinds.MsgKind.{MsgKind}
use Rattle.llrp_tree.specs.declared.TheConstants.{MAX_LIMIT}
use Rattle.llrp_listing.specs.Calls.ListingLaws.{IsListing}
use Rattle.llrp_session.specs.declared.reader.side_events.SideEvent.{SideEvent}
use Rattle.llrp_session.specs.declared.reader.side_events.SideEvent.TheVariants.{AntennaOff, AntennaOn, InputLow, InputHigh, OtherClient}
use Rattle.llrp_endpoints.specs.Calls.Script.{IsActionLine}
use Rattle.llrp_endpoints.specs.declared.script.Action.TheVariants as action
use Rattle.llrp_live.specs.declared.moments.When.TheVariants.{Frames, Accepted, Started}
use Rattle.llrp_live.specs.declared.moments.When.{When}
use Rattle.llrp_live.specs.declared.lines.Again.{Again}
use Rattle.llrp_answers.specs.Calls.Answers.{lines_in}
use Rattle.llrp_live.specs.declared.lines.Deed.{Deed}
use Rattle.llrp_live.specs.declared.lines.Deed.TheVariants.{Seen, Tags, Tick, Close, Silent, Side, Expect, Octets, Send, Cut, Status}
use Rattle.llrp_live.specs.declared.lines.ShortOctets.{ShortOctets}
use Rattle.llrp_live.specs.declared.lines.Line.{Line}
use Rattle.llrp_live.specs.declared.rounds.Rounds.{Rounds}
use Rattle.llrp_live.specs.declared.script_reader.Sent.{Sent}

-- a time in microseconds, written as milliseconds or seconds
abbrev pub IsTime : ℕ → List ℕ → Type 0
IsTime wait text =
    ((n : ℕ) × (wait ≡ 1000 * n) × (text ≡ decimal n ++ codes "ms"))
    ⊎ ((n : ℕ) × (wait ≡ 1000000 * n) × (text ≡ decimal n ++ codes "s"))

-- what happens to an antenna or an input; no line says that another client came
abbrev pub IsSideEvent : SideEvent → List ℕ → Type 0
IsSideEvent (AntennaOff number) text = text ≡ codes "antenna " ++ (decimal number ++ codes " off")
IsSideEvent (AntennaOn number) text = text ≡ codes "antenna " ++ (decimal number ++ codes " on")
IsSideEvent (InputLow port) text = text ≡ codes "gpi " ++ (decimal port ++ codes " low")
IsSideEvent (InputHigh port) text = text ≡ codes "gpi " ++ (decimal port ++ codes " high")
IsSideEvent OtherClient text = ⊥

-- a message of the whole standard is expected within a time
abbrev pub IsExpected : MsgKind → ℕ → List ℕ → Type 0
IsExpected kind wait text =
    (name time : List ℕ) × (message_named_in Standard name ≡ Some kind) × IsTime wait time
    × (text ≡ codes "expect " ++ (name ++ (codes " within " ++ time)))

-- these octets, in hexadecimal digits of either case
abbrev pub AreOctets : ShortOctets → List ℕ → Type 0
AreOctets short text = (digits : List ℕ) × (decode_of digits ≡ Ok (take short.count short.octets)) × (text ≡ codes "octets " ++ digits)

-- a status for the next message of a kind of the whole standard, and the text in it, which may be left out where it is empty
abbrev pub IsStatus : MsgKind → ℕ → List ℕ → List ℕ → Type 0
IsStatus kind status said text =
    (name rest : List ℕ) × (message_named_in Standard name ≡ Some kind)
    × (((rest ≡ []) × (said ≡ [])) ⊎ (rest ≡ codes " " ++ said))
    × (text ≡ codes "status " ++ (decimal status ++ (codes " " ++ (name ++ rest))))

-- ---- a line that sees the tags of a file

-- numbers, each with a comma before it
abbrev pub after_commas : List ℕ → List ℕ
after_commas [] = []
after_commas (n ∷ ns) = codes "," ++ (decimal n ++ after_commas ns)

-- numbers with commas between them, at least one
abbrev pub AreNumbers : List ℕ → List ℕ → Type 0
AreNumbers [] text = ⊥
AreNumbers (n ∷ ns) text = text ≡ decimal n ++ after_commas ns

-- from the least to the greatest signal strength, or the one that is both
abbrev pub AreStrengths : ℤ → ℤ → List ℕ → Type 0
AreStrengths least greatest text =
    ((least ≤ℤ greatest) × (text ≡ signed_decimal least ++ (codes ".." ++ signed_decimal greatest)))
    ⊎ ((least ≡ greatest) × (text ≡ signed_decimal least))

-- The name of a file: it is not empty, and does not begin as the text of a tag does.
pub record IsFileName (text : List ℕ) : Type 0 where
  pub some : 0 < length text
  pub no_tag : take 4 text ≡ codes "urn:" → ⊥

-- antennas, signal strengths, and the name of a file of tags
abbrev pub IsTagsLine : Rounds → List ℕ → Type 0
IsTagsLine r text =
    (antennas strengths : List ℕ) × AreNumbers (take r.antennas.count r.antennas.numbers) antennas
    × AreStrengths r.least r.greatest strengths × IsFileName (take r.file.count r.file.octets)
    × (text ≡ codes "seen " ++ (antennas ++ (codes " " ++ (strengths ++ (codes " " ++ take r.file.count r.file.octets)))))

-- ---- what happens, and when

-- what happens: what a script says of a reader, what a reader does on purpose, or what is expected of the client
abbrev pub IsDeed : Deed → List ℕ → Type 0
IsDeed (Seen sighting) text = IsActionLine (action.Seen sighting) text
IsDeed (Tags rounds) text = IsTagsLine rounds text
IsDeed Tick text = IsActionLine action.Tick text
IsDeed Close text = text ≡ codes "close"
IsDeed (Silent wait) text = (time : List ℕ) × IsTime wait time × (text ≡ codes "silent " ++ time)
IsDeed (Side event) text = IsSideEvent event text
IsDeed (Expect kind wait) text = IsExpected kind wait text
IsDeed (Octets short) text = AreOctets short text
IsDeed Send text = text ≡ codes "send"
IsDeed (Cut count) text = text ≡ codes "cut " ++ decimal count
IsDeed (Status kind status said) text = IsStatus kind status (take said.count said.octets) text

-- it happens once, or every so often for a time, and has not happened yet
abbrev pub IsRepeated : Option Again → List ℕ → List ℕ → Type 0
IsRepeated None deed text = text ≡ deed
IsRepeated (Some again) deed text =
    (period left : List ℕ) × (again.done ≡ 0) × IsTime again.period period × IsTime again.left left
    × (text ≡ codes "every " ++ (period ++ (codes " for " ++ (left ++ (codes " " ++ deed)))))

-- a moment: AFTER NOW, accepted+TIME or started+TIME
abbrev pub IsWhen : When → List ℕ → Type 0
IsWhen (Frames after now) text = text ≡ decimal after ++ (codes " " ++ decimal now)
IsWhen (Accepted wait) text = (time : List ℕ) × IsTime wait time × (text ≡ codes "accepted+" ++ time)
IsWhen (Started wait) text = (time : List ℕ) × IsTime wait time × (text ≡ codes "started+" ++ time)

-- the text of a line without its LF: its moment, whether it happens again, and what happens; its number is not in the text
pub record IsLine (line : Line) (text : List ℕ) : Type 0 where
  pub when : List ℕ
  pub rest : List ℕ
  pub deed : List ℕ
  pub is_when : IsWhen line.when when
  pub is_repeated : IsRepeated line.again deed rest
  pub is_deed : IsDeed line.deed deed
  pub text_is : text ≡ when ++ (codes " " ++ rest)

-- messages are sent by this
abbrev pub sends : Deed → Bool
sends Send = true
sends _ = false

-- what stands below a line with this number: nothing, or the listing of the messages that it sends
abbrev pub IsBelowBy : Bool → (number : ℕ) → List Sent → List ℕ → Type 0
IsBelowBy false number own text = (own ≡ []) × (text ≡ [])
IsBelowBy true number own text = (s : Sent) × (own ≡ s ∷ []) × (s.line ≡ number) × IsListing Standard MAX_LIMIT text s.messages.items

abbrev pub IsBelow : Line → List Sent → List ℕ → Type 0
IsBelow line own text = IsBelowBy (sends line.deed) line.number own text

-- the text is these lines in order, each ended by LF, with what stands below them, and that is what they send; `before` LFs come before
-- them, and each has the number of its place, counted from 1
abbrev pub AreLines : ℕ → List Line → List Sent → List ℕ → Type 0
AreLines before [] [] text = text ≡ []
AreLines before [] (s ∷ sent) text = ⊥
AreLines before (line ∷ lines) sent text =
    (first below rest : List ℕ) × (own later : List Sent) × IsLine line first × (line.number ≡ before + 1) × IsBelow line own below
    × (sent ≡ own ++ later) × (text ≡ first ++ (codes "\n" ++ (below ++ rest))) × AreLines (before + lines_in (first ++ (codes "\n" ++ below))) lines later rest
