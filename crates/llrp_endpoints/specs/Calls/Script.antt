-- The scripts of the simulated reader: what its antennas see, and when. Their text is this project's own.
use Rattle.std.specs.Prelude.{◌≡◌, ℕ, ◌+◌, ◌^◌, ◌<◌, ◌≤◌, List, [], ◌∷◌, ◌++◌, length, All, FitsSigned, codes, decimal}
use Rattle.std.specs.Fmt.{signed_decimal}
use Rattle.std.specs.Int.{w8}
use Rattle.std.specs.List.Sorted.{IsNonDecreasingBy}
use Rattle.tag_uri.specs.TagText.{IsTextOf}
use Rattle.llrp_listing.specs.declared.outcome.ToolErr.{ToolErr}
use Rattle.llrp_listing.specs.declared.outcome.ToolErr.TheVariants.{Script, Memory}
use Rattle.llrp_session.specs.declared.types.Sighting.{Sighting}
use Rattle.llrp_endpoints.specs.declared.script.Action.{Action}
use Rattle.llrp_endpoints.specs.declared.script.Action.TheVariants.{Seen, Tick}
use Rattle.llrp_endpoints.specs.declared.script.Entry.{Entry}
use Rattle.llrp_endpoints.specs.declared.script.TheConstants.{MOST_ENTRIES}

-- the text of a sighting: antenna, RSSI, and the one text of its word
abbrev pub IsSightingLine : Sighting → List ℕ → Type 0
IsSightingLine s text = (epc : List ℕ) × IsTextOf s.epc epc × (text ≡ decimal s.antenna ++ (codes " " ++ (signed_decimal s.rssi ++ (codes " " ++ epc))))

-- the text of an action
abbrev pub IsActionLine : Action → List ℕ → Type 0
IsActionLine (Seen s) text = (sighting : List ℕ) × IsSightingLine s sighting × (text ≡ codes "seen " ++ sighting)
IsActionLine Tick text = text ≡ codes "tick"

-- the line of an entry without its LF: AFTER, NOW and the action
abbrev pub IsEntryLine : Entry → List ℕ → Type 0
IsEntryLine e line = (action : List ℕ) × IsActionLine e.action action × (line ≡ decimal e.after ++ (codes " " ++ (decimal e.now ++ (codes " " ++ action))))

-- the text is the lines of the entries in order, each ended by LF
abbrev pub IsTextOfAll : List Entry → List ℕ → Type 0
IsTextOfAll [] text = text ≡ []
IsTextOfAll (e ∷ entries) text = (line rest : List ℕ) × IsEntryLine e line × (text ≡ line ++ (codes "\n" ++ rest)) × IsTextOfAll entries rest

-- The numbers of a sighting are in range: an AntennaID of 16 bits, a PeakRSSI of one signed octet (LLRP 1.1, section 17), and a word.
pub record IsSightingInRange (s : Sighting) : Type 0 where
  pub antenna : s.antenna < 2 ^ 16
  pub rssi : FitsSigned w8 s.rssi
  pub epc : s.epc < 2 ^ 96

-- those of an action are
abbrev pub IsActionInRange : Action → Type 0
IsActionInRange (Seen s) = IsSightingInRange s
IsActionInRange Tick = Unit {0}

-- The numbers of an entry are in range.
pub record IsInRange (e : Entry) : Type 0 where
  pub after : e.after < 2 ^ 64
  pub now : e.now < 2 ^ 64
  pub action : IsActionInRange e.action

-- Entries whose numbers are in range, in which neither AFTER nor NOW falls, and not too many.
pub record IsLawfulScript (entries : List Entry) : Type 0 where
  pub in_range : All IsInRange entries
  pub after : IsNonDecreasingBy (λ e. e.after) entries
  pub now : IsNonDecreasingBy (λ e. e.now) entries
  pub few : length entries ≤ MOST_ENTRIES

-- The text is the script of these entries.
pub record IsScript (entries : List Entry) (text : List ℕ) : Type 0 where
  pub lawful : IsLawfulScript entries
  pub lines : IsTextOfAll entries text

-- The text begins with the script of these entries, and this is the rest.
pub record Begins (text : List ℕ) (entries : List Entry) (rest : List ℕ) : Type 0 where
  pub front : List ℕ
  pub script : IsScript entries front
  pub text_is : text ≡ front ++ rest

-- the text begins with the line of this entry, which may follow these, and this is the rest
pub record Continues (entries : List Entry) (text : List ℕ) (entry : Entry) (rest : List ℕ) : Type 0 where
  pub line : List ℕ
  pub says : IsEntryLine entry line
  pub text_is : text ≡ line ++ (codes "\n" ++ rest)
  pub lawful : IsLawfulScript (entries ++ entry ∷ [])

-- the text begins with the line of no entry that may follow these
abbrev pub NoneContinues : List Entry → List ℕ → Type 0
NoneContinues entries text = (entry : Entry) (rest : List ℕ) → Continues entries text entry rest → ⊥

-- The first refused line: entries have the text before it, it is not the end, and it is no entry that may follow them.
pub record IsRefusedAt (text : List ℕ) (line : ℕ) : Type 0 where
  pub before : List Entry
  pub rest : List ℕ
  pub begins : Begins text before rest
  pub some : 0 < length rest
  pub none : NoneContinues before rest
  pub counted : line ≡ length before + 1

-- why a text was not read as a script
abbrev pub ParseStopped : List ℕ → ToolErr → Type 0
ParseStopped text (Script line) = IsRefusedAt text line
ParseStopped text Memory = Unit {0}
ParseStopped text _ = ⊥
