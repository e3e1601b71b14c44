-- What the parts of the reader's code have to do with the machine.
use Rattle.std.specs.Prelude.{◌≡◌, ℕ, ◌≤◌, ◌+◌, ◌==◌, nat_lt, ◌⊎◌, Bool, ◌&&◌, List, [], ◌∷◌, length, Option, None, Some, is_none, if◌then◌else◌}
use Rattle.llrp_tree.specs.declared.TheConstants.{MAX_LIMIT}
use Rattle.llrp_tree.specs.Tree.{Tree}
use Rattle.llrp_session.specs.RoSpec.{RoSpec}
use Rattle.llrp_session.specs.Table.{Entry, RoState, is_disabled, names, enabling, disabling, setting, active, first_immediate}
use Rattle.llrp_session.specs.Calls.LawfulWords.{AreReports, FitsLimit}
use Rattle.llrp_session.specs.Calls.NextClient.{resting}
use Rattle.llrp_session.specs.Contents.{ReaderMessage, Ended}
use Rattle.llrp_session.specs.ReaderMachine.{Reader, Turn, most_held, following, sends_at_end, turn_begun, end}
use Rattle.llrp_session.specs.ReaderMessages.{reader_message}
use Rattle.llrp_session.specs.declared.reader.table.StateChange.{StateChange}
use Rattle.llrp_session.specs.declared.reader.table.StateChange.TheVariants.{Enable, Disable, Set, Rest}
use Rattle.llrp_session.specs.declared.reader.end_rospec.Ending.{Ending}
use Rattle.llrp_session.specs.declared.parse.parsed.Request.{Request}
use Rattle.llrp_session.specs.declared.parse.parsed.Request.TheVariants.{AddRoSpec}

-- ---- the fields of a reader

-- the version is one of LLRP's, the ROSpecs fit one message, which may be long enough and is no longer than any may be, and the reports are few and short
pub record IsKept (v most : ℕ) (table : List Entry) (held : List Tree) : Type 0 where
  pub version : (v ≡ 1) ⊎ (v ≡ 2)
  pub least : 4096 ≤ most
  pub limit : most ≤ MAX_LIMIT
  pub octets : FitsLimit most table
  pub reports : AreReports held
  pub few : length held ≤ most_held

-- ---- the table

-- what a change makes of a state, by the id of the ROSpec
abbrev pub changing : StateChange → ℕ → RoState → RoState
changing (Enable n) = enabling n
changing (Disable n) = disabling n
changing (Set id state) = setting id state
changing Rest = resting

-- a ROSpec is among those named that are Disabled and start by themselves
abbrev pub is_immediate : ℕ → Entry → Bool
is_immediate n e = names n e.spec.id && (is_disabled e.state && (e.spec.start_trigger == 1))

-- where a new ROSpec is entered: before the first of a greater id
unfoldable pub place_of : ℕ → List Entry → ℕ
place_of id [] = 0
place_of id (e ∷ es) = if nat_lt id e.spec.id then 0 else place_of id es + 1

-- ---- ends

-- a ROSpec, if it passes the test
abbrev pub chosen : (RoSpec → Bool) → Option RoSpec → Option RoSpec
chosen test None = None
chosen test (Some s) = if test s then Some s else None

-- the end of a ROSpec, if there is one
abbrev pub end_of : ℕ → Option RoSpec → Turn → Turn
end_of now None t = t
end_of now (Some s) t = end now s t

-- the End event, whose id follows that of the report where one is sent first
abbrev pub end_message : ℕ → RoSpec → Reader → ReaderMessage
end_message now s r = record {
  version = r.version;
  id = if sends_at_end r s then following r.next_id else r.next_id;
  word = Ended now s.id;
}

-- what the code has ready for the end of a ROSpec
pub record IsEnding (now : ℕ) (s : RoSpec) (r : Reader) (e : Ending) : Type 0 where
  pub rospec : e.rospec ≡ s.id
  pub reports : e.reports ≡ sends_at_end r s
  pub event : e.event ≡ reader_message (end_message now s r)

abbrev pub IsEndingOf : ℕ → Option RoSpec → Reader → Option Ending → Type 0
IsEndingOf now None r None = Unit {0}
IsEndingOf now (Some s) r (Some e) = IsEnding now s r e
IsEndingOf now _ r _ = ⊥

-- ---- requests

-- a turn begins as a message of this version is taken
abbrev pub taken : ℕ → Reader → Turn
taken version r = turn_begun (record r { version = version })

-- the ROSpec that an enabling starts: none while one is active
abbrev pub started_by_enabling : ℕ → List Entry → Option RoSpec
started_by_enabling n table = if is_none (active table) then first_immediate n table else None

-- any request but ADD_ROSPEC
abbrev pub IsOther : Request → Type 0
IsOther (AddRoSpec settings) = ⊥
IsOther _ = Unit {0}
