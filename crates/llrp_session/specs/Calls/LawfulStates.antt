-- Machines whose numbers are those that their types hold, and whose reports may be sent; and the same of what happens to them.
use Rattle.std.specs.Prelude.{◌≡◌, ◌^◌, ◌<◌, ◌≤◌, ◌⊎◌, ℕ, List, [], ◌∷◌, length}
use Rattle.llrp_schema.specs.declared.kinds.ParamKind.TheVariants.{RoSpec as RoSpecKind}
use Rattle.llrp_tree.specs.Lawful.{IsLawfulTree}
use Rattle.llrp_session.specs.Contents.{Request, AddRoSpec, DeleteRoSpec, StartRoSpec, StopRoSpec, EnableRoSpec, DisableRoSpec, ReaderMessage, ClientMessage}
use Rattle.llrp_session.specs.ReaderMachine.{Reader, ReaderEvent, Connect, Take, TakeBad, Seen, Tick, most_held}
use Rattle.llrp_session.specs.Calls.LawfulWords.{AreReports, AreToldOf, FitsLimit, IsLawfulReaderMessage, IsLawfulClientMessage}
use Rattle.llrp_session.specs.MessageWorld.{IsLawfulSighting}

-- ---- the reader

pub record IsLawfulReader (r : Reader) : Type 0 where
  pub next_id : r.next_id < 2 ^ 32
  pub version : (r.version ≡ 1) ⊎ (r.version ≡ 2)
  pub held : AreReports r.held
  pub few : length r.held ≤ most_held
  pub table : AreToldOf r.table
  pub fits : FitsLimit r.limit r.table

abbrev pub IsLawfulRequest : Request → Type 0
IsLawfulRequest (AddRoSpec rospec) = (rospec.kind ≡ RoSpecKind) × IsLawfulTree rospec
IsLawfulRequest (DeleteRoSpec id) = id < 2 ^ 32
IsLawfulRequest (StartRoSpec id) = id < 2 ^ 32
IsLawfulRequest (StopRoSpec id) = id < 2 ^ 32
IsLawfulRequest (EnableRoSpec id) = id < 2 ^ 32
IsLawfulRequest (DisableRoSpec id) = id < 2 ^ 32
IsLawfulRequest _ = Unit {0}

abbrev pub IsLawfulReaderEvent : ReaderEvent → Type 0
IsLawfulReaderEvent Connect = Unit {0}
IsLawfulReaderEvent (Take version id request) = ((version ≡ 1) ⊎ (version ≡ 2)) × (id < 2 ^ 32) × IsLawfulRequest request
IsLawfulReaderEvent (TakeBad id reason) = id < 2 ^ 32
IsLawfulReaderEvent (Seen g) = IsLawfulSighting g
IsLawfulReaderEvent Tick = Unit {0}

abbrev pub AreLawfulReaderMessages : ℕ → List ReaderMessage → Type 0
AreLawfulReaderMessages limit [] = Unit {0}
AreLawfulReaderMessages limit (m ∷ ms) = IsLawfulReaderMessage limit m × AreLawfulReaderMessages limit ms

-- ---- the client

abbrev pub AreLawfulClientMessages : ℕ → List ClientMessage → Type 0
AreLawfulClientMessages limit [] = Unit {0}
AreLawfulClientMessages limit (m ∷ ms) = IsLawfulClientMessage limit m × AreLawfulClientMessages limit ms
