-- The plan of an inventory: its ROSpec, and the steps that a client takes in order.
use Rattle.std.specs.Prelude.{ℕ, ◌&&◌, not, nat_lt, Bool, true, false, List, [], ◌∷◌, ◌++◌, replicate, Some}
use Rattle.llrp_schema.specs.declared.kinds.KindSet.{KindSet}
use Rattle.llrp_schema.specs.declared.kinds.ParamKind.TheVariants.{RoSpec, RoBoundarySpec, RoSpecStartTrigger, RoSpecStopTrigger, AiSpec, AiSpecStopTrigger, InventoryParameterSpec, RoReportSpec, TagReportContentSelector}
use Rattle.llrp_tree.specs.Tree.{Tree, forest}
use Rattle.llrp_session.specs.RoSpec.{field_of}
use Rattle.llrp_session.specs.ReaderMessages.{parameter}
use Rattle.llrp_session.specs.declared.types.Command.{Command}
use Rattle.llrp_session.specs.declared.types.Command.TheVariants.{Add, Delete, Start, Stop, Enable, Disable, GetRospecs, SetKeepalive, GetReport, Close}
use Rattle.llrp_endpoints.specs.declared.course.Step.{Step}
use Rattle.llrp_endpoints.specs.declared.course.Step.TheVariants.{Send, AwaitTags}
use Rattle.llrp_endpoints.specs.declared.form.LineForm.{LineForm}
use Rattle.llrp_endpoints.specs.declared.hearing.Hearing.{Hearing}
use Rattle.llrp_endpoints.specs.Asides.{Asides}

pub record Plan : Type 0 where
  pub rospec : Tree  -- the ROSpec that the client adds
  pub asides : Asides  -- what it says besides
  pub cleans : Bool  -- before that it deletes those that the reader has
  pub renews : Bool  -- or the one of the same id, whether the reader has it or not
  pub passes : Bool  -- once the reader has accepted the client, what is odd is passed over
  pub adds : Bool  -- it does add it; a plan that doesn't only deletes, and closes the connection
  pub starts : Bool  -- it starts it, where its start trigger has the type 0; with any other the reader starts it itself once it is enabled
  pub keepalive : ℕ  -- it asks for a KEEPALIVE each time this many milliseconds have passed; 0 where it does not ask
  pub reports : ℕ  -- it awaits this many reports with a tag once the ROSpec was started
  pub polls : ℕ  -- it then asks this many times for the reports that are held
  pub checked : Bool  -- it compares its view with the reader's table before it deletes the ROSpec
  pub disables : Bool  -- it disables the ROSpec at the end, which may have stopped by a trigger of its own, and doesn't stop it
  pub form : LineForm  -- the form of the lines that it prints
  pub set : KindSet  -- the set of kinds that the reader's messages are read in

-- ---- the ROSpec of a standard plan (LLRP 1.1, sections 11 and 14)

-- it starts and stops on commands alone
abbrev pub boundary : Tree
boundary = parameter RoBoundarySpec [] (parameter RoSpecStartTrigger (0 ∷ []) [] ∷ parameter RoSpecStopTrigger (0 ∷ 0 ∷ []) [] ∷ [])

-- one AISpec that does not stop by itself, on antenna 0, which stands for all; InventoryParameterSpec 1 of protocol 1
abbrev pub antenna_inventory : Tree
antenna_inventory = record {
  kind = AiSpec;
  fields = [];
  tail = 0 ∷ 0 ∷ [];
  children = forest (parameter AiSpecStopTrigger (0 ∷ 0 ∷ []) [] ∷ parameter InventoryParameterSpec (1 ∷ 1 ∷ []) [] ∷ []);
}

-- of each tag its antenna and its greatest RSSI
abbrev pub selector : Tree
selector = parameter TagReportContentSelector (0 ∷ 0 ∷ 0 ∷ 1 ∷ 0 ∷ 1 ∷ 0 ∷ 0 ∷ 0 ∷ 0 ∷ []) []

-- a report each time this many tags were seen, and at the ROSpec's end
abbrev pub reporting : ℕ → Tree
reporting every = parameter RoReportSpec (2 ∷ every ∷ []) (selector ∷ [])

-- ROSpecID 1, priority 0, disabled
unfoldable pub rospec : ℕ → Tree
rospec every = parameter RoSpec (1 ∷ 0 ∷ 0 ∷ []) (boundary ∷ antenna_inventory ∷ reporting every ∷ [])

-- ---- what is read in the ROSpec

abbrev pub rospec_id : Plan → ℕ
rospec_id plan = field_of 0 (Some plan.rospec)

abbrev pub is_started : Plan → Bool
is_started plan = plan.starts

-- the reader is to send KEEPALIVEs
abbrev pub is_kept : Plan → Bool
is_kept plan = nat_lt 0 plan.keepalive

-- ---- the steps

-- all ROSpecs are deleted, for which ROSpecID 0 stands, or the one of this id, or none
abbrev pub cleaning : (cleans renews : Bool) → ℕ → List Step
cleaning true renews id = Send (Delete 0) ∷ []
cleaning false true id = Send (Delete id) ∷ []
cleaning false false id = []

abbrev pub keeping : Bool → ℕ → List Step
keeping true ms = Send (SetKeepalive ms) ∷ []
keeping false ms = []

abbrev pub starting : Bool → ℕ → List Step
starting true id = Send (Start id) ∷ []
starting false id = []

-- the ROSpec is added, enabled, and started unless the reader does that itself
abbrev pub adding : (adds starts : Bool) → Tree → ℕ → List Step
adding true starts rospec id = Send (Add rospec) ∷ Send (Enable id) ∷ starting starts id
adding false starts rospec id = []

abbrev pub ending : Bool → ℕ → Command
ending true id = Disable id
ending false id = Stop id

-- in a plan that is checked, the reader's ROSpecs are asked for
abbrev pub checking : Bool → List Step
checking true = Send GetRospecs ∷ []
checking false = []

-- the ROSpec is stopped or disabled, checked if the plan is, and deleted
abbrev pub removing : (adds disables checked : Bool) → ℕ → List Step
removing true disables checked id = Send (ending disables id) ∷ (checking checked ++ Send (Delete id) ∷ [])
removing false disables checked id = []

-- ROSpecs are deleted if the plan cleans or renews, and KEEPALIVEs asked for if it is to have them; the ROSpec is added if the plan adds it; this many
-- reports with a tag are awaited; this many times the reports are asked for; the ROSpec is removed if it was added, and the connection closed.
unfoldable pub steps : Plan → List Step
steps plan =
    cleaning plan.cleans plan.renews (rospec_id plan) ++ (keeping (is_kept plan) plan.keepalive
    ++ (adding plan.adds (is_started plan) plan.rospec (rospec_id plan)
    ++ (replicate plan.reports AwaitTags ++ (replicate plan.polls (Send GetReport)
    ++ (removing plan.adds plan.disables plan.checked (rospec_id plan) ++ Send Close ∷ [])))))

-- ---- how it hears

-- a plan that renews begins with a DELETE_ROSPEC that may be refused: the reader may have no such ROSpec
abbrev pub hearing_of : Plan → Hearing
hearing_of plan = record { set = plan.set; excuses = plan.renews && not plan.cleans; passes = plan.passes }
