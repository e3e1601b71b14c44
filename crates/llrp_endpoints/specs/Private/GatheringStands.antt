-- Beside Calls/GatheringStands: words of private functions.
use Rattle.std.specs.Prelude.{◌≡◌, ℕ, List, [], ◌∷◌, ◌++◌, Option, Some, None, Result, Ok, Err, Bool, true, false}
use Rattle.llrp_tree.specs.declared.fault.Fault.{Fault}
use Rattle.llrp_tree.specs.declared.fault.Reason.{Reason}
use Rattle.llrp_tree.specs.Tree.{Tree}
use Rattle.llrp_stream.specs.declared.item.Item.{Item}
use Rattle.llrp_stream.specs.declared.item.Item.TheVariants.{Bad}
use Rattle.llrp_stream.specs.Device.{SourceLog, SinkLog}
use Rattle.llrp_session.specs.declared.client.refusal.CmdFault.{CmdFault}
use Rattle.llrp_session.specs.declared.client.refusal.CmdFault.TheVariants as command
use Rattle.llrp_session.specs.declared.client.refusal.TakeFault.{TakeFault}
use Rattle.llrp_session.specs.declared.client.refusal.TakeFault.TheVariants as message
use Rattle.llrp_session.specs.Calls.LawfulWords.{AddsRoSpec}
use Rattle.llrp_listing.specs.declared.outcome.ToolErr.{ToolErr}
use Rattle.llrp_listing.specs.declared.outcome.ToolErr.TheVariants.{Memory, Strange}
use Rattle.llrp_endpoints.specs.declared.course.Awaits.{Awaits}
use Rattle.llrp_endpoints.specs.declared.course.Awaits.TheVariants.{Answer, TaggedReport, Report, End}
use Rattle.llrp_endpoints.specs.declared.gathering.Gathering.{Gathering}
use Rattle.llrp_endpoints.specs.declared.gathering.remaining.RemainingCommands.{RemainingCommands}
use Rattle.llrp_endpoints.specs.declared.course.Phase.TheVariants.{Open, Closed}
use Rattle.llrp_endpoints.specs.declared.course.Step.{Step}
use Rattle.llrp_endpoints.specs.declared.course.Step.TheVariants.{Send, AwaitTags}
use Rattle.llrp_endpoints.specs.declared.summary.Summary.{Summary}
use Rattle.llrp_endpoints.specs.Gathering.{Beginning, Course, awaited_for, new_course, follow, taken}
use Rattle.llrp_endpoints.specs.Calls.GatheringStands.{steps_left, Counts, FeedsFrom, Holds, IsOpen, Moves, StandsFrom, Stops}
use Rattle.llrp_endpoints.specs.Heard.{heard}
use Rattle.llrp_endpoints.specs.Plan.{Plan}
use Rattle.llrp_endpoints.specs.RunInventory.{RunsInventoryWithin}

-- ---- the steps that are left

-- the ROSpec of an ADD_ROSPEC that is sent is a ROSpec
abbrev pub StepAddsRoSpec : Step → Type 0
StepAddsRoSpec (Send k) = AddsRoSpec k
StepAddsRoSpec AwaitTags = Unit {0}

-- the first of these steps was taken, or there is none
abbrev pub TakesFirst : List Step → List Step → Option Step → Type 0
TakesFirst old new None = (old ≡ []) × (new ≡ [])
TakesFirst old new (Some step) = (old ≡ step ∷ new) × StepAddsRoSpec step

-- the first of these steps, and those after it
abbrev pub Splits : List Step → Option (Step × RemainingCommands) → Type 0
Splits list None = list ≡ []
Splits list (Some p) = (list ≡ p.0 ∷ steps_left p.1) × StepAddsRoSpec p.0

-- what is awaited after a step
abbrev pub awaited_after : Step → Awaits
awaited_after (Send k) = awaited_for k
awaited_after AwaitTags = TaggedReport

-- ---- the state that it is in

-- nothing changed but how far it is
pub record KeepsOthers (old new : Gathering) : Type 0 where
  pub decoder : new.decoder ≡ old.decoder
  pub phase : new.phase ≡ old.phase
  pub hearing : new.hearing ≡ old.hearing

-- ---- one step

-- a report of these tags is one that is awaited
abbrev pub leads_on : Awaits → List Tree → Bool
leads_on Report tags = true
leads_on TaggedReport [] = false
leads_on TaggedReport (tag ∷ tags) = true
leads_on Answer tags = false
leads_on End tags = false

-- It went on from the one to the other: it is still open, the connection was closed, or it stopped.
abbrev pub Does : Course → Course → Gathering → List ℕ → List ℕ → List ℕ → List ℕ → Result Bool ToolErr → Type 0
Does old new g o0 o1 r0 r1 (Ok false) = (new.phase ≡ Open) × Holds new g × Moves old new o0 o1 r0 r1
Does old new g o0 o1 r0 r1 (Ok true) = (new.phase ≡ Closed) × Counts new.reports g × Moves old new o0 o1 r0 r1
Does old new g o0 o1 r0 r1 (Err error) = Stops old new o0 o1 r0 r1 error

-- wherever it is open, it went on to this course from there
abbrev pub GoesTo : (Course → Course) → Gathering → Gathering → List ℕ → List ℕ → List ℕ → List ℕ → Result Bool ToolErr → Type 0
GoesTo next old new o0 o1 r0 r1 answer = (c : Course) → Holds c old → c.phase ≡ Open → Does c (next c) new o0 o1 r0 r1 answer

-- the same of what it takes of an item
abbrev pub TakesItem : Item → Gathering → Gathering → List ℕ → List ℕ → List ℕ → List ℕ → Result Bool ToolErr → Type 0
TakesItem item old new o0 o1 r0 r1 answer = GoesTo (λ c. follow (taken old.hearing (item ∷ []) c) c) old new o0 o1 r0 r1 answer

-- the same at a frame with a fault for this reason, where nothing changes and nothing is appended
abbrev pub TakesBad : Reason → Gathering → Result Bool ToolErr → Type 0
TakesBad reason g answer =
    (c : Course) (o r : List ℕ) (id : ℕ) (fault : Fault) → fault.reason ≡ reason → Holds c g → c.phase ≡ Open
    → Does c (follow (heard g.hearing (Bad id fault ∷ [])) c) g o o r r answer

-- ---- a feed

-- whatever it was handed before, it took the items of this piece so
abbrev pub TakesPiece : List ℕ → Gathering → Gathering → List ℕ → List ℕ → List ℕ → List ℕ → Result Bool ToolErr → Type 0
TakesPiece piece old new o0 o1 r0 r1 answer =
    (b : Beginning) (bytes rest : List ℕ) (c : Course) → StandsFrom b bytes rest c old → FeedsFrom b (bytes ++ piece) c new o0 o1 r0 r1 answer

-- the errors of a client that refuses
abbrev pub error_by_command : CmdFault → ToolErr
error_by_command command.Memory = Memory
error_by_command _ = Strange

abbrev pub error_by_message : TakeFault → ToolErr
error_by_message message.Memory = Memory
error_by_message _ = Strange

-- ---- a run

-- at the beginning of whatever plan it was, the run did so
abbrev pub GathersFromStart : (most : ℕ) → Gathering → SourceLog → SourceLog → SinkLog → SinkLog → SinkLog → SinkLog → Result Summary ToolErr → Type 0
GathersFromStart most g r0 r1 w0 w1 t0 t1 answer =
    (limit : ℕ) (plan : Plan) → IsOpen limit plan [] [] (new_course limit plan) g → (bytes : List ℕ) × RunsInventoryWithin most limit plan r0 r1 w0 w1 t0 t1 bytes answer
