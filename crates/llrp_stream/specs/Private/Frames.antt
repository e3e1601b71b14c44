-- Beside Calls/Frames: words of private functions.
use Rattle.std.specs.Prelude.{◌≡◌, ℕ, ◌<◌, ◌≤◌, List, [], ◌++◌, length, take, Option, Some, None, Result, Ok, Err}
use Rattle.llrp_schema.specs.declared.kinds.KindSet.{KindSet}
use Rattle.llrp_tree.specs.declared.TheConstants.{MAX_LIMIT}
use Rattle.llrp_tree.specs.declared.header.Header.{Header}
use Rattle.llrp_tree.specs.Tree.{MessageTree}
use Rattle.llrp_tree.specs.Lawful.{AreOctets}
use Rattle.llrp_tree.specs.Calls.Header.{HasHeaderIn}
use Rattle.llrp_tree.specs.declared.fault.Fault.{Fault}
use Rattle.llrp_tree.specs.FirstFault.{FirstFaultIn}
use Rattle.llrp_tree.specs.OpenTree.{Begun}
use Rattle.llrp_stream.specs.declared.header.FaultyHeader.{FaultyHeader}
use Rattle.llrp_stream.specs.declared.item.FeedErr.{FeedErr}
use Rattle.llrp_stream.specs.declared.item.FeedErr.TheVariants as failure
use Rattle.llrp_stream.specs.declared.engine.body.Body.{Body}
use Rattle.llrp_stream.specs.declared.engine.frames.Came.{Came}
use Rattle.llrp_stream.specs.declared.engine.frames.Frames.{Frames}
use Rattle.llrp_stream.specs.declared.engine.frames.Outcome.{Outcome}
use Rattle.llrp_stream.specs.declared.engine.frames.Outcome.TheVariants.{Whole, Bad}
use Rattle.llrp_stream.specs.declared.engine.body_reader.BodyReader.{BodyReader}
use Rattle.llrp_stream.specs.declared.state.State.{State}
use Rattle.llrp_stream.specs.declared.state.State.TheVariants.{Between, Skipping}
use Rattle.llrp_stream.specs.Cuts.{IsFrame, Breaks}
use Rattle.llrp_stream.specs.Items.{id_field}
use Rattle.llrp_stream.specs.Calls.Items.{IsSkipped}
use Rattle.llrp_stream.specs.Calls.Pieces.{BodyStands}
use Rattle.llrp_stream.specs.Calls.Frames.{GivesIn, IsPassed, Refuses, TakesOn}
use Rattle.llrp_stream.specs.Private.Reading.{IsComplete}

-- The listener received an open tree, which with the raw octets covers a front of such a frame.
pub record IsBegun (begins stands : List Begun → Type 0) (limit id : ℕ) (body : Body) (front : List ℕ) : Type 0 where
  pub passed : IsPassed limit id body front
  pub stands_for : BodyStands begins stands body front

-- what a feed does within a frame whose header passes
abbrev pub GoesOn : (begins stands : List Begun → Type 0) (ends : MessageTree → List ℕ → Type 0) (rests : List ℕ → Type 0) → ℕ → (front piece : List ℕ) → (new : Frames) → Result Came FeedErr → Type 0
GoesOn begins stands ends rests limit front piece new (Ok came) = TakesOn begins stands ends rests limit front piece new came.used came.outcome
GoesOn begins stands ends rests limit front piece new (Err failure.Memory) = Unit {0}
GoesOn begins stands ends rests limit front piece new (Err _) = ⊥

-- what a feed does at a header
abbrev pub Begins : (begins stands : List Begun → Type 0) (ends : MessageTree → List ℕ → Type 0) (rests : List ℕ → Type 0) → ℕ → (front piece : List ℕ) → (new : Frames) → Result Came FeedErr → Type 0
Begins begins stands ends rests limit front piece new (Ok came) = TakesOn begins stands ends rests limit front piece new came.used came.outcome
Begins begins stands ends rests limit front piece new (Err failure.Broken) = Breaks (front ++ piece) × stands []
Begins begins stands ends rests limit front piece new (Err failure.Memory) = Unit {0}
Begins begins stands ends rests limit front piece new (Err failure.Dead) = ⊥

-- it skips the rest of a frame that begins so
abbrev pub IsSkipping : KindSet → ℕ → State → List ℕ → Type 0
IsSkipping p limit (Skipping count header) front = IsSkipped p limit count header.octets header.id header.fault front × (10 ≤ count) × (count < header.octets)
IsSkipping p limit _ front = ⊥

-- the frame has the fault
abbrev pub IsBad : KindSet → ℕ → List ℕ → Outcome → Type 0
IsBad p limit frame Whole = ⊥
IsBad p limit frame (Bad id fault) = (id ≡ id_field frame) × FirstFaultIn p frame limit fault.bit fault.reason

-- what is skipped of a frame that has a fault
abbrev pub SkipsTo : KindSet → ℕ → (front piece : List ℕ) → Frames → (used : ℕ) → Option Outcome → Type 0
SkipsTo p limit front piece new used None = (used ≡ length piece) × IsSkipping p limit new.state (front ++ piece)
SkipsTo p limit front piece new used (Some outcome) = (used ≤ length piece) × IsFrame (front ++ take used piece) × IsBad p limit (front ++ take used piece) outcome × (new.state ≡ Between)

-- of every front that is skipped for the fault of this header, this is what is skipped
abbrev pub Skips : KindSet → ℕ → (count : ℕ) → FaultyHeader → List ℕ → Frames → Came → Type 0
Skips p limit count header piece new came = (front : List ℕ) → IsSkipped p limit count header.octets header.id header.fault front → SkipsTo p limit front piece new came.used came.outcome

-- the fault of this header is that which is kept, or that of the frame that ended
abbrev pub KeepsFault : FaultyHeader → State → Option Outcome → Type 0
KeepsFault header new None = (count : ℕ) × (new ≡ Skipping count header)
KeepsFault header new (Some Whole) = ⊥
KeepsFault header new (Some (Bad id fault)) = fault ≡ header.fault

-- ---- the same whatever a listener holds of earlier messages

-- where its header passes its checks, this is what a feed within a frame does
abbrev pub OpensFrom : (heard begins stands : List ℕ → List Begun → Type 0) (ends : List ℕ → MessageTree → List ℕ → Type 0) → ℕ → (front piece : List ℕ) → Frames → Result Came FeedErr → Type 0
OpensFrom heard begins stands ends limit front piece new result = (was : List ℕ) → heard was [] → GoesOn (begins was) (stands was) (ends was) (λ now. stands now []) limit front piece new result

-- this is what a feed at a header does
abbrev pub BeginsFrom : (heard begins stands : List ℕ → List Begun → Type 0) (ends : List ℕ → MessageTree → List ℕ → Type 0) → ℕ → (front piece : List ℕ) → Frames → Result Came FeedErr → Type 0
BeginsFrom heard begins stands ends limit front piece new result = (was : List ℕ) → heard was [] → Begins (begins was) (stands was) (ends was) (λ now. stands now []) limit front piece new result

-- this is what a feed within a frame does; the first two relations are of what was received before it
abbrev pub GoesOnFrom : (begins0 stands0 begins stands : List ℕ → List Begun → Type 0) (ends : List ℕ → MessageTree → List ℕ → Type 0) → (id : ℕ) → (old new : Frames) → List ℕ → Result Came FeedErr → Type 0
GoesOnFrom begins0 stands0 begins stands ends id old new piece result = (was front : List ℕ) → IsBegun (begins0 was) (stands0 was) old.limit id old.body front → GoesOn (begins was) (stands was) (ends was) (λ now. stands now []) old.limit front piece new result

-- a body begins with the ten octets of its header
abbrev pub StartsFrom : (heard begins stands : List ℕ → List Begun → Type 0) → (old new : Body) → Header → Type 0
StartsFrom heard begins stands old new header = (was bytes : List ℕ) (limit : ℕ) → heard was [] → length bytes ≡ 10 → HasHeaderIn old.reader.set limit bytes header → limit ≤ MAX_LIMIT
    → BodyStands (begins was) (stands was) new bytes × (new.reader.octets ≡ header.octets) × (new.reader.set ≡ old.reader.set)

-- the listener receives the message of a frame that is its header
abbrev pub ReceivesFrom : KindSet → (heard stands : List ℕ → List Begun → Type 0) (ends : List ℕ → MessageTree → List ℕ → Type 0) → Header → Type 0
ReceivesFrom p heard stands ends header = (was bytes : List ℕ) (limit : ℕ) → heard was [] → length bytes ≡ 10 → HasHeaderIn p limit bytes header → AreOctets bytes → limit ≤ MAX_LIMIT
    → GivesIn p (stands was) (ends was) (λ now. stands now []) limit bytes Whole

-- a message is complete, and its frame is within a limit
abbrev pub IsWithin : (heard : List ℕ → List Begun → Type 0) → BodyReader → Type 0
IsWithin heard r = (was front : List ℕ) × (limit : ℕ) × IsComplete (heard was) r front × AreOctets front × (r.octets ≤ limit) × (limit ≤ MAX_LIMIT)

-- the listener receives every such message
abbrev pub FinishesFrom : (heard stands : List ℕ → List Begun → Type 0) (ends : List ℕ → MessageTree → List ℕ → Type 0) → BodyReader → Type 0
FinishesFrom heard stands ends r = (was front : List ℕ) (limit : ℕ) → IsComplete (heard was) r front → AreOctets front → r.octets ≤ limit → limit ≤ MAX_LIMIT
    → GivesIn r.set (stands was) (ends was) (λ now. stands now []) limit front Whole

-- the listener receives every message that is complete, and whose frame is within the limit of these frames
abbrev pub EndsFrom : (heard stands : List ℕ → List Begun → Type 0) (ends : List ℕ → MessageTree → List ℕ → Type 0) → (old new : Frames) → Type 0
EndsFrom heard stands ends old new = (was front : List ℕ) → IsComplete (heard was) old.body.reader front → AreOctets front → old.body.reader.octets ≤ old.limit
    → GivesIn new.body.reader.set (stands was) (ends was) (λ now. stands now []) old.limit front Whole

-- ---- a fault that was handed on, whatever a listener holds of earlier messages

-- so it is after a feed where a frame begins; the first relation is of what was received before it
abbrev pub BeginsRefused : (heard : List ℕ → List Begun → Type 0) (faulty : List ℕ → List Begun → List ℕ → Fault → Type 0) → KindSet → ℕ → (front piece : List ℕ) → Frames → Result Came FeedErr → Type 0
BeginsRefused heard faulty p limit front piece new result = (was : List ℕ) → heard was [] → Refuses (faulty was) p limit front piece new result

-- the same after one within a frame
abbrev pub GoesOnRefused : (begins0 stands0 : List ℕ → List Begun → Type 0) (faulty : List ℕ → List Begun → List ℕ → Fault → Type 0) → (id : ℕ) → (old new : Frames) → List ℕ → Result Came FeedErr → Type 0
GoesOnRefused begins0 stands0 faulty id old new piece result = (was front : List ℕ) → IsBegun (begins0 was) (stands0 was) old.limit id old.body front → Refuses (faulty was) old.body.reader.set old.limit front piece new result
