-- What the calls of a lister make of it, whatever was listed before.
use Rattle.std.specs.Prelude.{ℕ, ◌≤◌, List, ◌++◌, MatchResult, OnOk, Bool, Result}
use Rattle.llrp_schema.specs.declared.kinds.KindSet.{KindSet}
use Rattle.llrp_tree.specs.OpenTree.{Begun}
use Rattle.llrp_tree.specs.Tree.{MessageTree}
use Rattle.llrp_stream.specs.declared.item.Item.{Item}
use Rattle.llrp_stream.specs.declared.item.End.{End}
use Rattle.llrp_stream.specs.declared.engine.frames.Outcome.{Outcome}
use Rattle.llrp_stream.specs.Device.{SinkLog}
use Rattle.llrp_listing.specs.declared.outcome.ToolErr.{ToolErr}
use Rattle.llrp_listing.specs.declared.outcome.Verdict.{Verdict}
use Rattle.llrp_listing.specs.declared.show.Lister.{Lister}
use Rattle.llrp_listing.specs.Private.Lister.{Feeds, Finishes, GoesOn, KeepsFew, ListsOrFails, Tells}
use Rattle.llrp_listing.specs.Show.{ListedAs, StoppedAs}

-- what became of a frame was listed, or that failed
abbrev pub ListsOutcome : {P : Type 0} → (IsText : Item → List ℕ → Type 0) → (stands : P → List ℕ → List Begun → Type 0) → (ends : P → List ℕ → MessageTree → List ℕ → Type 0) → Outcome → Lister P → Lister P → SinkLog → SinkLog → Result (Unit {0}) ToolErr → Type 0
ListsOutcome IsText stands ends outcome old new w0 w1 answer =
    (p : KindSet) (limit : ℕ) (frame was : List ℕ) → Tells (stands old.printer) (ends old.printer) p limit frame was outcome
    → ListsOrFails IsText (stands new.printer) p limit frame was old.lawful new.lawful w0 w1 answer

-- it took a piece of the stream after whatever it had listed
abbrev pub FeedsPiece : {P : Type 0} → (IsText : Item → List ℕ → Type 0) → (text_of_end : End → List ℕ) → (begins stands : P → List ℕ → List Begun → Type 0) → List ℕ → Lister P → Lister P → SinkLog → SinkLog → Result Bool ToolErr → Type 0
FeedsPiece IsText text_of_end begins stands piece old new w0 w1 answer =
    (p : KindSet) (limit : ℕ) (bytes gathered : List ℕ) (log : SinkLog)
    → GoesOn IsText (begins old.printer) (stands old.printer) p limit bytes gathered log w0 old.frames old.lawful
    → Feeds IsText text_of_end (begins new.printer) (stands new.printer) p limit (bytes ++ piece) log w1 new.frames new.lawful answer

-- and then the engine keeps few octets of a frame
abbrev pub HoldsFew : {P : Type 0} → (IsText : Item → List ℕ → Type 0) → (begins stands : P → List ℕ → List Begun → Type 0) → Lister P → Lister P → SinkLog → Result Bool ToolErr → Type 0
HoldsFew IsText begins stands old new w0 answer =
    (p : KindSet) (limit : ℕ) (bytes gathered : List ℕ) (log : SinkLog)
    → GoesOn IsText (begins old.printer) (stands old.printer) p limit bytes gathered log w0 old.frames old.lawful
    → 10 ≤ limit → OnOk answer (KeepsFew limit new.frames)

-- whatever it had listed, the listing was ended, or that stopped
abbrev pub EndsListing : {P : Type 0} → (IsText : Item → List ℕ → Type 0) → (text_of_end : End → List ℕ) → (begins stands : P → List ℕ → List Begun → Type 0) → Lister P → SinkLog → SinkLog → Result Verdict ToolErr → Type 0
EndsListing IsText text_of_end begins stands old w0 w1 answer =
    (p : KindSet) (limit : ℕ) (bytes : List ℕ) (log : SinkLog)
    → Finishes IsText (begins old.printer) (stands old.printer) p limit bytes log w0 old.frames old.lawful
    → MatchResult answer (λ verdict. ListedAs IsText text_of_end p limit bytes log w1 verdict) (λ e. StoppedAs IsText text_of_end p limit bytes log w1 e)
