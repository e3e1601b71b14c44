-- How far a stream is listed by a printer: this says what the text of an item is, and what the printer received after some text of earlier items.
use Rattle.std.specs.Prelude.{◌≡◌, ℕ, ◌≤◌, ◌⊎◌, List, [], ◌++◌, length, Bool, true, false, ◌&&◌, Result, Ok, Err}
use Rattle.llrp_schema.specs.declared.kinds.KindSet.{KindSet}
use Rattle.std.specs.List.{list_all}
use Rattle.llrp_tree.specs.declared.TheConstants.{MAX_LIMIT}
use Rattle.llrp_tree.specs.OpenTree.{Begun}
use Rattle.llrp_tree.specs.Tree.{MessageTree}
use Rattle.llrp_stream.specs.declared.item.Item.{Item}
use Rattle.llrp_stream.specs.declared.item.End.{End}
use Rattle.llrp_stream.specs.declared.engine.frames.Frames.{Frames}
use Rattle.llrp_stream.specs.declared.engine.frames.Outcome.{Outcome}
use Rattle.llrp_stream.specs.Cuts.{Breaks}
use Rattle.llrp_stream.specs.Device.{SinkLog, Wrote}
use Rattle.llrp_stream.specs.Calls.Frames.{ComesTo, GivesIn, IsBroken, held_of, limit_of, raw_of, set_of}
use Rattle.llrp_stream.specs.Items.{IsItemIn, ItemsSoFarIn}
use Rattle.llrp_listing.specs.declared.outcome.ToolErr.{ToolErr}
use Rattle.llrp_listing.specs.declared.outcome.ToolErr.TheVariants.{Memory}
use Rattle.llrp_listing.specs.Private.Copying.{HandsOn}
use Rattle.llrp_listing.specs.Calls.Copying.{Writes}
use Rattle.llrp_listing.specs.Show.{StoppedAs}
use Rattle.llrp_listing.specs.StreamListing.{AreTexts, is_message}

-- ---- a printer

-- what became of a frame: the printer received its message after this text of earlier items, or it has a fault
abbrev pub Tells : (stands : List ℕ → List Begun → Type 0) (ends : List ℕ → MessageTree → List ℕ → Type 0) → KindSet → ℕ → List ℕ → List ℕ → Outcome → Type 0
Tells stands ends p limit frame was outcome = GivesIn p (stands was) (ends was) (λ now. stands now []) limit frame outcome

-- a front of this text of items was handed on, and the printer has the others, or a write failed
abbrev pub HandsOnOrFails : (stands : List ℕ → List Begun → Type 0) → List ℕ → SinkLog → SinkLog → Result (Unit {0}) ToolErr → Type 0
HandsOnOrFails stands was w0 w1 (Ok u) = (left : List ℕ) × HandsOn was left w0 w1 × stands left []
HandsOnOrFails stands was w0 w1 (Err error) = Writes was w0 w1 (Err error)

-- the text of an item is appended
abbrev pub AppendsText : (IsText : Item → List ℕ → Type 0) → Item → List ℕ → List ℕ → Type 0
AppendsText IsText item old new = (text : List ℕ) × (new ≡ old ++ text) × IsText item text

-- ---- a lister

-- The items of the bytes so far: their text was written but for what is gathered.
pub record ListedSoFar (IsText : Item → List ℕ → Type 0) (p : KindSet) (limit : ℕ) (bytes front gathered : List ℕ) (old now : SinkLog) (frames : Frames) (lawful : Bool) : Type 0 where
  pub items : List Item
  pub sent : List ℕ
  pub so_far : ItemsSoFarIn p limit bytes items front
  pub texts : AreTexts IsText items (sent ++ gathered)
  pub log : Wrote old now sent
  pub set_is : set_of frames ≡ p
  pub limit_is : limit_of frames ≡ limit
  pub lawful_is : lawful ≡ list_all is_message items

-- The lister takes more of the stream.
pub record GoesOn (IsText : Item → List ℕ → Type 0) (begins stands : List ℕ → List Begun → Type 0) (p : KindSet) (limit : ℕ) (bytes gathered : List ℕ) (old now : SinkLog) (frames : Frames) (lawful : Bool) : Type 0 where
  pub front : List ℕ
  pub listed : ListedSoFar IsText p limit bytes front gathered old now frames lawful
  pub comes : ComesTo (begins gathered) (stands gathered) frames front

-- The stream is broken.
pub record IsBrokenOff (IsText : Item → List ℕ → Type 0) (stands : List ℕ → List Begun → Type 0) (p : KindSet) (limit : ℕ) (bytes : List ℕ) (old now : SinkLog) (frames : Frames) (lawful : Bool) : Type 0 where
  pub front : List ℕ
  pub gathered : List ℕ
  pub listed : ListedSoFar IsText p limit bytes front gathered old now frames lawful
  pub breaks : Breaks front
  pub broken : IsBroken frames
  pub holds : stands gathered []

-- Of a frame that is not whole the engine keeps at most 16 octets as they are; with two for each open node, that is no more than the limit.
pub record KeepsFew (limit : ℕ) (frames : Frames) : Type 0 where
  pub few : length (raw_of frames) ≤ 16
  pub within : held_of frames ≤ limit

-- it takes more of some stream
abbrev pub CanGoOn : (IsText : Item → List ℕ → Type 0) (begins stands : List ℕ → List Begun → Type 0) → SinkLog → Frames → Bool → Type 0
CanGoOn IsText begins stands now frames lawful =
    (p : KindSet) × (limit : ℕ) × (10 ≤ limit) × (limit ≤ MAX_LIMIT) × (bytes gathered : List ℕ) × (log : SinkLog) × GoesOn IsText begins stands p limit bytes gathered log now frames lawful

-- a lister took the last of these bytes, and the text of each frame that is whole in them was written
abbrev pub Feeds : (IsText : Item → List ℕ → Type 0) (text_of_end : End → List ℕ) (begins stands : List ℕ → List Begun → Type 0) → KindSet → ℕ → List ℕ → SinkLog → SinkLog → Frames → Bool → Result Bool ToolErr → Type 0
Feeds IsText text_of_end begins stands p limit bytes old new frames lawful (Ok true) = GoesOn IsText begins stands p limit bytes [] old new frames lawful
Feeds IsText text_of_end begins stands p limit bytes old new frames lawful (Ok false) = IsBrokenOff IsText stands p limit bytes old new frames lawful
Feeds IsText text_of_end begins stands p limit bytes old new frames lawful (Err error) = StoppedAs IsText text_of_end p limit bytes old new error

-- the bytes are all of the stream, or it is broken
abbrev pub Finishes : (IsText : Item → List ℕ → Type 0) (begins stands : List ℕ → List Begun → Type 0) → KindSet → ℕ → List ℕ → SinkLog → SinkLog → Frames → Bool → Type 0
Finishes IsText begins stands p limit bytes old now frames lawful =
    ((gathered : List ℕ) × GoesOn IsText begins stands p limit bytes gathered old now frames lawful) ⊎ IsBrokenOff IsText stands p limit bytes old now frames lawful

-- A frame's text was gathered after what was, and a front of all that was handed on.
pub record Lists (IsText : Item → List ℕ → Type 0) (stands : List ℕ → List Begun → Type 0) (p : KindSet) (limit : ℕ) (frame was : List ℕ) (old_lawful new_lawful : Bool) (w0 w1 : SinkLog) : Type 0 where
  pub item : Item
  pub all : List ℕ
  pub left : List ℕ
  pub is_item : IsItemIn p limit frame item
  pub appended : AppendsText IsText item was all
  pub handed : HandsOn all left w0 w1
  pub holds : stands left []
  pub lawful : new_lawful ≡ (old_lawful && is_message item)

-- a frame's text was gathered so, or memory ran out, or a write failed
abbrev pub ListsOrFails : (IsText : Item → List ℕ → Type 0) (stands : List ℕ → List Begun → Type 0) → (p : KindSet) → (limit : ℕ) (frame was : List ℕ) → (old_lawful new_lawful : Bool) → (w0 w1 : SinkLog) → Result (Unit {0}) ToolErr → Type 0
ListsOrFails IsText stands p limit frame was old_lawful new_lawful w0 w1 (Ok u) = Lists IsText stands p limit frame was old_lawful new_lawful w0 w1
ListsOrFails IsText stands p limit frame was old_lawful new_lawful w0 w1 (Err error) =
    ((error ≡ Memory) × (w1 ≡ w0)) ⊎ ((item : Item) × IsItemIn p limit frame item × ((all : List ℕ) × AppendsText IsText item was all × Writes all w0 w1 (Err error)))
