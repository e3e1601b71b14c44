-- Beside StreamLaws: what contracts say that no promise rests on.
use Rattle.std.specs.Prelude.{◌≡◌, ℕ, ◌<◌, List, [], ◌∷◌, ◌++◌, length}
use Rattle.llrp_schema.specs.declared.kinds.KindSet.{KindSet}
use Rattle.llrp_stream.specs.declared.item.Item.{Item}
use Rattle.llrp_stream.specs.declared.item.End.{End}
use Rattle.llrp_stream.specs.declared.item.End.TheVariants.{Clean, Rest}
use Rattle.llrp_stream.specs.Cuts.{IsFrame, EndsStream, Cuts}
use Rattle.llrp_stream.specs.Items.{IsItemIn, ItemsIn, ItemsSoFarIn}

-- The frame has one message or one first fault, and never both.
pub record HasOneItemIn (p : KindSet) (limit : ℕ) (frame : List ℕ) : Type 0 where
  pub item : Item
  pub is : IsItemIn p limit frame item
  pub only : (other : Item) → IsItemIn p limit frame other → other ≡ item

-- a stream is cut in one way
abbrev pub IsCutInOneWay : List ℕ → Type 0
IsCutInOneWay stream = (frames others : List (List ℕ)) (end last : End) → Cuts stream frames end → Cuts stream others last → (frames ≡ others) × (end ≡ last)

-- where a front of frames ends after its last whole one: there, or within the frame of the next item
abbrev pub EndsWithin : KindSet → ℕ → List Item → List ℕ → End → Type 0
EndsWithin p limit next tail Clean = tail ≡ []
EndsWithin p limit (item ∷ next) tail (Rest n) = (more : List ℕ) × (0 < length more) × IsFrame (tail ++ more) × IsItemIn p limit (tail ++ more) item
EndsWithin p limit next tail _ = ⊥

-- The first of these items are those of a front of their frames, which ends between two frames or within one.
pub record IsFront (p : KindSet) (limit : ℕ) (items : List Item) (front : List ℕ) : Type 0 where
  pub first : List Item
  pub next : List Item
  pub parts : items ≡ first ++ next
  pub end : End
  pub are : ItemsIn p limit front first end
  pub within : EndsWithin p limit next are.cut.tail end

-- a front of the frames of items has those items that are whole in it
abbrev pub PrefixOfFrames : Type 0
PrefixOfFrames = (p : KindSet) (limit : ℕ) (items : List Item) (front back : List ℕ) → ItemsIn p limit (front ++ back) items Clean → IsFront p limit items front

-- How the items of bytes so far grow, what becomes of them at the end, and that whatever follows they come first.
pub record ItemsGrowIn (p : KindSet) (limit : ℕ) : Type 0 where
  pub none : ItemsSoFarIn p limit [] [] []
  pub by_bytes : (bytes : List ℕ) (items : List Item) (front more : List ℕ) → ItemsSoFarIn p limit bytes items front → ItemsSoFarIn p limit (bytes ++ more) items (front ++ more)
  pub by_a_frame : (bytes : List ℕ) (items : List Item) (front : List ℕ) (item : Item) → ItemsSoFarIn p limit bytes items front → IsFrame front → IsItemIn p limit front item → ItemsSoFarIn p limit bytes (items ++ item ∷ []) []
  pub at_the_end : (bytes : List ℕ) (items : List Item) (front : List ℕ) (end : End) → ItemsSoFarIn p limit bytes items front → EndsStream front end → ItemsIn p limit bytes items end
  pub come_first : (bytes more : List ℕ) (items others : List Item) (front : List ℕ) (end : End) → ItemsSoFarIn p limit bytes items front → ItemsIn p limit (bytes ++ more) others end → (later : List Item) × (others ≡ items ++ later)
