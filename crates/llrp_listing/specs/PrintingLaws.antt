-- What holds of every listing.
use Rattle.std.specs.Prelude.{◌≡◌, ℕ, List}
use Rattle.std.specs.List.{AllZip}
use Rattle.llrp_schema.specs.declared.kinds.KindSet.{KindSet}
use Rattle.llrp_tree.specs.Tree.{MessageTree}
use Rattle.llrp_stream.specs.declared.item.Item.{Item}
use Rattle.llrp_stream.specs.declared.item.End.{End}
use Rattle.llrp_stream.specs.Cuts.{joined}
use Rattle.llrp_stream.specs.Items.{FrameIn, ItemsIn}
use Rattle.llrp_listing.specs.MessageListing.{IsListingOf}
use Rattle.llrp_listing.specs.StreamListing.{IsStreamListing}

-- each of the frames is the spelling of a message of the set of kinds, in order, and within the limit
abbrev pub AreSpellingsIn : KindSet → ℕ → List MessageTree → List (List ℕ) → Type 0
AreSpellingsIn p limit messages frames = AllZip (λ message frame. FrameIn p message frame limit) messages frames

-- The text is a listing of the stream, and the only one.
pub record IsOnlyListing (p : KindSet) (limit : ℕ) (stream text : List ℕ) : Type 0 where
  pub items : List Item
  pub end : End
  pub are : ItemsIn p limit stream items end
  pub is : IsStreamListing items end text
  pub only : (others : List Item) (last : End) (other : List ℕ) → ItemsIn p limit stream others last → IsStreamListing others last other → other ≡ text

-- the listing of messages is that of the stream of their spellings
abbrev pub PrintsBack : Type 0
PrintsBack = (p : KindSet) (limit : ℕ) (messages : List MessageTree) (text : List ℕ) (frames : List (List ℕ)) → IsListingOf messages text → AreSpellingsIn p limit messages frames → IsOnlyListing p limit (joined frames) text
