-- What holds of the items of every frame and of every stream.
use Rattle.std.specs.Prelude.{◌≡◌, ℕ, List, []}
use Rattle.llrp_schema.specs.declared.kinds.KindSet.{KindSet}
use Rattle.llrp_stream.specs.declared.item.Item.{Item}
use Rattle.llrp_stream.specs.declared.item.End.{End}
use Rattle.llrp_stream.specs.Cuts.{joined}
use Rattle.llrp_stream.specs.Items.{ItemsIn}
use Rattle.llrp_stream.specs.Decoding.{DecoderState}
use Rattle.llrp_stream.specs.Calls.Decoding.{StandsIn}
use Rattle.llrp_stream.specs.Feeding.{TakesPieces, Finishes}

-- The stream has one list of items, and one end.
pub record HasOneListingIn (p : KindSet) (limit : ℕ) (stream : List ℕ) : Type 0 where
  pub items : List Item
  pub end : End
  pub are : ItemsIn p limit stream items end
  pub only_items : (others : List Item) (last : End) → ItemsIn p limit stream others last → others ≡ items
  pub only_end : (others : List Item) (last : End) → ItemsIn p limit stream others last → last ≡ end

-- the items of pieces, however they are cut, are those of the stream that the pieces are
abbrev pub PiecesAreTheStream : Type 0
PiecesAreTheStream = (p : KindSet) (old new : DecoderState) (pieces : List (List ℕ)) (items : List Item) (end : End) → StandsIn p old [] → TakesPieces old pieces items new → Finishes new end → ItemsIn p old.limit (joined pieces) items end
