-- Beside PrintingLaws: what contracts say that no promise rests on.
use Rattle.std.specs.Prelude.{◌≡◌, ℕ, List}
use Rattle.llrp_tree.specs.Tree.{MessageTree}
use Rattle.llrp_stream.specs.declared.item.Item.{Item}
use Rattle.llrp_stream.specs.declared.item.End.{End}
use Rattle.llrp_listing.specs.MessageListing.{IsListingOf}
use Rattle.llrp_listing.specs.StreamListing.{IsStreamListing}

-- messages have one listing
abbrev pub OneTextOfMessages : Type 0
OneTextOfMessages = (messages : List MessageTree) (s t : List ℕ) → IsListingOf messages s → IsListingOf messages t → s ≡ t

-- items and an end have one listing
abbrev pub OneTextOfItems : Type 0
OneTextOfItems = (items : List Item) (end : End) (s t : List ℕ) → IsStreamListing items end s → IsStreamListing items end t → s ≡ t
