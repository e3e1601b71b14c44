-- What the calls for the first frame of a stream write.
use Rattle.std.specs.Prelude.{◌≡◌, ℕ, ◌<◌, ◌≤◌, ◌⊎◌, Bool, List, length, take}
use Rattle.tag_uri.specs.Room.{HasText}
use Rattle.llrp_schema.specs.declared.kinds.KindSet.{KindSet}
use Rattle.llrp_tree.specs.declared.TheConstants.{MAX_LIMIT}
use Rattle.llrp_stream.specs.declared.item.Item.{Item}
use Rattle.llrp_stream.specs.declared.item.End.{End}
use Rattle.llrp_stream.specs.declared.item.End.TheVariants as at_end
use Rattle.llrp_stream.specs.Cuts.{Breaks, IsFrame, IsPartial}
use Rattle.llrp_stream.specs.Items.{ItemsIn}
use Rattle.llrp_listing.specs.StreamListing.{IsStreamText, is_lawful}
use Rattle.llrp_c.specs.declared.status.Status.{Status}
use Rattle.llrp_c.specs.declared.status.Status.TheVariants.{Broken, Room, Memory, More}
use Rattle.llrp_c.specs.Status.{code_of}
use Rattle.llrp_c.specs.Listings.{ItemTextIn, end_text_in, lawful_status}

-- what is listed is one frame, at this status; of a stream that breaks where a frame should begin it is all
abbrev pub IsOnePart : (stream : List ℕ) (used : ℕ) (items : List Item) → End → Status → Type 0
IsOnePart stream used items at_end.Clean status = IsFrame (take used stream) × (status ≡ lawful_status (is_lawful items at_end.Clean))
IsOnePart stream used items at_end.Broken status = Breaks stream × (used ≡ length stream) × (status ≡ Broken)
IsOnePart stream used items _ status = ⊥

-- The text is the listing, or the line of JSON, in a set of kinds, of a stream's first frame, or of its break.
pub record IsNext (json : Bool) (p : KindSet) (stream : List ℕ) (used : ℕ) (text : List ℕ) (status : Status) : Type 0 where
  pub within : used ≤ length stream
  pub items : List Item
  pub end : End
  pub are : ItemsIn p MAX_LIMIT (take used stream) items end
  pub one : IsOnePart stream used items end status
  pub is : IsStreamText (ItemTextIn json) (end_text_in json) items end text

-- nothing was written, and nothing is used
abbrev pub IsUnused : (old new : List ℕ) (used count : ℕ) → Type 0
IsUnused old new used count = (new ≡ old) × (used ≡ 0) × (count ≡ 0)

-- The listing, or the line of JSON, was written; or it has more octets than the room, and their number is returned; or less than a frame is
-- there; or memory ran out.
abbrev pub NextIn : Bool → KindSet → (stream old new : List ℕ) (used count code : ℕ) → Type 0
NextIn json p stream old new used count code =
    ((text : List ℕ) × (status : Status) × IsNext json p stream used text status × HasText old new 0 count text × (code ≡ code_of status))
    ⊎ ((text : List ℕ) × (all : ℕ) × (status : Status) × IsNext json p stream all text status × (length old < length text) × (count ≡ length text)
    × (new ≡ old) × (used ≡ 0) × (code ≡ code_of Room))
    ⊎ (IsPartial stream × IsUnused old new used count × (code ≡ code_of More))
    ⊎ (IsUnused old new used count × (code ≡ code_of Memory))
