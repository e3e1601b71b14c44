-- What the calls for listings write.
use Rattle.std.specs.Prelude.{◌≡◌, ℕ, ◌<◌, ◌≤◌, ◌⊎◌, Bool, true, false, List, length, take, drop}
use Rattle.tag_uri.specs.Room.{HasText}
use Rattle.llrp_schema.specs.declared.kinds.KindSet.{KindSet}
use Rattle.llrp_schema.specs.declared.kinds.KindSet.TheVariants.{Profile}
use Rattle.llrp_tree.specs.declared.TheConstants.{MAX_LIMIT}
use Rattle.llrp_stream.specs.declared.item.Item.{Item}
use Rattle.llrp_stream.specs.declared.item.End.{End}
use Rattle.llrp_stream.specs.declared.item.End.TheVariants as at_end
use Rattle.llrp_stream.specs.Cuts.{IsPartial}
use Rattle.llrp_stream.specs.Items.{ItemsIn}
use Rattle.llrp_listing.specs.declared.outcome.Refusal.{Refusal}
use Rattle.llrp_listing.specs.Encoding.{EncodesIn, RefusesIn}
use Rattle.llrp_listing.specs.StreamListing.{IsItemText, IsStreamText, end_text, is_lawful}
use Rattle.llrp_json.specs.JsonLines.{IsItemJson, end_json}
use Rattle.llrp_c.specs.declared.status.Status.{Status}
use Rattle.llrp_c.specs.declared.status.Status.TheVariants.{Done, Faulty, Broken, Room, Memory}
use Rattle.llrp_c.specs.Status.{code_of, status_of}

-- the status of whole frames that are lawful, or aren't
abbrev pub lawful_status : Bool → Status
lawful_status true = Done
lawful_status false = Faulty

-- what is listed ends so, at this status: after whole frames less than a frame is left; a stream that breaks is listed to its end
abbrev pub EndsAt : (stream : List ℕ) (used : ℕ) (items : List Item) → End → Status → Type 0
EndsAt stream used items at_end.Clean status = IsPartial (drop used stream) × (status ≡ lawful_status (is_lawful items at_end.Clean))
EndsAt stream used items at_end.Broken status = (used ≡ length stream) × (status ≡ Broken)
EndsAt stream used items _ status = ⊥

-- the text of an item: the lines of its listing, or its line of JSON
abbrev pub ItemTextIn : Bool → Item → List ℕ → Type 0
ItemTextIn false = IsItemText
ItemTextIn true = IsItemJson

-- the text of an end, likewise
abbrev pub end_text_in : Bool → End → List ℕ
end_text_in false = end_text
end_text_in true = end_json

-- The text is the listing, or the lines of JSON, in a set of kinds, of a stream's first octets: of its whole frames, or of all of it where it breaks after them.
pub record IsListing (json : Bool) (p : KindSet) (stream : List ℕ) (used : ℕ) (text : List ℕ) (status : Status) : Type 0 where
  pub within : used ≤ length stream
  pub items : List Item
  pub end : End
  pub are : ItemsIn p MAX_LIMIT (take used stream) items end
  pub ends : EndsAt stream used items end status
  pub is : IsStreamText (ItemTextIn json) (end_text_in json) items end text

-- The listing, or the lines of JSON, was written; or it has more octets than the room, and their number is returned; or memory ran out.
abbrev pub ListsIn : Bool → KindSet → (stream old new : List ℕ) (used count code : ℕ) → Type 0
ListsIn json p stream old new used count code =
    ((text : List ℕ) × (status : Status) × IsListing json p stream used text status × HasText old new 0 count text × (code ≡ code_of status))
    ⊎ ((text : List ℕ) × (all : ℕ) × (status : Status) × IsListing json p stream all text status × (length old < length text) × (count ≡ length text)
    × (new ≡ old) × (used ≡ 0) × (code ≡ code_of Room))
    ⊎ ((new ≡ old) × (used ≡ 0) × (count ≡ 0) × (code ≡ code_of Memory))

-- nothing was written
abbrev pub IsUnwritten : (old new : List ℕ) (count line : ℕ) → Type 0
IsUnwritten old new count line = (new ≡ old) × (count ≡ 0) × (line ≡ 0)

-- The octets of the listing were written; or there are more than the room has, and their number is returned; or the listing is refused at
-- this line, for this reason; or memory ran out.
abbrev pub WritesOctetsIn : KindSet → (listing old new : List ℕ) (count line code : ℕ) → Type 0
WritesOctetsIn p listing old new count line code =
    ((octets : List ℕ) × EncodesIn p MAX_LIMIT listing octets × HasText old new 0 count octets × (line ≡ 0) × (code ≡ code_of Done))
    ⊎ ((octets : List ℕ) × EncodesIn p MAX_LIMIT listing octets × (length old < length octets) × (count ≡ length octets)
    × (new ≡ old) × (line ≡ 0) × (code ≡ code_of Room))
    ⊎ ((reason : Refusal) × (octets : List ℕ) × RefusesIn p MAX_LIMIT listing line reason octets × (new ≡ old) × (count ≡ 0) × (code ≡ code_of (status_of reason)))
    ⊎ (IsUnwritten old new count line × (code ≡ code_of Memory))

-- ---- the same of the profile

abbrev pub WritesOctets : (listing old new : List ℕ) (count line code : ℕ) → Type 0
WritesOctets listing old new count line code = WritesOctetsIn Profile listing old new count line code
