-- What the calls for lines of JSON write.
use Rattle.std.specs.Prelude.{◌≡◌, ℕ, ◌<◌, ◌≤◌, ◌⊎◌, List, [], length}
use Rattle.tag_uri.specs.Room.{HasText}
use Rattle.llrp_schema.specs.declared.kinds.KindSet.{KindSet}
use Rattle.llrp_tree.specs.declared.TheConstants.{MAX_LIMIT}
use Rattle.llrp_listing.specs.Lines.{lines_of}
use Rattle.llrp_json_read.specs.LinesRead.{AreLineFrames, RefusesText}
use Rattle.llrp_json_read.specs.ObjectRefused.{Refused}
use Rattle.llrp_json_read.specs.Path.{path_text}
use Rattle.llrp_c.specs.Listings.{IsUnwritten}
use Rattle.llrp_c.specs.Status.{code_of, status_of_member}
use Rattle.llrp_c.specs.declared.status.Status.TheVariants.{Done, Room, Memory}

-- the path was written, if the room has as many octets, and its length
abbrev pub WritesPath : (path old new : List ℕ) (count : ℕ) → Type 0
WritesPath path old new count = (count ≡ length path) × (HasText old new 0 count path ⊎ ((length old < length path) × (new ≡ old)))

-- no path was written
abbrev pub HasNoPath : (old new : List ℕ) (count : ℕ) → Type 0
HasNoPath old new count = (new ≡ old) × (count ≡ 0)

-- The octets of the messages that the lines say were written; or there are more than the room has, and their number is returned; or this
-- line is refused, for this reason, at the member with this path; or memory ran out.
abbrev pub WritesLinesIn : KindSet → (lines old new : List ℕ) (count line : ℕ) (path0 path1 : List ℕ) (path_count code : ℕ) → Type 0
WritesLinesIn p lines old new count line path0 path1 path_count code =
    ((octets : List ℕ) × AreLineFrames p MAX_LIMIT (lines_of lines) octets × HasText old new 0 count octets × (line ≡ 0) × HasNoPath path0 path1 path_count × (code ≡ code_of Done))
    ⊎ ((octets : List ℕ) × AreLineFrames p MAX_LIMIT (lines_of lines) octets × (length old < length octets) × (count ≡ length octets)
    × (new ≡ old) × (line ≡ 0) × HasNoPath path0 path1 path_count × (code ≡ code_of Room))
    ⊎ ((r : Refused) × (octets : List ℕ) × RefusesText p MAX_LIMIT lines line r octets × (new ≡ old) × (count ≡ 0) × WritesPath (path_text r) path0 path1 path_count × (code ≡ code_of (status_of_member r.reason)))
    ⊎ (IsUnwritten old new count line × HasNoPath path0 path1 path_count × (code ≡ code_of Memory))
