-- What the calls that explain octets write.
use Rattle.std.specs.Prelude.{◌≡◌, ℕ, ◌<◌, ◌⊎◌, Bool, List, length}
use Rattle.tag_uri.specs.Room.{HasText}
use Rattle.llrp_schema.specs.declared.kinds.KindSet.{KindSet}
use Rattle.llrp_tree.specs.declared.TheConstants.{MAX_LIMIT}
use Rattle.llrp_explain.specs.Calls.Explained.{ExplainsStream}
use Rattle.llrp_c.specs.declared.status.Status.TheVariants.{Room, Memory}
use Rattle.llrp_c.specs.Listings.{lawful_status}
use Rattle.llrp_c.specs.Status.{code_of}

-- The text of the octets was written, and the code says whether all of them are messages; or it has more octets than the room, and their
-- number is returned; or memory ran out.
abbrev pub ExplainsIn : KindSet → (octets old new : List ℕ) (count code : ℕ) → Type 0
ExplainsIn p octets old new count code =
    ((text : List ℕ) × (lawful : Bool) × ExplainsStream p MAX_LIMIT octets text lawful × HasText old new 0 count text × (code ≡ code_of (lawful_status lawful)))
    ⊎ ((text : List ℕ) × (lawful : Bool) × ExplainsStream p MAX_LIMIT octets text lawful × (length old < length text) × (count ≡ length text) × (new ≡ old) × (code ≡ code_of Room))
    ⊎ ((new ≡ old) × (count ≡ 0) × (code ≡ code_of Memory))
