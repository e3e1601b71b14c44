-- What the calls for keys share.
use Rattle.std.specs.Prelude.{◌≡◌, ◌≢◌, ℕ, ◌<◌, ◌≤◌, ◌⊎◌, true, false, List, length}
use Rattle.std.specs.Str.{IsUtf8}
use Rattle.tag_uri.specs.declared.fault.UriFault.TheVariants as uri
use Rattle.tag_uri.specs.Room.{HasText}
use Rattle.llrp_c.specs.declared.status.Status.{Status}
use Rattle.llrp_c.specs.declared.status.Status.TheVariants.{Done, Length, Room, Uri, Utf8}
use Rattle.llrp_c.specs.Keys.{is_count}
use Rattle.llrp_c.specs.Status.{code_of}

-- a text was written to the front of the room; or it has more octets than the room, and their number is returned
abbrev pub PutsLines : (text old new : List ℕ) (count code : ℕ) → Type 0
PutsLines text old new count code =
    (HasText old new 0 count text × (code ≡ code_of Done))
    ⊎ ((length old < length text) × (count ≡ length text) × (new ≡ old) × (code ≡ code_of Room))

-- what a key is read with is as it has to be
pub record IsReadable (text : List ℕ) (filter digits : ℕ) (word : List ℕ) : Type 0 where
  pub twelve : length word ≡ 12
  pub filter_is : filter < 8
  pub digits_are : is_count digits ≡ true
  pub utf8 : IsUtf8 text

-- the first that is not has this status
abbrev pub IsUnreadable : (text : List ℕ) (filter digits : ℕ) (word : List ℕ) → Status → Type 0
IsUnreadable text filter digits word status =
    ((length word ≢ 12) × (status ≡ Length))
    ⊎ ((length word ≡ 12) × (8 ≤ filter) × (status ≡ Uri uri.Filter))
    ⊎ ((length word ≡ 12) × (filter < 8) × (is_count digits ≡ false) × (status ≡ Uri uri.Digits))
    ⊎ ((length word ≡ 12) × (filter < 8) × (is_count digits ≡ true) × (IsUtf8 text → ⊥) × (status ≡ Utf8))
