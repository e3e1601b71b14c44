-- How what is listed is written.
use Rattle.std.specs.Prelude.{◌≡◌, ℕ, ◌<◌, ◌⊎◌, List, length, Option, Some, None}
use Rattle.tag_uri.specs.Room.{HasText}
use Rattle.llrp_c.specs.declared.listings.Listed.{Listed}
use Rattle.llrp_c.specs.declared.status.Status.TheVariants.{Room, Memory}
use Rattle.llrp_c.specs.Status.{code_of}

-- it was written, or there is not room enough for it, or memory ran out
abbrev pub PutsListed : Option Listed → (old new : List ℕ) (used count code : ℕ) → Type 0
PutsListed None old new used count code = (new ≡ old) × (used ≡ 0) × (count ≡ 0) × (code ≡ code_of Memory)
PutsListed (Some listed) old new used count code =
    (HasText old new 0 count listed.text.items × (used ≡ listed.used) × (code ≡ code_of listed.status))
    ⊎ ((length old < length listed.text.items) × (count ≡ length listed.text.items) × (new ≡ old) × (used ≡ 0) × (code ≡ code_of Room))
