-- How far a lister of tags has taken a piece.
use Rattle.std.specs.Prelude.{◌≡◌, ℕ, List, ◌++◌}
use Rattle.llrp_endpoints.specs.declared.tag_lister.TagLister.{TagLister}
use Rattle.llrp_endpoints.specs.Calls.TagListing.{HasTags}

-- it took these octets more, and appended the lines of the reports that are whole with them
abbrev pub TakesOn : List ℕ → TagLister → TagLister → List ℕ → List ℕ → Type 0
TakesOn octets old new t0 t1 =
    (limit : ℕ) (bytes text : List ℕ) → HasTags limit bytes text old → (more : List ℕ) × (t1 ≡ t0 ++ more) × HasTags limit (bytes ++ octets) (text ++ more) new
