-- What the functions that print lines append to a text.
use Rattle.std.specs.Prelude.{◌≡◌, ℕ, List, ◌++◌}
use Rattle.llrp_listing.specs.NodeLine.{NodeLine}
use Rattle.llrp_listing.specs.MessageListing.{AreLines}

-- lines are appended
abbrev pub AppendsLines : List (ℕ × NodeLine) → List ℕ → List ℕ → Type 0
AppendsLines lines old new = (text : List ℕ) × (new ≡ old ++ text) × AreLines lines text
