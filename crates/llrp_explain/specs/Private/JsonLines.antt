-- What comes after a line of a frame's text.
use Rattle.std.specs.Prelude.{ℕ, List, [], Bool, Option, Some, None}
use Rattle.llrp_explain.specs.declared.json.Place.{Place}

-- the objects of the lines after it, or nothing after a fault
abbrev pub after_line : Option Place → (later : Bool → Bool → List ℕ) → List ℕ
after_line None later = []
after_line (Some place) later = later place.first place.refused
