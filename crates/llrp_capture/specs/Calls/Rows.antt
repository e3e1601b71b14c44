-- The fields of a line that tshark prints, with a tab between each two (tshark(1), -T fields).
use Rattle.std.specs.Prelude.{◌≡◌, ℕ, ◌==◌, List, [], ◌∷◌}
use Rattle.std.specs.List.{slice_split}
use Rattle.llrp_capture.specs.declared.row.Row.{Row}

-- the fields of a line: the parts round its tabs
abbrev pub fields_of : List ℕ → List (List ℕ)
fields_of line = slice_split (λ b. b == 9) line

-- the line has these eight fields
abbrev pub IsRow : List ℕ → Row → Type 0
IsRow line row = fields_of line ≡ row.time.now ∷ row.stream.now ∷ row.address.now ∷ row.wide_address.now ∷ row.port.now ∷ row.flags.now ∷ row.sequence.now ∷ row.payload.now ∷ []
