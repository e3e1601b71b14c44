-- How many bits fields have.
use Rattle.std.specs.Prelude.{ℕ, ◌+◌, List, [], ◌∷◌}
use Rattle.llrp_explain.specs.Calls.FaultLines.{NamedBits}

unfoldable pub bits_of_fields : List NamedBits → ℕ
bits_of_fields [] = 0
bits_of_fields (f ∷ fields) = f.bits + bits_of_fields fields
