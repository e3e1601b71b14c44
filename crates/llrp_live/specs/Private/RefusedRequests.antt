-- Beside Calls/RefusedRequests: words of private functions.
use Rattle.std.specs.Prelude.{ℕ, List, ◌∷◌, replicate, slice_index, Some}
use Rattle.llrp_tree.specs.declared.fault.Reason.TheVariants.{Value}
use Rattle.llrp_live.specs.declared.fault_places.FaultPlace.{FaultPlace}

-- a field of the innermost of this many parameters, of three or fewer
abbrev pub value_below : List ℕ → (depth field : ℕ) → FaultPlace
value_below types depth field = record {
  types = slice_index types 0 ∷ slice_index types 1 ∷ slice_index types 2 ∷ replicate 14 0;
  depth = depth;
  field = Some field;
  reason = Value;
}
