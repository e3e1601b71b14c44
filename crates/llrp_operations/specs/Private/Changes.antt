-- The read of what an operation writes, if it writes.
use Rattle.std.specs.Prelude.{◌≡◌, [], ◌∷◌, Option, Some, None}
use Rattle.llrp_operations.specs.declared.operation.Operation.{Operation}
use Rattle.llrp_operations.specs.Calls.Changes.{check_of}

abbrev pub IsCheckOf : Operation → Option Operation → Type 0
IsCheckOf o None = check_of o ≡ []
IsCheckOf o (Some check) = check_of o ≡ check ∷ []
