-- The names of the results of operations (LLRP 1.1, section 16.2.1.5). The numbers are as the standard's text is remembered.
use Rattle.std.specs.Prelude.{ℕ, nat_le, Bool, ◌==◌, if◌then◌else◌, List, codes}
use Rattle.llrp_operations.specs.declared.operation.Operation.{Operation}
use Rattle.llrp_operations.specs.declared.operation.Operation.TheVariants.{Read, Write, Lock}

-- of C1G2ReadOpSpecResult
abbrev pub read_name : ℕ → List ℕ
read_name n =
    if n == 0 then codes "Success"
    else if n == 1 then codes "NonspecificTagError"
    else if n == 2 then codes "NoResponseFromTag"
    else if n == 3 then codes "NonspecificReaderError"
    else if n == 4 then codes "MemoryOverrunError"
    else if n == 5 then codes "MemoryLockedError"
    else if n == 6 then codes "IncorrectPasswordError"
    else codes "Unknown"

-- of C1G2WriteOpSpecResult
abbrev pub write_name : ℕ → List ℕ
write_name n =
    if n == 0 then codes "Success"
    else if n == 1 then codes "TagMemoryOverrunError"
    else if n == 2 then codes "TagMemoryLockedError"
    else if n == 3 then codes "InsufficientPower"
    else if n == 4 then codes "NonspecificTagError"
    else if n == 5 then codes "NoResponseFromTag"
    else if n == 6 then codes "NonspecificReaderError"
    else if n == 7 then codes "IncorrectPasswordError"
    else codes "Unknown"

-- of C1G2LockOpSpecResult
abbrev pub lock_name : ℕ → List ℕ
lock_name n =
    if n == 0 then codes "Success"
    else if n == 1 then codes "InsufficientPower"
    else if n == 2 then codes "NonspecificTagError"
    else if n == 3 then codes "NoResponseFromTag"
    else if n == 4 then codes "NonspecificReaderError"
    else if n == 5 then codes "IncorrectPasswordError"
    else if n == 6 then codes "TagMemoryOverrunError"
    else if n == 7 then codes "TagMemoryLockedError"
    else codes "Unknown"

abbrev pub result_name : Operation → ℕ → List ℕ
result_name (Read _ _ _) n = read_name n
result_name (Write _ _ _) n = write_name n
result_name (Lock _ _) n = lock_name n

-- the numbers that the standard has
abbrev pub has_name : Operation → ℕ → Bool
has_name (Read _ _ _) n = nat_le n 6
has_name (Write _ _ _) n = nat_le n 7
has_name (Lock _ _) n = nat_le n 7
