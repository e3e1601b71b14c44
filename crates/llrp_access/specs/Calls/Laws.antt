-- Each operation has one result, in order, and the number of words that a bank has stays.
use Rattle.std.specs.Prelude.{◌≡◌, ℕ, List, ◌++◌, length, map}
use Rattle.tag_memory.specs.declared.bank.Bank.{Bank}
use Rattle.tag_memory.specs.Calls.Memory.{Memory, words_of}
use Rattle.llrp_access.specs.declared.operation.Operation.{Operation}
use Rattle.llrp_access.specs.declared.operation.Operation.TheVariants.{Read, Write}
use Rattle.llrp_access.specs.Calls.Operations.{Outcome, WasRead, WasWritten, outcomes, after_all}

abbrev pub id_of : Operation → ℕ
id_of (Read id password bank pointer count) = id
id_of (Write id password bank pointer words) = id

abbrev pub id_in : Outcome → ℕ
id_in (WasRead id result words) = id
id_in (WasWritten id result count) = id

-- the OpSpecIDs of the results are those of the operations, in order
abbrev pub OneResultEach : Type 0
OneResultEach = (os : List Operation) (m : Memory) → map id_in (outcomes os m) ≡ map id_of os

-- operations one after another are those of one list
abbrev pub GoesOn : Type 0
GoesOn = (os more : List Operation) (m : Memory) → outcomes (os ++ more) m ≡ outcomes os m ++ outcomes more (after_all os m)

abbrev pub KeepsLengths : Type 0
KeepsLengths = (os : List Operation) (m : Memory) (bank : Bank) → length (words_of bank (after_all os m)) ≡ length (words_of bank m)
