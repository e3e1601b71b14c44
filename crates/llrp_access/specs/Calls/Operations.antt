-- The operations of an AccessSpec on a tag's memory, and their results (LLRP 1.1, sections 12 and 14).
use Rattle.std.specs.Prelude.{ℕ, List, [], ◌∷◌, length, min, Result, Ok, Err}
use Rattle.tag_memory.specs.declared.bank.Bank.{Bank}
use Rattle.tag_memory.specs.declared.bank.Fault.{Fault}
use Rattle.tag_memory.specs.Calls.Memory as tag
use Rattle.tag_memory.specs.Calls.Memory.{Memory}
use Rattle.tag_memory.specs.Calls.Results.{read_result, write_result}
use Rattle.llrp_access.specs.declared.operation.Operation.{Operation}
use Rattle.llrp_access.specs.declared.operation.Operation.TheVariants.{Read, Write}
use Rattle.llrp_access.specs.declared.operation.OperationResult.{OperationResult}
use Rattle.llrp_access.specs.declared.operation.OperationResult.TheVariants as made

-- what an operation gives: a result, which is 0 for success, and the words that were read, or how many were written
pub data Outcome : Type 0 where
  WasRead : (id result : ℕ) → (words : List ℕ) → Outcome
  WasWritten : (id result count : ℕ) → Outcome

abbrev pub meaning : OperationResult → Outcome
meaning (made.Read id result words) = WasRead id result words.items
meaning (made.Write id result count) = WasWritten id result count

-- ---- one operation

abbrev pub read_so : ℕ → Result (List ℕ) Fault → Outcome
read_so id (Ok words) = WasRead id 0 words
read_so id (Err fault) = WasRead id (read_result fault) []

abbrev pub read_outcome : (id password : ℕ) → Bank → (pointer count : ℕ) → Memory → Outcome
read_outcome id password bank pointer count m = read_so id (tag.read password bank pointer count m)

abbrev pub written_so : ℕ → ℕ → Result Memory Fault → Outcome
written_so id count (Ok n) = WasWritten id 0 count
written_so id count (Err fault) = WasWritten id (write_result fault) 0

abbrev pub write_outcome : (id password : ℕ) → Bank → (pointer : ℕ) → List ℕ → Memory → Outcome
write_outcome id password bank pointer words m = written_so id (min (length words) 65535) (tag.write password bank pointer words m)

-- a memory that was not written stays
abbrev pub written_or : Memory → Result Memory Fault → Memory
written_or m (Ok n) = n
written_or m (Err fault) = m

abbrev pub written : (password : ℕ) → Bank → (pointer : ℕ) → List ℕ → Memory → Memory
written password bank pointer words m = written_or m (tag.write password bank pointer words m)

abbrev pub outcome : Operation → Memory → Outcome
outcome (Read id password bank pointer count) m = read_outcome id password bank pointer count m
outcome (Write id password bank pointer words) m = write_outcome id password bank pointer words.items m

-- the tag's memory then
abbrev pub after : Operation → Memory → Memory
after (Read id password bank pointer count) m = m
after (Write id password bank pointer words) m = written password bank pointer words.items m

-- ---- operations in order: each is done, whatever those before gave

unfoldable pub outcomes : List Operation → Memory → List Outcome
outcomes [] m = []
outcomes (o ∷ os) m = outcome o m ∷ outcomes os (after o m)

unfoldable pub after_all : List Operation → Memory → Memory
after_all [] m = m
after_all (o ∷ os) m = after_all os (after o m)
