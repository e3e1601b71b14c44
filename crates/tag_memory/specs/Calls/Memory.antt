-- The memory of a C1G2 tag (EPC Gen2: four banks of words of 16 bits), and what reading and writing makes of it.
use Rattle.std.specs.Prelude.{ℕ, ◌+◌, ◌*◌, ◌==◌, nat_le, nat_lt, Bool, true, false, ◌||◌, ◌&&◌, not, List, [], ◌∷◌, ◌++◌, length, take, drop, slice_index, Option, Some, None, Result, Ok, Err, if◌then◌else◌}
use Rattle.tag_memory.specs.declared.bank.Bank.{Bank}
use Rattle.tag_memory.specs.declared.bank.Bank.TheVariants.{Reserved, Epc, Tid, User}
use Rattle.tag_memory.specs.declared.bank.Fault.{Fault}
use Rattle.tag_memory.specs.declared.bank.Fault.TheVariants.{Password, Locked, Overrun}

pub record Memory : Type 0 where
  pub reserved : List ℕ  -- two words of the kill password, then two of the access password
  pub epc : List ℕ  -- the checksum, the protocol control word, and the EPC
  pub tid : List ℕ  -- what the maker says of the tag
  pub user : List ℕ

abbrev pub words_of : Bank → Memory → List ℕ
words_of Reserved m = m.reserved
words_of Epc m = m.epc
words_of Tid m = m.tid
words_of User m = m.user

-- one bank has other words
abbrev pub with_words : Bank → List ℕ → Memory → Memory
with_words Reserved words m = record m { reserved = words }
with_words Epc words m = record m { epc = words }
with_words Tid words m = record m { tid = words }
with_words User words m = record m { user = words }

-- ---- passwords

-- the third and fourth word of the reserved bank; a tag without them has none, as one whose password is 0
abbrev pub password_in : List ℕ → ℕ
password_in words = if nat_le 4 (length words) then slice_index words 2 * 65536 + slice_index words 3 else 0

-- an operation comes without a password, or with the tag's
abbrev pub is_admitted : ℕ → Memory → Bool
is_admitted password m = (password == 0) || (password == password_in m.reserved)

-- it comes with the tag's, which may be 0
abbrev pub is_secured : ℕ → Memory → Bool
is_secured password m = password == password_in m.reserved

-- only the passwords are kept from reading
abbrev pub may_read : Bank → Bool → Bool
may_read Reserved secured = secured
may_read Epc secured = true
may_read Tid secured = true
may_read User secured = true

-- the passwords are kept from writing; what the maker says, and the checksum, are never written
abbrev pub may_write : Bank → Bool → ℕ → Bool
may_write Reserved secured pointer = secured
may_write Epc secured pointer = nat_lt 0 pointer
may_write Tid secured pointer = false
may_write User secured pointer = true

-- why an operation is not done, the first that applies; it is on this many words from a place on
abbrev pub refused : Bool → Bool → Bool → Option Fault
refused admitted may within = if not admitted then Some Password else (if not may then Some Locked else (if within then None else Some Overrun))

-- ---- reading

-- 0 words are all from there on
abbrev pub has_words : List ℕ → ℕ → ℕ → Bool
has_words words pointer count = nat_le (pointer + count) (length words)

abbrev pub words_from : List ℕ → ℕ → ℕ → List ℕ
words_from words pointer count = if count == 0 then drop pointer words else take count (drop pointer words)

abbrev pub read_fault : ℕ → Bank → ℕ → ℕ → Memory → Option Fault
read_fault password bank pointer count m = refused (is_admitted password m) (may_read bank (is_secured password m)) (has_words (words_of bank m) pointer count)

abbrev pub read_unless : Option Fault → List ℕ → Result (List ℕ) Fault
read_unless None words = Ok words
read_unless (Some fault) words = Err fault

-- what C1G2Read with this password, bank, WordPointer and WordCount gives
unfoldable pub read : ℕ → Bank → ℕ → ℕ → Memory → Result (List ℕ) Fault
read password bank pointer count m = read_unless (read_fault password bank pointer count m) (words_from (words_of bank m) pointer count)

-- ---- writing

-- words stand from a place on, and all others stay
abbrev pub put : List ℕ → ℕ → List ℕ → List ℕ
put old pointer words = take pointer old ++ (words ++ drop (pointer + length words) old)

abbrev pub write_fault : ℕ → Bank → ℕ → List ℕ → Memory → Option Fault
write_fault password bank pointer words m = refused (is_admitted password m) (may_write bank (is_secured password m) pointer) (has_words (words_of bank m) pointer (length words))

abbrev pub written_unless : Option Fault → Bank → ℕ → List ℕ → Memory → Result Memory Fault
written_unless None bank pointer words m = Ok (with_words bank (put (words_of bank m) pointer words) m)
written_unless (Some fault) bank pointer words m = Err fault

-- what C1G2Write and C1G2BlockWrite with this password, bank, WordPointer and words make of a memory: all words are written, or none
unfoldable pub write : ℕ → Bank → ℕ → List ℕ → Memory → Result Memory Fault
write password bank pointer words m = written_unless (write_fault password bank pointer words m) bank pointer words m
