-- What is written is read back, and nothing else is touched.
use Rattle.std.specs.Prelude.{◌≡◌, ◌≢◌, ℕ, ◌<◌, List, length, Ok}
use Rattle.tag_memory.specs.declared.bank.Bank.{Bank}
use Rattle.tag_memory.specs.declared.bank.Bank.TheVariants.{User}
use Rattle.tag_memory.specs.Calls.Memory.{Memory, words_of, read, write}

-- words of the user's bank that were written with a password are read back with it
abbrev pub ReadsBack : Type 0
ReadsBack = (password pointer : ℕ) (words : List ℕ) (m n : Memory) → 0 < length words → write password User pointer words m ≡ Ok n → read password User pointer (length words) n ≡ Ok words

-- a bank that is not written has its words, and each has as many as before
abbrev pub KeepsOthers : Type 0
KeepsOthers = (password pointer : ℕ) (bank other : Bank) (words : List ℕ) (m n : Memory) → write password bank pointer words m ≡ Ok n → other ≢ bank → words_of other n ≡ words_of other m

abbrev pub KeepsLengths : Type 0
KeepsLengths = (password pointer : ℕ) (bank other : Bank) (words : List ℕ) (m n : Memory) → write password bank pointer words m ≡ Ok n → length (words_of other n) ≡ length (words_of other m)
