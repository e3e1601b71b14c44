-- Octets as words, and why digits are no words.
use Rattle.std.specs.Prelude.{◌≡◌, ⊤, ℕ, ◌%◌, List, ◌++◌, length}
use Rattle.llrp_operations.specs.declared.word.WordErr.{WordErr}
use Rattle.llrp_operations.specs.declared.word.WordErr.TheVariants.{Digits, Memory}
use Rattle.llrp_operations.specs.Calls.Operations.{words_octets}
use Rattle.llrp_operations.specs.Calls.Words.{IsNoWords}

-- the words of an even number of octets are appended
abbrev pub AppendsWords : List ℕ → List ℕ → List ℕ → Type 0
AppendsWords octets old new = (length octets % 2 ≡ 0) → words_octets new ≡ words_octets old ++ octets

abbrev pub RefusesDigits : List ℕ → WordErr → Type 0
RefusesDigits text Digits = IsNoWords text
RefusesDigits text Memory = ⊤
RefusesDigits text _ = ⊥
