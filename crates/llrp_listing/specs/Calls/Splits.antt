-- A byte list split at a byte.
use Rattle.std.specs.Prelude.{◌≡◌, ℕ, ◌==◌, false, List, ◌∷◌, ◌++◌}
use Rattle.std.specs.List.{AllByRecursion}

-- the bytes have no such byte
abbrev pub Lacks : ℕ → List ℕ → Type 0
Lacks byte bytes = AllByRecursion (λ b. (b == byte) ≡ false) bytes

-- the first such byte is between the two parts
abbrev pub IsSplit : ℕ → List ℕ → List ℕ → List ℕ → Type 0
IsSplit byte bytes before after = Lacks byte before × (bytes ≡ before ++ (byte ∷ after))
