-- A text that grew by several parts.
use Rattle.std.proofs.Common.{◌≡◌, ℕ, List, ◌++◌, ap, ◌∙◌, append_assoc}

-- by one part and then by more
pub grown : (old mid new a b : List ℕ) → mid ≡ old ++ a → new ≡ mid ++ b → new ≡ old ++ (a ++ b)
grown old mid new a b p q = q ∙ ap (λ (x : List ℕ). x ++ b) p ∙ append_assoc old a b

-- by three parts
pub grown_thrice : (t u v w a b c : List ℕ) → u ≡ t ++ a → v ≡ u ++ b → w ≡ v ++ c → w ≡ t ++ (a ++ (b ++ c))
grown_thrice t u v w a b c p q r = grown t u w a (b ++ c) p (grown u v w b c q r)

-- by five parts
pub grown_by_five : (t t1 t2 t3 t4 t5 a b c d e : List ℕ) → t1 ≡ t ++ a → t2 ≡ t1 ++ b → t3 ≡ t2 ++ c → t4 ≡ t3 ++ d → t5 ≡ t4 ++ e
    → t5 ≡ t ++ (a ++ (b ++ (c ++ (d ++ e))))
grown_by_five t t1 t2 t3 t4 t5 a b c d e p q r s u = grown_thrice t t1 t2 t5 a b (c ++ (d ++ e)) p q (grown_thrice t2 t3 t4 t5 c d e r s u)

-- a part that is another's text
pub with_part : (old new a b : List ℕ) → new ≡ old ++ a → a ≡ b → new ≡ old ++ b
with_part old new a b p e = p ∙ ap (λ (x : List ℕ). old ++ x) e
