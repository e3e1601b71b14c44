-- Words as octets.
use Rattle.std.proofs.Common.{◌≡◌, ◌∙◌, ℕ, List, [], ◌∷◌, ◌++◌, ◌/◌, ◌%◌, ap}
use Rattle.llrp_operations.specs.Calls.Operations.{words_octets}

-- the octets of one word more, and what follows them
pub one_more : (ws later : List ℕ) (w high low : ℕ) → w / 256 ≡ high → w % 256 ≡ low → words_octets (ws ++ w ∷ []) ++ later ≡ words_octets ws ++ (high ∷ (low ∷ later))
one_more [] later w high low h l = ap (λ (x : ℕ). x ∷ (w % 256 ∷ later)) h ∙ ap (λ (x : ℕ). high ∷ (x ∷ later)) l
one_more (v ∷ ws) later w high low h l = ap (λ (x : List ℕ). v / 256 ∷ (v % 256 ∷ x)) (one_more ws later w high low h l)
