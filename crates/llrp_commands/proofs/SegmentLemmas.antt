-- How show of a capture that stopped is answered.
use Rattle.std.proofs.Common.{◌≡◌, ◌≢◌, ℕ, refl, subst}
use Rattle.std.specs.Prelude.{Result, Ok, IfOk}
use Rattle.llrp_listing.specs.declared.outcome.ToolErr.{ToolErr}

-- a status that is not 0
pub not_zero : (answer : Result ℕ ToolErr) → IfOk answer (λ status. status ≢ 0) → answer ≡ Ok 0 → ⊥
not_zero answer h e = (subst (λ (a : Result ℕ ToolErr). IfOk a (λ status. status ≢ 0)) e h) refl
