-- Beside FirstRefusal: words of private functions.
use Rattle.std.specs.Prelude.{◌≡◌, ℕ, ◌≤◌}
use Rattle.llrp_listing.specs.FirstRefusal.{Rules}

-- each line, where this many lines are open, says one thing of a level that they allow, or is refused for one reason
pub record AreClear {H X R : Type 0} (rules : Rules H X R) : Type 0 where
  pub one_said : (x : X) (e f : ℕ × H) → rules.Says x e → rules.Says x f → e ≡ f
  pub one_reason : (d : ℕ) (x : X) (a b : R) → rules.Refuses d x a → rules.Refuses d x b → a ≡ b
  pub not_both : (d : ℕ) (x : X) (e : ℕ × H) (a : R) → rules.Says x e → e.0 ≤ d → rules.Refuses d x a → ⊥
