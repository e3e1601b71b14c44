-- Beside FirstRefusal: what contracts say that no promise rests on.
use Rattle.std.specs.Prelude.{◌≡◌, ℕ, List}
use Rattle.std.specs.List.{AllZip}
use Rattle.llrp_listing.specs.OpenText.{Outline, nodes}
use Rattle.llrp_listing.specs.FirstRefusal.{Rules, AllClose, Refused}

-- The lines are those of these trees, and each of the trees can be closed.
pub record Lists {H X R : Type 0} (rules : Rules H X R) (lines : List X) (trees : Outline H) : Type 0 where
  pub says : AllZip rules.Says lines (nodes 0 trees)
  pub close : AllClose rules.closing trees

-- Lines list one row of trees at most or have one first refusal at most, and never both.
pub record HasOneAnswer {H X R : Type 0} (rules : Rules H X R) (lines : List X) : Type 0 where
  pub one_listing : (f g : Outline H) → Lists rules lines f → Lists rules lines g → f ≡ g
  pub one_refusal : (f g : Outline H) (m n : ℕ) (a b : R) → Refused rules lines m a f → Refused rules lines n b g → (m ≡ n) × (a ≡ b) × (f ≡ g)
  pub not_both : (f g : Outline H) (number : ℕ) (reason : R) → Lists rules lines f → Refused rules lines number reason g → ⊥
