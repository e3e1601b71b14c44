-- Checks that are made in order.
use Rattle.std.specs.Prelude.{◌≡◌, ◌⊎◌, List, [], ◌∷◌}

-- a check, and the reason that is given where it fails
pub record LineCheck (R : Type 0) : Type 1 where
  pub Holds : Type 0
  pub Tells : R → Type 0

-- a check for which one reason is given
abbrev pub line_check : {R : Type 0} → Type 0 → R → LineCheck R
line_check Holds reason = record { Holds = Holds; Tells = λ told. told ≡ reason }

-- the first of the checks that fails has this reason
abbrev pub FirstFailing : {R : Type 0} → List (LineCheck R) → R → Type 0
FirstFailing [] reason = ⊥
FirstFailing (c ∷ cs) reason = (¬ c.Holds × c.Tells reason) ⊎ (c.Holds × FirstFailing cs reason)

-- all of the checks hold
abbrev pub AllHold : {R : Type 0} → List (LineCheck R) → Type 0
AllHold [] = Unit {0}
AllHold (c ∷ cs) = c.Holds × AllHold cs
