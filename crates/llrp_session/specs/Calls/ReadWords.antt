-- What the code reads in a message, as the definitions have it.
use Rattle.std.specs.Prelude.{◌≡◌, ℕ, zero, suc, Option, None, Some, List, [], ◌∷◌}
use Rattle.std.proofs.Common.{Bor}
use Rattle.llrp_schema.specs.declared.kinds.ParamKind.{ParamKind}
use Rattle.llrp_schema.specs.declared.kinds.Kind.TheVariants.{Parameter}
use Rattle.llrp_schema.specs.Schema.{FieldRule, plain_fields_of}
use Rattle.llrp_tree.specs.Tree.{Tree}
use Rattle.llrp_tree.specs.Lawful.{IsLawfulTree}

-- ---- parameters that are looked for

-- the parameter after a reference
abbrev pub behind : Option (Bor Tree) → Option Tree
behind None = None
behind (Some b) = Some b.now

-- a lawful parameter of the kind, if there is one
abbrev pub IsOfKind : ParamKind → Option Tree → Type 0
IsOfKind kind None = Unit {0}
IsOfKind kind (Some t) = (t.kind ≡ kind) × IsLawfulTree t

abbrev pub greatest_at : List FieldRule → ℕ → ℕ
greatest_at [] i = 0
greatest_at (r ∷ rules) zero = r.greatest
greatest_at (r ∷ rules) (suc i) = greatest_at rules i

-- the greatest value of a plain field
abbrev pub greatest : ParamKind → ℕ → ℕ
greatest kind i = greatest_at (plain_fields_of (Parameter kind)) i
