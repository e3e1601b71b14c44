-- Fields of lawful parameters are in their ranges, and a search finds parameters of its kind.
use Rattle.std.proofs.Common.{◌≡◌, ℕ, zero, suc, ◌≤◌, List, [], ◌∷◌, get_or, true, sym, subst, arith}
use Rattle.std.proofs.lemmas.Bool.{eqb-true}
use Rattle.llrp_schema.specs.declared.kinds.ParamKind.{ParamKind}
use Rattle.llrp_schema.specs.declared.kinds.Kind.TheVariants.{Parameter}
use Rattle.llrp_schema.specs.Schema.{FieldRule, plain_fields_of, key_of}
use Rattle.llrp_schema.proofs.TableLaws.{param_keys}
use Rattle.llrp_tree.specs.Tree.{Tree}
use Rattle.llrp_tree.specs.Lawful.{AreInRange, IsLawfulTree}
use Rattle.llrp_session.specs.RoSpec.{is_kind}
use Rattle.llrp_session.specs.Calls.ReadWords.{greatest_at, greatest}

range_at : (rules : List FieldRule) (values : List ℕ) (i : ℕ) → AreInRange rules values → get_or values i 0 ≤ greatest_at rules i
range_at [] [] i h = omega arith
range_at [] (v ∷ values) i h = absurd h
range_at (r ∷ rules) [] i h = absurd h
range_at (r ∷ rules) (v ∷ values) zero h = h.0
range_at (r ∷ rules) (v ∷ values) (suc i) h = range_at rules values i h.1

-- a field of a lawful parameter is in its range
pub field_within : (kind : ParamKind) (t : Tree) (i : ℕ) → t.kind ≡ kind → IsLawfulTree t → get_or t.fields i 0 ≤ greatest kind i
field_within kind t i e h = subst (λ (k : ParamKind). get_or t.fields i 0 ≤ greatest k i) e (range_at (plain_fields_of (Parameter t.kind)) t.fields i h.0.obeys.ranges)

-- a parameter that passes the test is of the kind
pub kind_of_test : (kind : ParamKind) (t : Tree) → is_kind kind t ≡ true → t.kind ≡ kind
kind_of_test kind t e = sym (param_keys kind t.kind (eqb-true (key_of kind) (key_of t.kind) e))
