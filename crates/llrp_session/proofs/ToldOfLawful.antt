-- What is written of a lawful ROSpec fits its fields.
use Rattle.std.proofs.Common.{◌≡◌, ℕ, ◌^◌, ◌<◌, ◌≤◌, refl, sym, subst, true, false, cond, List, [], ◌∷◌, ◌++◌, arith, get_or}
use Rattle.std.specs.Prelude.{find, Option, None, Some}
use Rattle.std.proofs.lemmas.Bool.{eqb-true}
use Rattle.llrp_schema.specs.declared.kinds.ParamKind.{ParamKind}
use Rattle.llrp_schema.specs.declared.kinds.ParamKind.TheVariants.{RoSpec as RoSpecKind, AiSpec, InventoryParameterSpec}
use Rattle.llrp_schema.specs.declared.kinds.Kind.TheVariants.{Parameter}
use Rattle.llrp_schema.specs.Schema.{FieldRule, rule_of, param_rule, fields_of, plain_fields_of, key_of}
use Rattle.llrp_schema.proofs.TableLaws.{param_keys}
use Rattle.llrp_tree.specs.Tree.{Forest, none, and, Tree, trees}
use Rattle.llrp_tree.specs.Lawful.{AreInRange, AllLawful, IsLawfulTree}
use Rattle.llrp_session.specs.RoSpec.{is_kind, first_in, first_below, field_of, rospec_of}
use Rattle.llrp_session.specs.Calls.LawfulWords.{IsToldOf}

-- the greatest value of the first field
abbrev pub first_greatest : List FieldRule → ℕ
first_greatest [] = 0
first_greatest (rule ∷ rules) = rule.greatest

pub first_in_range : (rules : List FieldRule) (values : List ℕ) → AreInRange rules values → get_or values 0 0 ≤ first_greatest rules
first_in_range [] [] h = omega arith
first_in_range [] (v ∷ values) h = absurd h
first_in_range (rule ∷ rules) [] h = absurd h
first_in_range (rule ∷ rules) (v ∷ values) h = h.0

abbrev AllAreLawful : List Tree → Type 0
AllAreLawful [] = Unit {0}
AllAreLawful (t ∷ ts) = IsLawfulTree t × AllAreLawful ts

lawful-append : (xs ys : List Tree) → AllAreLawful xs → AllAreLawful ys → AllAreLawful (xs ++ ys)
lawful-append [] ys h g = g
lawful-append (x ∷ xs) ys h g = (h.0, lawful-append xs ys h.1 g)

lawful-trees : (row : Forest) → AllLawful row → AllAreLawful (trees row)
lawful-trees none h = tt
lawful-trees (and before kind fields tail children) h = lawful-append (trees before) _ (lawful-trees before h.0) ((h.1, h.2), tt)

-- what is found is lawful and of the kind
abbrev pub IsFound : ParamKind → Option Tree → Type 0
IsFound kind None = Unit {0}
IsFound kind (Some t) = (t.kind ≡ kind) × IsLawfulTree t

found-find : (kind : ParamKind) (ts : List Tree) → AllAreLawful ts → IsFound kind (find (is_kind kind) ts)
found-find kind [] h = tt
found-find kind (t ∷ ts) h =
    elim (is_kind kind t) as (λ b. is_kind kind t ≡ b → IsFound kind (cond b (Some t) (find (is_kind kind) ts))) [
      | true ↦ λ e. (sym (param_keys kind t.kind (eqb-true (key_of kind) (key_of t.kind) e)), h.0)
      | false ↦ λ e. found-find kind ts h.1
    ] refl

pub found-first_in : (kind : ParamKind) (row : Forest) → AllLawful row → IsFound kind (first_in kind row)
found-first_in kind row h = found-find kind (trees row) (lawful-trees row h)

found-first_below : (outer kind : ParamKind) (o : Option Tree) → IsFound outer o → IsFound kind (first_below kind o)
found-first_below outer kind None h = tt
found-first_below outer kind (Some t) h = found-first_in kind t.children h.1.1

-- the first field of an InventoryParameterSpec has 16 bits
inventory_fits : (o : Option Tree) → IsFound InventoryParameterSpec o → field_of 0 o < 2 ^ 16
unfolding fields_of rule_of param_rule
inventory_fits None h = omega arith
inventory_fits (Some t) h =
    let le : get_or t.fields 0 0 ≤ 65535 = first_in_range (plain_fields_of (Parameter InventoryParameterSpec)) t.fields (subst (λ (k : ParamKind). AreInRange (plain_fields_of (Parameter k)) t.fields) h.0 h.1.0.obeys.ranges) in
    omega arith

-- that of a ROSpec has 32
id_fits : (t : Tree) → t.kind ≡ RoSpecKind → IsLawfulTree t → field_of 0 (Some t) < 2 ^ 32
unfolding fields_of rule_of param_rule
id_fits t is h =
    let le : get_or t.fields 0 0 ≤ 4294967295 = first_in_range (plain_fields_of (Parameter RoSpecKind)) t.fields (subst (λ (k : ParamKind). AreInRange (plain_fields_of (Parameter k)) t.fields) is h.0.obeys.ranges) in
    omega arith

pub told_of_lawful : (t : Tree) → (t.kind ≡ RoSpecKind) × IsLawfulTree t → IsToldOf (rospec_of t)
unfolding rospec_of
told_of_lawful t h =
    record {
      kind = h.0;
      lawful = h.1;
      octets = refl;
      id = id_fits t h.0 h.1;
      inventory = inventory_fits _ (found-first_below AiSpec InventoryParameterSpec (first_in AiSpec t.children) (found-first_in AiSpec t.children h.1.1));
    }
