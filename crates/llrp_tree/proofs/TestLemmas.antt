-- The ordered tests.
use Rattle.std.proofs.Common.{◌≡◌, ℕ, ◌+◌, ◌<◌, ◌≤◌, List, [], ◌∷◌, ◌++◌, Bool, true, false, refl, sym, ap, ◌∙◌, arith}
use Rattle.std.specs.Prelude.{Option, None, Some, nat_le, if◌then◌else◌, ◌||◌, ◌==◌}
use Rattle.std.proofs.lemmas.Bool.{le-leb, lt-leb}
use Rattle.llrp_schema.specs.declared.kinds.ParamKind.{ParamKind}
use Rattle.llrp_schema.specs.declared.kinds.Kind.TheVariants.{Message, Parameter}
use Rattle.llrp_schema.specs.declared.kinds.MsgKind.{MsgKind}
use Rattle.llrp_tree.specs.declared.TheConstants.{MAX_DEPTH, MAX_LIMIT, MAX_OCTETS}
use Rattle.llrp_tree.specs.declared.node.NodeFault.{NodeFault}
use Rattle.llrp_tree.specs.declared.node.NodeFault.TheVariants.{TooDeep, TooLong}
use Rattle.llrp_tree.specs.Tree.{Tree, forest}
use Rattle.llrp_tree.specs.Lawful.{levels, octets, head_octets, body_octets}
use Rattle.llrp_tree.specs.Checks.{first_failed, table_tests, first_fault, first_message_fault}
use Rattle.llrp_tree.proofs.TreeLemmas.{trees-forest}

-- what fails among the first tests
pub failed_before : (xs ys : List (Bool × NodeFault)) (f : NodeFault) → first_failed xs ≡ Some f → first_failed (xs ++ ys) ≡ Some f
failed_before [] ys f e = absurd cc
failed_before (x ∷ xs) ys f e =
    (elim x.0 as (λ b. (if b then first_failed xs else Some x.1) ≡ Some f → (if b then first_failed (xs ++ ys) else Some x.1) ≡ Some f)
    [ true ↦ λ h. failed_before xs ys f h | false ↦ λ h. h ]) e

-- the first tests pass
pub passed_before : (xs ys : List (Bool × NodeFault)) → first_failed xs ≡ None → first_failed (xs ++ ys) ≡ first_failed ys
passed_before [] ys e = refl
passed_before (x ∷ xs) ys e =
    (elim x.0 as (λ b. (if b then first_failed xs else Some x.1) ≡ None → (if b then first_failed (xs ++ ys) else Some x.1) ≡ first_failed ys)
    [ true ↦ λ h. passed_before xs ys h | false ↦ λ h. absurd cc ]) e

-- each test passes
abbrev pub AllPass : List (Bool × NodeFault) → Type 0
AllPass [] = Unit {0}
AllPass (t ∷ ts) = (t.0 ≡ true) × AllPass ts

pub all_pass : (ts : List (Bool × NodeFault)) → first_failed ts ≡ None → AllPass ts
all_pass [] e = tt
all_pass (t ∷ ts) e =
    (elim t.0 as (λ b. (if b then first_failed ts else Some t.1) ≡ None → (b ≡ true) × AllPass ts)
    [ true ↦ λ h. (refl, all_pass ts h) | false ↦ λ h. absurd cc ]) e

pub none_fails : (ts : List (Bool × NodeFault)) → AllPass ts → first_failed ts ≡ None
none_fails [] h = refl
none_fails (t ∷ ts) h = ap (λ (b : Bool). if b then first_failed ts else Some t.1) h.0 ∙ none_fails ts h.1

-- what follows from a parameter's tests, as the program makes them
module _ (kind : ParamKind) (values tail : List ℕ) (nodes : List Tree) where
  abbrev table : List (Bool × NodeFault)
  table = table_tests (Parameter kind) true values tail nodes

  abbrev whole : ℕ
  whole = head_octets kind + body_octets (Parameter kind) tail + octets (forest nodes)

  told : (f : Option NodeFault) → f ≡ first_failed (table ++ (nat_le (levels (forest nodes) + 1) MAX_DEPTH, TooDeep) ∷ (nat_le whole MAX_OCTETS, TooLong) ∷ []) → f ≡ first_fault kind values tail (forest nodes)
  unfolding first_fault
  told f e = rw (trees-forest nodes) e

  pub by_table : (f : NodeFault) → Some f ≡ first_failed table → Some f ≡ first_fault kind values tail (forest nodes)
  by_table f e = told (Some f) (sym (failed_before table _ f (sym e)))

  behind_table : (f : Option NodeFault) → None ≡ first_failed table → f ≡ first_failed ((nat_le (levels (forest nodes) + 1) MAX_DEPTH, TooDeep) ∷ (nat_le whole MAX_OCTETS, TooLong) ∷ []) → f ≡ first_fault kind values tail (forest nodes)
  behind_table f e g = told f (g ∙ sym (passed_before table _ (sym e)))

  pub by_depth : None ≡ first_failed table → MAX_DEPTH ≤ levels (forest nodes) → Some TooDeep ≡ first_fault kind values tail (forest nodes)
  by_depth e le = behind_table (Some TooDeep) e (rw (lt-leb (levels (forest nodes) + 1) MAX_DEPTH (omega arith)) refl)

  pub by_length : None ≡ first_failed table → levels (forest nodes) < MAX_DEPTH → MAX_OCTETS < whole → Some TooLong ≡ first_fault kind values tail (forest nodes)
  by_length e lt le = behind_table (Some TooLong) e (rw (le-leb (levels (forest nodes) + 1) MAX_DEPTH (omega arith), lt-leb whole MAX_OCTETS le) refl)

  pub no_fault : None ≡ first_failed table → levels (forest nodes) < MAX_DEPTH → whole ≤ MAX_OCTETS → None ≡ first_fault kind values tail (forest nodes)
  no_fault e lt le = behind_table None e (rw (le-leb (levels (forest nodes) + 1) MAX_DEPTH (omega arith), le-leb whole MAX_OCTETS le) refl)

-- what follows from a message's tests
module _ (version : ℕ) (kind : MsgKind) (values tail : List ℕ) (nodes : List Tree) (known : Bool) (is : known ≡ ((version == 1) || (version == 2))) where
  abbrev message_table : List (Bool × NodeFault)
  message_table = table_tests (Message kind) known values tail nodes

  abbrev message_length : ℕ
  message_length = 10 + body_octets (Message kind) tail + octets (forest nodes)

  told_message : (f : Option NodeFault) → f ≡ first_failed (message_table ++ (nat_le message_length MAX_LIMIT, TooLong) ∷ []) → f ≡ first_message_fault version kind values tail (forest nodes)
  unfolding first_message_fault
  told_message f e = rw (trees-forest nodes, ← is) e

  pub by_message_table : (f : NodeFault) → Some f ≡ first_failed message_table → Some f ≡ first_message_fault version kind values tail (forest nodes)
  by_message_table f e = told_message (Some f) (sym (failed_before message_table _ f (sym e)))

  pub by_message_length : None ≡ first_failed message_table → MAX_LIMIT < message_length → Some TooLong ≡ first_message_fault version kind values tail (forest nodes)
  by_message_length e le = told_message (Some TooLong) (ap (λ (b : Bool). first_failed ((b, TooLong) ∷ [])) (sym (lt-leb message_length MAX_LIMIT le)) ∙ sym (passed_before message_table _ (sym e)))

  pub no_message_fault : None ≡ first_failed message_table → message_length ≤ MAX_LIMIT → None ≡ first_message_fault version kind values tail (forest nodes)
  no_message_fault e le = told_message None (ap (λ (b : Bool). first_failed ((b, TooLong) ∷ [])) (sym (le-leb message_length MAX_LIMIT le)) ∙ sym (passed_before message_table _ (sym e)))
