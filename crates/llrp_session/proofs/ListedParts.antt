-- The parts of a ROSpec that is listed.
use Rattle.std.proofs.Common.{◌≡◌, ℕ, List, [], ◌∷◌, ap, sym, subst, ◌∙◌}
use Rattle.std.specs.Prelude.{Some}
use Rattle.llrp_schema.specs.declared.kinds.ParamKind.TheVariants.{RoSpec as RoSpecKind}
use Rattle.llrp_tree.specs.declared.node.NodeFault.{NodeFault}
use Rattle.llrp_tree.specs.Tree.{Tree, forest, trees}
use Rattle.llrp_tree.specs.Lawful.{IsLawfulTree}
use Rattle.llrp_tree.specs.Checks.{first_fault}
use Rattle.llrp_tree.proofs.TreeLemmas.{forest-trees}
use Rattle.llrp_tree.proofs.LawLemmas.{lawful_to}
use Rattle.llrp_session.specs.RoSpec.{RoSpec, rospec_of, field_of}
use Rattle.llrp_session.specs.Table.{RoState, state_number, as_listed}
use Rattle.llrp_session.specs.Calls.LawfulWords.{IsToldOf}
use Rattle.llrp_session.proofs.ListedLemmas.{listed_lawful}

pub same_listed : (t : Tree) (spec : RoSpec) (s : RoState) (id priority number : ℕ) (tail : List ℕ) (row : List Tree) → rospec_of t ≡ spec
    → id ≡ (rospec_of t).id → priority ≡ field_of 1 (Some t) → number ≡ state_number s → tail ≡ [] → row ≡ trees t.children
    → record { kind = RoSpecKind; fields = id ∷ priority ∷ number ∷ []; tail = tail; children = forest row } ≡ as_listed (record { spec = spec; state = s })
unfolding rospec_of
same_listed t spec s id priority number tail row v i p n e r =
    rw (i, p, n, e, r, forest-trees t.children) (ap (λ (x : RoSpec). as_listed (record { spec = x; state = s })) v)

pub never_refused : (t : Tree) (spec : RoSpec) (s : RoState) (id priority number : ℕ) (tail : List ℕ) (row : List Tree) (fault : NodeFault) → IsToldOf spec → rospec_of t ≡ spec
    → id ≡ (rospec_of t).id → priority ≡ field_of 1 (Some t) → number ≡ state_number s → tail ≡ [] → row ≡ trees t.children
    → first_fault RoSpecKind (id ∷ priority ∷ number ∷ []) tail (forest row) ≡ Some fault → ⊥
never_refused t spec s id priority number tail row fault told v i p n e r f =
    let lawful = subst IsLawfulTree (sym (same_listed t spec s id priority number tail row v i p n e r)) (listed_lawful (record { spec = spec; state = s }) told) in
    let k = lawful_to RoSpecKind (id ∷ priority ∷ number ∷ []) tail (forest row) lawful.0 in
    let g = sym f ∙ k in cc
