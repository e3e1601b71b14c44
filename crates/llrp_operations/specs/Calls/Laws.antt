-- What it means that the operations of an AccessSpec were done.
use Rattle.std.specs.Prelude.{◌≡◌, ℕ, suc, true, List, [], ◌∷◌, filter}
use Rattle.llrp_tree.specs.Tree.{Tree, trees}
use Rattle.llrp_operations.specs.declared.operation.Operation.{Operation}
use Rattle.llrp_operations.specs.Calls.Results.{are_of, field_at, has_succeeded, is_parameter, is_result, is_whole, result_kind}

-- a result of an operation with this OpSpecID, which is 0, success, and has as many words as were to be read or written
pub record IsDone (id : ℕ) (o : Operation) (t : Tree) : Type 0 where
  pub kind : is_parameter (result_kind o) t ≡ true
  pub success : field_at 0 t ≡ 0
  pub own : field_at 1 t ≡ id
  pub whole : is_whole o t ≡ true

-- one such result for each operation, in order, whose ids count from this one
abbrev pub AreDone : ℕ → List Operation → List Tree → Type 0
AreDone id [] [] = Unit {0}
AreDone id [] (t ∷ ts) = ⊥
AreDone id (o ∷ os) [] = ⊥
AreDone id (o ∷ os) (t ∷ ts) = IsDone id o t × AreDone (suc id) os ts

-- TagReportData is of this AccessSpec, and its results are such
pub record Succeeds (id : ℕ) (os : List Operation) (tag : Tree) : Type 0 where
  pub own : are_of id (trees tag.children) ≡ true
  pub results : AreDone 1 os (filter is_result (trees tag.children))

pub record SaysWhatSucceeds : Type 0 where
  pub sound : (id : ℕ) (os : List Operation) (tag : Tree) → has_succeeded id os tag ≡ true → Succeeds id os tag
  pub complete : (id : ℕ) (os : List Operation) (tag : Tree) → Succeeds id os tag → has_succeeded id os tag ≡ true
