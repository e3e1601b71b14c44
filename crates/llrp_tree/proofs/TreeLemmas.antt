-- Rows of parameters and lists of them say the same.
use Rattle.std.proofs.Common.{◌≡◌, ℕ, ◌+◌, ◌<◌, List, [], ◌∷◌, ◌++◌, length, take, get_or, refl, sym, ap, ◌∙◌, append_assoc}
use Rattle.std.proofs.lemmas.List.{take_more, append-nil}
use Rattle.llrp_tree.specs.Tree.{Forest, none, and, Tree, add, add_all, forest, trees}

trees-add_all : (before : Forest) (ts : List Tree) → trees (add_all before ts) ≡ trees before ++ ts
trees-add_all before [] = sym (append-nil (trees before))
trees-add_all before (t ∷ ts) = trees-add_all (add before t) ts ∙ append_assoc (trees before) (t ∷ []) ts

pub trees-forest : (ts : List Tree) → trees (forest ts) ≡ ts
trees-forest ts = trees-add_all none ts

add_all-append : (before : Forest) (xs ys : List Tree) → add_all before (xs ++ ys) ≡ add_all (add_all before xs) ys
add_all-append before [] ys = refl
add_all-append before (x ∷ xs) ys = add_all-append (add before x) xs ys

-- one parameter more at the end
pub forest-push : (ts : List Tree) (t : Tree) → forest (ts ++ t ∷ []) ≡ add (forest ts) t
forest-push ts t = add_all-append none ts (t ∷ [])

pub forest-trees : (f : Forest) → forest (trees f) ≡ f
forest-trees none = refl
forest-trees (and before kind fields tail children) =
    let t : Tree = record { kind = kind; fields = fields; tail = tail; children = children } in
    forest-push (trees before) t ∙ ap (λ (b : Forest). add b t) (forest-trees before)

-- a row as far as a loop over the list has come
pub forest-take_more : (ts : List Tree) (i : ℕ) (t : Tree) → i < length ts → t ≡ get_or ts i t → forest (take (i + 1) ts) ≡ add (forest (take i ts)) t
forest-take_more ts i t lt is =
    ap forest (take_more ts i t lt ∙ ap (λ (x : Tree). take i ts ++ x ∷ []) (sym is)) ∙ forest-push (take i ts) t

pub ruleset rows = (trees-forest, forest-trees)
