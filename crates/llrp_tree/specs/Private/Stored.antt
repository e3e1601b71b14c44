-- How the checker stores trees, and how large they are.
use Rattle.std.specs.Prelude.{◌≡◌, ℕ, ◌+◌, ◌≤◌, List, [], ◌∷◌, refl}
use Rattle.std.specs.Coded.{Coded, code_by, coded×, coded_ℕ, coded_list}
use Rattle.std.proofs.Common.{ap, arith}
use base.Stored.{Gv, gnil, gcons}
use denote.Param.Weighed.{most}
use Rattle.llrp_schema.specs.declared.kinds.ParamKind.{ParamKind}
use Rattle.llrp_schema.specs.contracts.kinds.ParamKind as kinds
use Rattle.llrp_schema.specs.declared.kinds.MsgKind.{MsgKind}
use Rattle.llrp_schema.specs.contracts.kinds.MsgKind as messages
use Rattle.llrp_tree.specs.Tree.{Forest, none, and, Tree, MessageTree, add, add_all, forest}

-- a parameter's own parts
abbrev pub Own : Type 0
Own = ParamKind × (List ℕ × List ℕ)

abbrev pub own_code : Coded Own
own_code = coded× kinds.the_row.coded (coded× (coded_list coded_ℕ) (coded_list coded_ℕ))

pub stored : Forest → Gv
stored none = gnil
stored (and before kind fields tail children) = gcons (stored before) (gcons (own_code.code (kind, (fields, tail))) (stored children))

pub stored-injective : (a b : Forest) → stored a ≡ stored b → a ≡ b
unfolding stored
stored-injective none none e = refl
stored-injective none (and before kind fields tail children) e = absurd cc
stored-injective (and before kind fields tail children) none e = absurd cc
stored-injective (and before kind fields tail children) (and before2 kind2 fields2 tail2 children2) e =
    let b = stored-injective before before2 cc in
    let c = stored-injective children children2 cc in
    let o = own_code.inj (kind, (fields, tail)) (kind2, (fields2, tail2)) cc in
    let x = ap (λ (p : Own). p.0) o in
    let y = ap (λ (p : Own). p.1.0) o in
    let z = ap (λ (p : Own). p.1.1) o in
    cc

abbrev pub forest_code : Coded Forest
forest_code = record { code = stored; inj = stored-injective }

abbrev pub tree_code : Coded Tree
tree_code = code_by (Own × Forest) (coded× own_code forest_code) (λ t. ((t.kind, (t.fields, t.tail)), t.children)) (λ p. record { kind = p.0.0; fields = p.0.1.0; tail = p.0.1.1; children = p.1 }) (λ _. refl)

abbrev MessageParts : Type 0
MessageParts = (ℕ × ℕ) × (MsgKind × ((List ℕ × List ℕ) × Forest))

abbrev pub message_code : Coded MessageTree
message_code = code_by MessageParts (coded× (coded× coded_ℕ coded_ℕ) (coded× messages.the_row.coded (coded× (coded× (coded_list coded_ℕ) (coded_list coded_ℕ)) forest_code)))
    (λ m. ((m.version, m.id), (m.kind, ((m.fields, m.tail), m.children)))) (λ p. record { version = p.0.0; id = p.0.1; kind = p.1.0; fields = p.1.1.0.0; tail = p.1.1.0.1; children = p.1.1.1 }) (λ _. refl)

-- how many parameters there are
abbrev pub size : Forest → ℕ
size none = 0
size (and before kind fields tail children) = size before + (size children + 2)

abbrev pub tree_size : Tree → ℕ
tree_size t = size t.children + 1

size_grows : (before : Forest) (ts : List Tree) → size before ≤ size (add_all before ts)
size_grows before [] = omega arith
size_grows before (t ∷ ts) = let a = size_grows (add before t) ts in omega arith

most_onto : (before : Forest) (ts : List Tree) → most (λ t. tree_size t + 1) ts ≤ size (add_all before ts)
most_onto before [] = omega arith
most_onto before (t ∷ ts) = let a = size_grows (add before t) ts in let b = most_onto (add before t) ts in omega arith

-- each parameter of a row is smaller than the row
pub most_le-size : (ts : List Tree) → most (λ t. tree_size t + 1) ts ≤ size (forest ts)
most_le-size ts = most_onto none ts
