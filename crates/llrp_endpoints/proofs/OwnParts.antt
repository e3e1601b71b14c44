-- What the profile has of parameters in a row, and of a message.
use Rattle.std.proofs.Common.{◌≡◌, ℕ, zero, suc, ◌+◌, ◌<◌, ◌≤◌, arith, subst, Bool, true, false, List, [], ◌∷◌, ◌++◌, length, take, get_or, refl, sym, ap, ◌∙◌}
use Rattle.std.specs.Prelude.{IfSome, Option, Some, None, is_some, if◌then◌else◌}
use Rattle.llrp_schema.specs.declared.kinds.MsgKind.{MsgKind}
use Rattle.llrp_schema.specs.declared.kinds.ParamKind.{ParamKind}
use Rattle.llrp_schema.specs.declared.kinds.Kind.TheVariants.{Message, Parameter}
use Rattle.llrp_schema.specs.Schema.{GroupRule, groups_of, has_place, message_in, number_of}
use Rattle.llrp_schema.specs.declared.kinds.KindSet.TheVariants.{Profile}
use Rattle.llrp_tree.specs.Tree.{Forest, none, Tree, MessageTree, add, forest}
use Rattle.llrp_tree.specs.Lawful.{levels}
use Rattle.llrp_tree.proofs.SpelledLemmas.{levels_of_first, levels_of_others}
use Rattle.llrp_tree.proofs.TreeLemmas.{forest-push, forest-take_more}
use Rattle.llrp_schema.specs.declared.kinds.Place.{Place}
use Rattle.llrp_schema.specs.Calls.Places.{IsPlace}
use Rattle.llrp_endpoints.specs.Heard.{else_kept, lawful_where, groups_where, own_kind, own_row, own_tree, tree_where, add_where, message_where, own_where, own_message}

-- ---- rows

pub no_row : (groups : List GroupRule) → own_row groups (forest []) ≡ none
unfolding own_row
no_row groups = refl

row_more : (groups : List GroupRule) (before : Forest) (t : Tree) → own_row groups (add before t) ≡ add_where (own_row groups before) (own_tree groups t)
unfolding own_row
row_more groups before t = refl

-- what a loop over the row has after one more of it
pub row_goes_on : (groups : List GroupRule) (ts : List Tree) (i : ℕ) (t : Tree) (row : List Tree) (own : Option Tree) → i < length ts → t ≡ get_or ts i t → forest row ≡ own_row groups (forest (take i ts)) → own ≡ own_tree groups t
    → add_where (forest row) own ≡ own_row groups (forest (take (i + 1) ts))
row_goes_on groups ts i t row own within is so e =
    ap (λ (f : Forest). add_where f own) so ∙ ap (λ (o : Option Tree). add_where (own_row groups (forest (take i ts))) o) e ∙ sym (row_more groups (forest (take i ts)) t) ∙ ap (own_row groups) (sym (forest-take_more ts i t within is))

pub row_kept : (groups : List GroupRule) (ts : List Tree) (i : ℕ) (t : Tree) (row : List Tree) (own : Tree) → i < length ts → t ≡ get_or ts i t → forest row ≡ own_row groups (forest (take i ts)) → Some own ≡ own_tree groups t
    → forest (row ++ own ∷ []) ≡ own_row groups (forest (take (i + 1) ts))
row_kept groups ts i t row own within is so e = forest-push row own ∙ row_goes_on groups ts i t row (Some own) within is so e

-- ---- one parameter

abbrev of_kind : List GroupRule → Tree → Option ParamKind → Option Tree
of_kind groups t k = tree_where groups k t.fields t.tail (own_row (groups_where k) t.children)

pub no_kind : (groups : List GroupRule) (t : Tree) → own_kind t.kind ≡ None → own_tree groups t ≡ None
no_kind groups t e = ap (of_kind groups t) e

pub no_place : (groups : List GroupRule) (t : Tree) (kind : ParamKind) → own_kind t.kind ≡ Some kind → has_place groups kind ≡ false → own_tree groups t ≡ None
no_place groups t kind e f =
    ap (of_kind groups t) e ∙ ap (λ (b : Bool). if b then else_kept kind t.fields (lawful_where kind t.fields t.tail (own_row (groups_of (Parameter kind)) t.children)) else None) f

pub placed_there : (groups : List GroupRule) (kind : ParamKind) (o : Option Place) → IfSome o (λ p. IsPlace groups kind p) → is_some o ≡ true → has_place groups kind ≡ true
placed_there groups kind (Some p) h e = h.placed
placed_there groups kind None h e = cc

-- its parts are tested
pub in_place : (groups : List GroupRule) (t : Tree) (kind : ParamKind) (fields tail : List ℕ) (row : Forest) → own_kind t.kind ≡ Some kind → has_place groups kind ≡ true → fields ≡ t.fields → tail ≡ t.tail → row ≡ own_row (groups_of (Parameter kind)) t.children
    → else_kept kind fields (lawful_where kind fields tail row) ≡ own_tree groups t
in_place groups t kind fields tail row e placed f g is =
    ap (λ (x : List ℕ). else_kept kind x (lawful_where kind x tail row)) f ∙ ap (λ (x : List ℕ). else_kept kind t.fields (lawful_where kind t.fields x row)) g ∙ ap (λ (r : Forest). else_kept kind t.fields (lawful_where kind t.fields t.tail r)) is
    ∙ ap (λ (b : Bool). if b then else_kept kind t.fields (lawful_where kind t.fields t.tail (own_row (groups_of (Parameter kind)) t.children)) else None) (sym placed) ∙ ap (of_kind groups t) (sym e)

-- ---- a message

pub no_message : (m : MessageTree) → message_in Profile (number_of (Message m.kind)) ≡ None → own_message m ≡ None
unfolding own_message
no_message m e = ap (λ (k : Option MsgKind). own_where k m) e

abbrev with_row : MessageTree → MsgKind → Forest → MessageTree
with_row m kind row = record { version = m.version; id = m.id; kind = kind; fields = m.fields; tail = []; children = row }

pub message_there : (m : MessageTree) (kind : MsgKind) (row : Forest) → message_in Profile (number_of (Message m.kind)) ≡ Some kind → row ≡ own_row (groups_of (Message kind)) m.children → message_where (with_row m kind row) ≡ own_message m
unfolding own_message
message_there m kind row e is = ap (λ (r : Forest). message_where (with_row m kind r)) is ∙ ap (λ (k : Option MsgKind). own_where k m) (sym e)

-- ---- levels

pub levels_of : (ts : List Tree) (i : ℕ) (t d : Tree) → i < length ts → t ≡ get_or ts i d → levels t.children + 1 ≤ levels (forest ts)
levels_of [] i t d within is = absurd (omega (arith, within))
levels_of (u ∷ ts) zero t d within is = subst (λ (x : Tree). levels x.children + 1 ≤ levels (forest (u ∷ ts))) (sym is) (levels_of_first u ts)
levels_of (u ∷ ts) (suc i) t d within is =
    let here = levels_of ts i t d (omega (arith, within)) is in
    let others = levels_of_others u ts in
    omega (arith, here, others)
