-- How many octets a child has that is read.
use Rattle.std.proofs.Common.{◌≡◌, ℕ, ◌+◌, ◌*◌, Bool, List, [], ◌∷◌, length, length-append, sym, ap, ◌∙◌, arith}
use Rattle.std.specs.Prelude.{if◌then◌else◌}
use Rattle.llrp_schema.specs.declared.kinds.ParamKind.{ParamKind}
use Rattle.llrp_schema.specs.declared.kinds.Kind.TheVariants.{Parameter}
use Rattle.llrp_tree.specs.Tree.{Forest, and}
use Rattle.llrp_tree.specs.Lawful.{head_octets, tree_octets}
use Rattle.llrp_tree.specs.Spelling.{Head, message, tlv, tv, head_digits}
use Rattle.llrp_tree.specs.OpenTree.{Begun, kind_of_head, part, covers, IsHead, IsOpenTree}
use Rattle.llrp_tree.specs.Calls.Standing.{IsAt, begin_node, leading}
use Rattle.llrp_tree.proofs.ReadDigits.{length_covered}
use Rattle.llrp_tree.proofs.LengthLemmas.{length-spell, length-tlv, length-tv}
use Rattle.llrp_tree.proofs.Openings.{begun_covered}

-- the head of a child has as many octets as its kind says
head_length : (hb : Head) (stop : ℕ) (p : Begun) (outer : List Begun) (k : ParamKind) → kind_of_head hb ≡ Parameter k → IsHead hb stop (p ∷ outer) → length (head_digits hb) ≡ 8 * head_octets k
head_length (message v j n id) stop p outer k e i = absurd i
head_length (tlv j n) stop p outer k e i =
    let same : j ≡ k = cc in
    length-tlv j n ∙ ap (λ (b : Bool). 8 * (if b then 1 else 4)) (sym i.kind_is_tlv) ∙ ap (λ (x : ParamKind). 8 * head_octets x) same
head_length (tv j) stop p outer k e i =
    let same : j ≡ k = cc in
    length-tv j ∙ ap (λ (b : Bool). 8 * (if b then 1 else 4)) (sym i.kind_is_tv) ∙ ap (λ (x : ParamKind). 8 * head_octets x) same

one_more : (p : Begun) (outer : List Begun) (k : ParamKind) (ws os : List ℕ) (cs : Forest)
    → length (covers (begin_node p.head p.stop p.fields p.tail (and p.children k ws os cs) ∷ outer)) ≡ length (covers (p ∷ outer)) + 8 * tree_octets (record { kind = k; fields = ws; tail = os; children = cs })
unfolding covers part
one_more p outer k ws os cs = simp length-append (omega (arith, length-spell p.children, length-spell (and p.children k ws os cs)))

-- a child goes from its head's first bit to where its parent goes on after it
pub child_octets : (ds : List Bool) (p : Begun) (outer : List Begun) (from at : ℕ) (hb : Head) (stop : ℕ) (k : ParamKind) (ws os : List ℕ) (cs : Forest) → kind_of_head hb ≡ Parameter k
    → IsAt ds (leading hb stop [] ∷ p ∷ outer) from → IsAt ds (begin_node p.head p.stop p.fields p.tail (and p.children k ws os cs) ∷ outer) at
    → from + 8 * tree_octets (record { kind = k; fields = ws; tail = os; children = cs }) ≡ at + 8 * head_octets k
unfolding IsOpenTree
child_octets ds p outer from at hb stop k ws os cs e before behind =
    let a = length_covered (covers (leading hb stop [] ∷ p ∷ outer)) from ds before.covered before.within in
    let b = length_covered (covers (begin_node p.head p.stop p.fields p.tail (and p.children k ws os cs) ∷ outer)) at ds behind.covered behind.within in
    let head = ap (λ (x : List Bool). length x) (begun_covered p outer ds hb stop) ∙ length-append (covers (p ∷ outer)) (head_digits hb) in
    omega (arith, a, b, head, head_length hb stop p outer k e before.is_open.0.head, one_more p outer k ws os cs)
