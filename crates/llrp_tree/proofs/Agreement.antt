-- Open trees over the same digits: with equally many parts they are equal, and at most one of them is at an end.
use Rattle.std.proofs.Common.{◌≡◌, ℕ, zero, suc, ◌+◌, ◌-◌, ◌*◌, ◌^◌, ◌<◌, Bool, ◌⊎◌, inl, inr, List, [], ◌∷◌, ◌++◌, length, take, drop, Option, Some, None, refl, sym, ap, subst, ◌∙◌, arith, append_assoc, length-append}
use Rattle.std.proofs.lemmas.List.{append-nil, append_cancel_left}
use Rattle.std.proofs.lemmas.Bool.{cases_order}
use Rattle.tag_bits.specs.Digits.{value, digits}
use Rattle.llrp_schema.specs.declared.kinds.MsgKind.{MsgKind}
use Rattle.llrp_schema.specs.declared.kinds.ParamKind.{ParamKind}
use Rattle.llrp_schema.specs.declared.kinds.Kind.TheVariants.{Message}
use Rattle.llrp_schema.specs.Schema.{number_of, set_of_kind}
use Rattle.llrp_schema.proofs.TableLaws.{message_number_fits, message_numbers_in}
use Rattle.llrp_tree.specs.Tree.{Forest, none, and}
use Rattle.llrp_tree.specs.Spelling.{Head, message, tlv, tv, head_digits, forest_digits}
use Rattle.llrp_tree.specs.OpenTree.{root_set, Begun, leading_digits, part, covers, due, Rest, IsHeader, IsHead, IsOpenNode, IsOpenTree}
use Rattle.llrp_tree.specs.Calls.OpenTree.{parts, whole_parts, tail_parts}
use Rattle.llrp_tree.specs.FirstFault.{next_fault}
use Rattle.llrp_tree.proofs.ReadDigits.{drop_own, number_own}
use Rattle.llrp_tree.proofs.Steps.{Step, Fails, Grows, Ends, next, begin}
use Rattle.llrp_tree.proofs.LastPart.{Before, field_before, tail_before, child_before}
use Rattle.llrp_tree.proofs.Openings.{opened_tlv, opened_tv}

-- a list that is not empty, from its other end
last_split : (v : ℕ) (vs : List ℕ) → (init : List ℕ) × (last : ℕ) × (v ∷ vs ≡ init ++ last ∷ [])
last_split v [] = ([], v, refl)
last_split v (w ∷ vs) = let r = last_split w vs in (v ∷ r.0, r.1, ap (λ (x : List ℕ). v ∷ x) r.2)

length-last : (init : List ℕ) (v : ℕ) → length (init ++ v ∷ []) ≡ length init + 1
length-last init v = length-append init (v ∷ [])

ready_before : (h : Head) (stop : ℕ) (fields : List ℕ) (tail : Option (List ℕ)) (before : Forest) (k : ParamKind) (vs os : List ℕ) (cs : Forest)
    → (and before k vs os cs ≡ none) ⊎ (due (record { head = h; stop = stop; fields = fields; tail = tail; children = and before k vs os cs }) ≡ Rest)
    → due (record { head = h; stop = stop; fields = fields; tail = tail; children = before }) ≡ Rest
unfolding due
ready_before h stop fields tail before k vs os cs (inl e) = absurd cc
ready_before h stop fields tail before k vs os cs (inr e) = e

outer_head : (p : Begun) (outer : List Begun) → IsOpenTree (p ∷ outer) → IsHead p.head p.stop outer
unfolding IsOpenTree
outer_head p outer s = s.0.head

-- an open tree of more than one part came by a step
shrinks_at : (h : Head) (stop : ℕ) (fields : List ℕ) (tail : Option (List ℕ)) (children : Forest) (outer : List Begun) (rest : List Bool) (n : ℕ)
    → IsOpenNode (record { head = h; stop = stop; fields = fields; tail = tail; children = children }) outer → IsOpenTree outer
    → parts (record { head = h; stop = stop; fields = fields; tail = tail; children = children } ∷ outer) ≡ suc (suc n)
    → Before (record { head = h; stop = stop; fields = fields; tail = tail; children = children } ∷ outer) rest (suc n)
unfolding parts whole_parts
shrinks_at h stop fields tail (and before k vs os cs) outer rest n s o e =
    let ready : due (record { head = h; stop = stop; fields = fields; tail = tail; children = before }) ≡ Rest = ready_before h stop fields tail before k vs os cs s.children_after in
    subst (λ (m : ℕ). Before (record { head = h; stop = stop; fields = fields; tail = tail; children = and before k vs os cs } ∷ outer) rest m) (omega arith)
    (child_before h stop fields tail before k vs os cs outer rest s o ready)
shrinks_at h stop fields (Some os) none outer rest n s o e =
    elim s.tail_after [
      | inl bad ↦ absurd cc
      | inr all ↦ subst (λ (m : ℕ). Before (record { head = h; stop = stop; fields = fields; tail = Some os; children = none } ∷ outer) rest m) (omega arith) (tail_before h stop fields os outer rest s o all)
    ]
shrinks_at h stop (v ∷ vs) None none outer rest n s o e =
    let r = last_split v vs in
    let count : suc (length vs) ≡ length r.0 + 1 = ap (λ (x : List ℕ). length x) r.2 ∙ length-last r.0 r.1 in
    let P : List ℕ → Type 0 = λ x. Before (record { head = h; stop = stop; fields = x; tail = None; children = none } ∷ outer) rest (suc n) in
    let Q : List ℕ → Type 0 = λ x. IsOpenNode (record { head = h; stop = stop; fields = x; tail = None; children = none }) outer in
    subst P (sym r.2) (subst (λ (m : ℕ). Before (record { head = h; stop = stop; fields = r.0 ++ r.1 ∷ []; tail = None; children = none } ∷ outer) rest m) (omega arith) (field_before h stop r.0 r.1 outer rest (subst Q r.2 s) o))
shrinks_at h stop [] None none [] rest n s o e = absurd (omega arith)
shrinks_at (message v t m id) stop [] None none (p ∷ outer) rest n s o e = absurd s.head
shrinks_at (tlv k m) stop [] None none (p ∷ outer) rest n s o e =
    subst (λ (x : ℕ). Before (begin (tlv k m) stop ∷ p ∷ outer) rest x) (omega arith) (opened_tlv p outer rest k m stop s.head (outer_head p outer o) o)
shrinks_at (tv k) stop [] None none (p ∷ outer) rest n s o e =
    subst (λ (x : ℕ). Before (begin (tv k) stop ∷ p ∷ outer) rest x) (omega arith) (opened_tv p outer rest k stop s.head s.inside (outer_head p outer o) o)

pub shrinks : (t : List Begun) (rest : List Bool) (n : ℕ) → IsOpenTree t → parts t ≡ suc (suc n) → Before t rest (suc n)
unfolding IsOpenTree parts
shrinks [] rest n s e = absurd (omega arith)
shrinks (b ∷ outer) rest n s e = shrinks_at b.head b.stop b.fields b.tail b.children outer rest n s.0 s.1 e

-- ---- the first part

-- the first w digits of x, and those after them
same_number : (w m n : ℕ) (x y : List Bool) → m < 2 ^ w → n < 2 ^ w → digits w m ++ x ≡ digits w n ++ y → (m ≡ n) × (x ≡ y)
same_number w m n x y lm ln e = (
  sym (number_own w m x lm) ∙ ap (λ (z : List Bool). value (take w z)) e ∙ number_own w n y ln,
  sym (drop_own w m x) ∙ ap (λ (z : List Bool). drop w z) e ∙ drop_own w n y,
)

regroup : (v : ℕ) (t : MsgKind) (n id : ℕ) (x : List Bool) → head_digits (message v t n id) ++ x ≡ digits 3 0 ++ (digits 3 v ++ (digits 10 (number_of (Message t)) ++ (digits 32 n ++ (digits 32 id ++ x))))
unfolding head_digits
regroup v t n id x = simp append_assoc

same_message : (v : ℕ) (t : MsgKind) (n id v2 : ℕ) (t2 : MsgKind) (n2 id2 : ℕ) (x y : List Bool) → v < 2 ^ 3 → n < 2 ^ 32 → id < 2 ^ 32 → v2 < 2 ^ 3 → n2 < 2 ^ 32 → id2 < 2 ^ 32 → set_of_kind (Message t) ≡ set_of_kind (Message t2)
    → head_digits (message v t n id) ++ x ≡ head_digits (message v2 t2 n2 id2) ++ y → (message v t n id ≡ message v2 t2 n2 id2) × (n ≡ n2)
same_message v t n id v2 t2 n2 id2 x y lv ln lid lv2 ln2 lid2 p e =
    let e0 = sym (regroup v t n id x) ∙ e ∙ regroup v2 t2 n2 id2 y in
    let e1 = same_number 3 0 0 _ _ (omega arith) (omega arith) e0 in
    let e2 = same_number 3 v v2 _ _ lv lv2 e1.1 in
    let e3 = same_number 10 (number_of (Message t)) (number_of (Message t2)) _ _ (message_number_fits t) (message_number_fits t2) e2.1 in
    let e4 = same_number 32 n n2 _ _ ln ln2 e3.1 in
    let e5 = same_number 32 id id2 _ _ lid lid2 e4.1 in
    let a : v ≡ v2 = e2.0 in let b : t ≡ t2 = message_numbers_in t t2 p e3.0 in let c : n ≡ n2 = e4.0 in let d : id ≡ id2 = e5.0 in
    (cc, c)

-- a tree of one part is a message's head
record IsFirst (t : List Begun) : Type 0 where
  pub version : ℕ
  pub kind : MsgKind
  pub octets : ℕ
  pub id : ℕ
  pub is : t ≡ begin (message version kind octets id) (8 * octets) ∷ []
  pub header : IsHeader version octets id (8 * octets)

pub version_small : (v : ℕ) → (v ≡ 1) ⊎ (v ≡ 2) → v < 2 ^ 3
version_small v (inl e) = omega (arith, e)
version_small v (inr e) = omega (arith, e)

first_at : (h : Head) (stop : ℕ) (fields : List ℕ) (tail : Option (List ℕ)) (children : Forest) (outer : List Begun)
    → IsHead h stop outer → parts (record { head = h; stop = stop; fields = fields; tail = tail; children = children } ∷ outer) ≡ 1
    → IsFirst (record { head = h; stop = stop; fields = fields; tail = tail; children = children } ∷ outer)
unfolding parts whole_parts
first_at (message v t n id) stop [] None none [] h e = record { version = v; kind = t; octets = n; id = id; is = ap (λ (x : ℕ). begin (message v t n id) x ∷ []) h.stops; header = record { known_version = h.known_version; octets_fit = h.octets_fit; id_fits = h.id_fits; stops = refl } }
first_at (tlv k n) stop [] None none [] h e = absurd h
first_at (tv k) stop [] None none [] h e = absurd h
first_at h stop (v ∷ vs) tail children outer f e = absurd (omega arith)
first_at h stop [] (Some os) children outer f e = absurd (omega arith)
first_at h stop [] None (and before k vs os cs) outer f e = absurd (omega arith)
first_at h stop [] None none (p ∷ outer) f e = absurd (omega arith)

first : (t : List Begun) → IsOpenTree t → parts t ≡ 1 → IsFirst t
unfolding IsOpenTree parts
first [] s e = absurd (omega arith)
first (b ∷ outer) s e = first_at b.head b.stop b.fields b.tail b.children outer s.0.head e

head_covered : (h : Head) (stop : ℕ) → covers (begin h stop ∷ []) ≡ head_digits h
unfolding covers part leading_digits forest_digits
head_covered h stop = append-nil (head_digits h)

-- ---- agreement

first_root : (t : List Begun) (a : IsFirst t) → root_set t ≡ set_of_kind (Message a.kind)
first_root t a = ap root_set a.is

pub agree : (n : ℕ) (t u : List Begun) (r s : List Bool) → IsOpenTree t → IsOpenTree u → parts t ≡ suc n → parts u ≡ suc n → root_set t ≡ root_set u → covers t ++ r ≡ covers u ++ s → (t ≡ u) × (r ≡ s)
agree zero t u r s st su pt pu roots e =
    let a = first t st pt in
    let b = first u su pu in
    let ct : covers t ≡ head_digits (message a.version a.kind a.octets a.id) = ap covers a.is ∙ head_covered (message a.version a.kind a.octets a.id) (8 * a.octets) in
    let cu : covers u ≡ head_digits (message b.version b.kind b.octets b.id) = ap covers b.is ∙ head_covered (message b.version b.kind b.octets b.id) (8 * b.octets) in
    let heads = same_message a.version a.kind a.octets a.id b.version b.kind b.octets b.id r s (version_small a.version a.header.known_version) a.header.octets_fit a.header.id_fits (version_small b.version b.header.known_version) b.header.octets_fit b.header.id_fits (sym (first_root t a) ∙ roots ∙ first_root u b)
    (sym (ap (λ (x : List Bool). x ++ r) ct) ∙ e ∙ ap (λ (x : List Bool). x ++ s) cu) in
    let same : t ≡ u = a.is ∙ (ap (λ (h : Head). begin h (8 * a.octets) ∷ []) heads.0 ∙ ap (λ (n : ℕ). begin (message b.version b.kind b.octets b.id) (8 * n) ∷ []) heads.1) ∙ sym b.is in
    (same, append_cancel_left (covers u) r s (sym (ap (λ (x : List Begun). covers x ++ r) same) ∙ e))
agree (suc n) t u r s st su pt pu roots e =
    let a = shrinks t r n st pt in
    let b = shrinks u s n su pu in
    let ih = agree n a.tree b.tree a.left b.left a.is_open b.is_open a.fewer b.fewer (a.root ∙ roots ∙ sym b.root) (a.same ∙ e ∙ sym b.same) in
    let step : Grows t ≡ Grows u = sym a.step ∙ (ap (λ (x : List Begun). next x a.left) ih.0 ∙ ap (λ (x : List Bool). next b.tree x) ih.1) ∙ b.step in
    let same : t ≡ u = cc step in
    (same, append_cancel_left (covers u) r s (sym (ap (λ (x : List Begun). covers x ++ r) same) ∙ e))

no_parts : (t : List Begun) → parts t ≡ 0 → t ≡ []
unfolding parts
no_parts [] e = refl
no_parts (b ∷ outer) e = absurd (omega arith)

-- two open trees with equally many parts are equal
pub agree_at : (n : ℕ) (t u : List Begun) (r s : List Bool) → IsOpenTree t → IsOpenTree u → parts t ≡ n → parts u ≡ n → root_set t ≡ root_set u → covers t ++ r ≡ covers u ++ s → t ≡ u
agree_at zero t u r s st su pt pu roots e = no_parts t pt ∙ sym (no_parts u pu)
agree_at (suc n) t u r s st su pt pu roots e = (agree n t u r s st su pt pu roots e).0

-- a tree with more parts came by a step from one with fewer
earlier : (k n : ℕ) (t : List Begun) (r : List Bool) → IsOpenTree t → parts t ≡ suc (suc (k + n))
    → (tree : List Begun) × (left : List Bool) × (grown : List Begun) × IsOpenTree tree × (parts tree ≡ suc n) × (covers tree ++ left ≡ covers t ++ r) × (next tree left ≡ Grows grown) × (root_set tree ≡ root_set t)
earlier zero n t r s e = let a = shrinks t r n s (omega arith) in (a.tree, a.left, t, a.is_open, a.fewer, a.same, a.step, a.root)
earlier (suc k) n t r s e =
    let a = shrinks t r (suc (k + n)) s (omega arith) in
    let b = earlier k n a.tree a.left a.is_open a.fewer in
    (b.0, b.1, b.2, b.3, b.4, b.5 ∙ a.same, b.6, b.7 ∙ a.root)

abbrev pub IsEnd : Step → Type 0
IsEnd (Grows t) = ⊥
IsEnd (Fails bit reason) = Unit {0}
IsEnd (Ends b) = Unit {0}

has_part : (t : List Begun) (r : List Bool) → IsEnd (next t r) → (n : ℕ) × (parts t ≡ suc n)
unfolding next next_fault parts
has_part [] r e = absurd e
has_part (b ∷ outer) r e = (parts outer + (length b.fields + tail_parts b.tail + whole_parts b.children), omega arith)

pub not_both : (t u : List Begun) (r s : List Bool) → IsOpenTree t → IsOpenTree u → root_set t ≡ root_set u → covers t ++ r ≡ covers u ++ s → IsEnd (next t r) → parts t < parts u → ⊥
not_both t u r s st su roots e end lt =
    let n = has_part t r end in
    let k : ℕ = parts u - parts t - 1 in
    let total : parts u ≡ suc (suc (k + n.0)) = omega (arith, n.1) in
    let b = earlier k n.0 u s su total in
    let a = agree n.0 t b.0 r b.1 st b.3 n.1 b.4 (roots ∙ sym b.7) (e ∙ sym b.5) in
    let step : next t r ≡ Grows b.2 = ap (λ (x : List Begun). next x r) a.0 ∙ ap (λ (x : List Bool). next b.0 x) a.1 ∙ b.6 in
    subst IsEnd step end

-- only one open tree is at an end
pub one_end : (t u : List Begun) (r s : List Bool) → IsOpenTree t → IsOpenTree u → root_set t ≡ root_set u → covers t ++ r ≡ covers u ++ s → IsEnd (next t r) → IsEnd (next u s) → (t ≡ u) × (r ≡ s)
one_end t u r s st su roots e et eu =
    elim (cases_order (parts t) (parts u)) [
      | inl same ↦ (let n = has_part t r et in agree n.0 t u r s st su n.1 (sym same ∙ n.1) roots e)
      | inr (inl lt) ↦ absurd (not_both t u r s st su roots e et lt)
      | inr (inr gt) ↦ absurd (not_both u t s r su st (sym roots) (sym e) eu gt)
    ]
