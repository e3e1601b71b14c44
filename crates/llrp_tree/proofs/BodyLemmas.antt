-- A node with its children, and the whole frame, as open trees.
use Rattle.std.proofs.Common.{◌≡◌, ℕ, ◌*◌, ◌≤◌, Bool, true, false, ◌⊎◌, inl, inr, List, [], ◌∷◌, ◌++◌, length, drop, Option, Some, None, refl, sym, ap, subst, ◌∙◌, arith}
use Rattle.std.specs.Prelude.{nat_le, unwrap_or}
use Rattle.std.proofs.lemmas.Bool.{le-leb, leb-true}
use Rattle.tag_bits.specs.Digits.{digits_of_bytes}
use Rattle.tag_bits.proofs.ByteLemmas.{length-bytes}
use Rattle.llrp_schema.specs.declared.kinds.ParamKind.{ParamKind}
use Rattle.llrp_schema.specs.declared.kinds.MsgKind.{MsgKind}
use Rattle.llrp_schema.specs.declared.kinds.Kind.{Kind}
use Rattle.llrp_schema.specs.declared.kinds.Kind.TheVariants.{Message, Parameter}
use Rattle.llrp_schema.specs.declared.kinds.Tail.{Tail}
use Rattle.llrp_schema.proofs.TableLaws.{message_found_in, tv_tail, tv_groups}
use Rattle.llrp_schema.specs.Schema.{set_of_kind, GroupRule, fields_of, tail_of, groups_of, is_tv}
use Rattle.llrp_tree.specs.declared.TheConstants.{MAX_LIMIT}
use Rattle.llrp_tree.specs.declared.fault.Reason.TheVariants.{Missing}
use Rattle.llrp_tree.specs.declared.fault.FrameErr.{FrameErr}
use Rattle.llrp_tree.specs.declared.fault.FrameErr.TheVariants.{Memory, Bad}
use Rattle.llrp_tree.specs.Tree.{Forest, none, and, Tree, forest, add}
use Rattle.llrp_tree.specs.Lawful.{AreOctets, IsLawfulTree}
use Rattle.llrp_tree.specs.Checks.{none_missing}
use Rattle.llrp_tree.specs.Spelling.{Head, message, tlv, tv, spread}
use Rattle.llrp_tree.specs.Frame.{Frame}
use Rattle.llrp_schema.specs.declared.kinds.KindSet.{KindSet}
use Rattle.llrp_tree.specs.OpenTree.{root_of, Begun, kind_of_head, groups, due, Rest, is_enough, IsHead, IsOpenTree}
use Rattle.llrp_tree.specs.Calls.OpenTree.{as_read}
use Rattle.llrp_tree.specs.FirstFault.{number, first_failing, checks, Close, has_ended, header_checks_in}
use Rattle.llrp_tree.specs.Calls.Standing.{IsAt, begin_node, leading, HeaderSaysIn}
use Rattle.llrp_tree.specs.Private.Standing.{Closes, Tells, Begins, IsFaultOf, is_tv_kind}
use Rattle.llrp_tree.specs.FirstFault.{IsFirstIn}
use Rattle.llrp_tree.proofs.TreeLemmas.{forest-push}
use Rattle.llrp_tree.proofs.Steps.{closed, with_child}
use Rattle.llrp_tree.proofs.Leading.{plain, length-spread, drop_all}
use Rattle.llrp_tree.proofs.WholeNodes.{read_is_rest}
use Rattle.llrp_tree.proofs.LastPart.{closing_turn}
use Rattle.llrp_tree.proofs.Telling.{all_hold, fault_is}
use Rattle.llrp_tree.proofs.Frames.{header_stands, fault_of_frame, closes_frame}
use Rattle.llrp_tree.proofs.Totality.{child_closes}
use Rattle.llrp_tree.proofs.ReadingLemmas.{plain-spread_all, enough_is}

-- a node of which all fields and the tail are read
abbrev pub open_body : Head → ℕ → Kind → List ℕ → List ℕ → Forest → Begun
open_body h stop kind ws os cs = begin_node h stop (spread (fields_of kind) ws) (as_read (tail_of kind) os) cs

pub rest_due : (h : Head) (stop : ℕ) (kind : Kind) (ws os : List ℕ) (cs : Forest) → kind_of_head h ≡ kind → due (open_body h stop kind ws os cs) ≡ Rest
unfolding due
rest_due h stop kind ws os cs e = rw (e, drop_all (fields_of kind) (length (spread (fields_of kind) ws)) (length-spread (fields_of kind) ws), read_is_rest (tail_of kind) os) refl

-- ---- a child

closed_is : (before : Forest) (hb : Head) (k : ParamKind) (vs : List ℕ) (tail : Option (List ℕ)) (cs : Forest) → kind_of_head hb ≡ Parameter k → closed before hb vs tail cs ≡ with_child before k vs tail cs
closed_is before (message v m n id) k vs tail cs e = absurd cc
closed_is before (tlv j n) k vs tail cs e = (let same : j ≡ k = cc in ap (λ (x : ParamKind). with_child before x vs tail cs) same)
closed_is before (tv j) k vs tail cs e = (let same : j ≡ k = cc in ap (λ (x : ParamKind). with_child before x vs tail cs) same)

-- a child that closes is the last of its parent's
pub child_stands : (ds : List Bool) (p : Begun) (outer : List Begun) (at : ℕ) (hb : Head) (stop_b : ℕ) (k : ParamKind) (ws os : List ℕ) (cs : Forest)
    → kind_of_head hb ≡ Parameter k → length ws ≡ length (plain (fields_of (Parameter k))) → unwrap_or (as_read (tail_of (Parameter k)) os) [] ≡ os
    → Closes ds (open_body hb stop_b (Parameter k) ws os cs) (p ∷ outer) at → IsAt ds (begin_node p.head p.stop p.fields p.tail (and p.children k ws os cs) ∷ outer) at
child_stands ds p outer at hb stop_b k ws os cs e l w c =
    let vs : List ℕ = spread (fields_of (Parameter k)) ws in
    let tail : Option (List ℕ) = as_read (tail_of (Parameter k)) os in
    let g = child_closes ds p.head p.stop p.fields p.tail p.children vs tail cs outer at hb stop_b c in
    let same : closed p.children hb vs tail cs ≡ and p.children k ws os cs = closed_is p.children hb k vs tail cs e ∙ rw (plain-spread_all (fields_of (Parameter k)) ws l, w) refl in
    subst (λ (x : Forest). IsAt ds (begin_node p.head p.stop p.fields p.tail x ∷ outer) at) same g

pub child_lawful : (ds : List Bool) (h : Head) (stop : ℕ) (fs : List ℕ) (tl : Option (List ℕ)) (before : Forest) (outer : List Begun) (at : ℕ) (k : ParamKind) (ws os : List ℕ) (cs : Forest)
    → IsAt ds (begin_node h stop fs tl (and before k ws os cs) ∷ outer) at → IsLawfulTree (record { kind = k; fields = ws; tail = os; children = cs })
unfolding IsOpenTree
child_lawful ds h stop fs tl before outer at k ws os cs st = (st.is_open.0.lawful.1, st.is_open.0.lawful.2)

-- the node that is pushed after its siblings is that child
pub child_pushed : (ds : List Bool) (p : Begun) (outer : List Begun) (olds news : List Tree) (n : Tree) (at : ℕ) (k : ParamKind) (ws os : List ℕ) (cs : Forest)
    → p.children ≡ forest olds → n ≡ record { kind = k; fields = ws; tail = os; children = cs } → news ≡ olds ++ n ∷ []
    → IsAt ds (begin_node p.head p.stop p.fields p.tail (and p.children k ws os cs) ∷ outer) at → IsAt ds (begin_node p.head p.stop p.fields p.tail (forest news) ∷ outer) at
child_pushed ds p outer olds news n at k ws os cs e is push st =
    let same : forest news ≡ and p.children k ws os cs = ap forest push ∙ forest-push olds n ∙ ap (λ (x : Tree). add (forest olds) x) is ∙ ap (λ (x : Forest). and x k ws os cs) (sym e) in
    subst (λ (x : Forest). IsAt ds (begin_node p.head p.stop p.fields p.tail x ∷ outer) at) (sym same) st

-- the same with the children as they are lent
pub with_siblings : (ds : List Bool) (h : Head) (stop : ℕ) (kind : Kind) (ws os : List ℕ) (olds sibs : List Tree) (outer : List Begun) (at : ℕ) → sibs ≡ olds
    → IsAt ds (open_body h stop kind ws os (forest olds) ∷ outer) at → IsAt ds (open_body h stop kind ws os (forest sibs) ∷ outer) at
with_siblings ds h stop kind ws os olds sibs outer at e st = subst (λ (x : List Tree). IsAt ds (open_body h stop kind ws os (forest x) ∷ outer) at) (sym e) st

-- ---- the end of a node

pub head_of_tree : (b : Begun) (outer : List Begun) → IsOpenTree (b ∷ outer) → IsHead b.head b.stop outer
unfolding IsOpenTree
head_of_tree b outer s = s.0.head

-- a node whose loop has ended is over
pub over_at : (h : Head) (kind : Kind) (stop at : ℕ) → kind_of_head h ≡ kind → (is_tv_kind kind ≡ true) ⊎ (stop ≤ at) → (outer : List Begun) → IsHead h stop outer → has_ended h (nat_le stop at) ≡ true
over_at (tv k) kind stop at e c outer i = refl
over_at (message v k n id) kind stop at e (inl f) outer i = absurd (let z : is_tv_kind (Message k) ≡ true = ap is_tv_kind e ∙ f in cc)
over_at (message v k n id) kind stop at e (inr le) outer i = le-leb stop at le
over_at (tlv k n) kind stop at e (inl f) [] i = absurd i
over_at (tlv k n) kind stop at e (inl f) (p ∷ outer) i = absurd (let z : is_tv k ≡ true = ap is_tv_kind e ∙ f in let y = i.kind_is_tlv in cc)
over_at (tlv k n) kind stop at e (inr le) outer i = le-leb stop at le

pub missing_first : (b : Begun) (level at : ℕ) (ds : List Bool) → is_enough (groups b) b.children ≡ false → first_failing (checks Close level b at ds) ≡ Some (b.stop, Missing)
unfolding checks
missing_first b level at ds e = rw e refl

module _ (ds : List Bool) (h : Head) (stop : ℕ) (kind : Kind) (ws os : List ℕ) (children : List Tree) (outer : List Begun) (at : ℕ) (e : kind_of_head h ≡ kind) (st : IsAt ds (open_body h stop kind ws os (forest children) ∷ outer) at) (done : (is_tv_kind kind ≡ true) ⊎ (stop ≤ at)) where
  abbrev here : Begun
  here = open_body h stop kind ws os (forest children)

  over : has_ended h (nat_le stop at) ≡ true
  over = over_at h kind stop at e done outer (head_of_tree here outer st.is_open)

  pub missing_tells : (r : FrameErr) → none_missing (groups_of kind) children ≡ false → r ≡ Bad (record { bit = stop; reason = Missing }) → Tells (root_of h outer) ds r
  missing_tells r few told =
      let isnt : is_enough (groups_of (kind_of_head h)) (forest children) ≡ false = ap (λ (j : Kind). is_enough (groups_of j) (forest children)) e ∙ sym (enough_is (groups_of kind) children) ∙ few in
      subst (Tells (root_of h outer) ds) (sym told) (fault_is ds here outer at Close stop Missing st (closing_turn here at (drop at ds) (rest_due h stop kind ws os (forest children) e) over) (missing_first here (length (here ∷ outer)) at (drop at ds) isnt))

  pub closes_here : none_missing (groups_of kind) children ≡ true → Closes ds here outer at
  closes_here enough =
      record { stands = st; ready = rest_due h stop kind ws os (forest children) e; over = over; enough = ap (λ (j : Kind). is_enough (groups_of j) (forest children)) e ∙ sym (enough_is (groups_of kind) children) ∙ enough }

-- ---- a child that ends after its field

no_tail : (k : ParamKind) → is_tv k ≡ true → as_read (tail_of (Parameter k)) [] ≡ None
no_tail k short = ap (λ (f : Tail). as_read f []) (tv_tail k short)

pub tv_stands : (ds : List Bool) (p : Begun) (outer : List Begun) (at : ℕ) (hb : Head) (stop : ℕ) (k : ParamKind) (ws os : List ℕ) (cs : List Tree) → os ≡ [] → cs ≡ []
    → kind_of_head hb ≡ Parameter k → is_tv k ≡ true → length ws ≡ length (plain (fields_of (Parameter k)))
    → IsAt ds (leading hb stop (spread (fields_of (Parameter k)) ws) ∷ p ∷ outer) at → IsAt ds (begin_node p.head p.stop p.fields p.tail (and p.children k ws os (forest cs)) ∷ outer) at
unfolding none_missing
tv_stands ds p outer at hb stop k ws os cs no_octets no_child e short l st =
    let here = subst (λ (t : Option (List ℕ)). IsAt ds (begin_node hb stop (spread (fields_of (Parameter k)) ws) t none ∷ p ∷ outer) at) (sym (no_tail k short)) st in
    let closes = closes_here ds hb stop (Parameter k) ws [] [] (p ∷ outer) at e here (inl short) (ap (λ (gs : List GroupRule). none_missing gs []) (tv_groups k short)) in
    rw (no_octets, no_child) (child_stands ds p outer at hb stop k ws [] none e l (ap (λ (t : Option (List ℕ)). unwrap_or t []) (no_tail k short)) closes)

-- ---- the frame

module _ (p : KindSet) (bytes : List ℕ) (limit v : ℕ) (k : MsgKind) (n id : ℕ) (s : HeaderSaysIn p limit (digits_of_bytes bytes) v k n id) (own : number (digits_of_bytes bytes) 16 32 ≡ length bytes) (ten : 10 ≤ length bytes) where
  pub is_length : n ≡ length bytes
  is_length = s.octets_is ∙ own

  pub frame_stands : IsAt (digits_of_bytes bytes) (leading (message v k n id) (8 * length bytes) [] ∷ []) (8 * 10)
  frame_stands =
      let long : length (digits_of_bytes bytes) ≡ 8 * n = length-bytes bytes ∙ ap (λ (x : ℕ). 8 * x) (sym is_length) in
      let st = header_stands p limit (digits_of_bytes bytes) v k n id s long (omega (arith, is_length, ten)) in
      subst (λ (x : ℕ). IsAt (digits_of_bytes bytes) (leading (message v k n id) (8 * x) [] ∷ []) 80) is_length st

  pub frame_begins : Begins bytes (Message k) 0 10 (length bytes)
  frame_begins = record { head = message v k n id; outer = []; of_kind = refl; at_level = refl; stands = frame_stands }

  pub within_limit : n ≤ limit
  within_limit = (let a = leb-true (number (digits_of_bytes bytes) 16 32) limit (all_hold (header_checks_in p limit (digits_of_bytes bytes)) s.passes).1.1.1.0 in omega (arith, s.octets_is))

  pub of_set : set_of_kind (Message k) ≡ p
  of_set = (message_found_in p (number (digits_of_bytes bytes) 6 10) k s.kind_is).0

  pub body_tells : (e : FrameErr) → Tells (set_of_kind (Message k)) (digits_of_bytes bytes) e → IsFirstIn p bytes limit e
  body_tells Memory f = tt
  body_tells (Bad x) f = fault_of_frame p limit bytes x.bit x.reason s.passes (subst (λ (q : KindSet). IsFaultOf q (digits_of_bytes bytes) x.bit x.reason) of_set f)

  pub body_is_frame : (ws os : List ℕ) (cs : Forest) (at : ℕ) → limit ≤ MAX_LIMIT → AreOctets bytes → length ws ≡ length (plain (fields_of (Message k))) → unwrap_or (as_read (tail_of (Message k)) os) [] ≡ os → Closes (digits_of_bytes bytes) (open_body (message v k n id) (8 * length bytes) (Message k) ws os cs) [] at
      → Frame (record { version = v; id = id; kind = k; fields = ws; tail = os; children = cs }) bytes limit
  body_is_frame ws os cs at le o l w c =
      let vs : List ℕ = spread (fields_of (Message k)) ws in
      let f = closes_frame limit bytes v k n id vs (as_read (tail_of (Message k)) os) cs at le o (sym is_length) within_limit (subst (λ (x : ℕ). Closes (digits_of_bytes bytes) (open_body (message v k n id) (8 * x) (Message k) ws os cs) [] at) (sym is_length) c) in
      subst (λ (x : List ℕ). Frame (record { version = v; id = id; kind = k; fields = ws; tail = x; children = cs }) bytes limit) w
      (subst (λ (x : List ℕ). Frame (record { version = v; id = id; kind = k; fields = x; tail = unwrap_or (as_read (tail_of (Message k)) os) []; children = cs }) bytes limit) (plain-spread_all (fields_of (Message k)) ws l) f)
