-- From a reader's place on there is a fault, or the frame is a message's.
use Rattle.std.proofs.Common.{◌≡◌, ℕ, zero, suc, ◌+◌, ◌-◌, ◌*◌, ◌≤◌, ◌<◌, ◌⊎◌, inl, inr, Bool, true, false, List, [], ◌∷◌, ◌++◌, length, drop, Option, Some, None, refl, sym, ap, subst, ◌∙◌, arith, length-append}
use Rattle.std.specs.Prelude.{nat_le, is_some, unwrap_or}
use Rattle.std.proofs.lemmas.Bool.{leb-true, leb-false, eqb-true}
use Rattle.std.proofs.lemmas.List.{append-nil}
use Rattle.tag_bits.specs.Digits.{digits_of_bytes}
use Rattle.tag_bits.proofs.ByteLemmas.{length-bytes}
use Rattle.llrp_schema.specs.declared.kinds.MsgKind.{MsgKind}
use Rattle.llrp_schema.specs.declared.kinds.Kind.{Kind}
use Rattle.llrp_schema.specs.declared.kinds.Tail.{Tail}
use Rattle.llrp_schema.specs.declared.kinds.Tail.TheVariants.{Absent, Words, Text, Bits, Data}
use Rattle.llrp_schema.specs.Schema.{FieldRule, fields_of, tail_of, message_in, set_of_kind}
use Rattle.llrp_tree.specs.declared.TheConstants.{MAX_LIMIT}
use Rattle.llrp_tree.specs.declared.fault.Reason.{Reason}
use Rattle.llrp_tree.specs.Tree.{Forest, none, MessageTree}
use Rattle.llrp_tree.specs.Lawful.{octets, body_octets}
use Rattle.llrp_tree.specs.Spelling.{Head, message, tlv, tv, head_digits, forest_digits}
use Rattle.llrp_tree.specs.Frame.{Frame}
use Rattle.llrp_schema.specs.declared.kinds.KindSet.{KindSet}
use Rattle.llrp_schema.proofs.TableLaws.{message_found_in}
use Rattle.llrp_schema.specs.declared.kinds.Kind.TheVariants.{Message}
use Rattle.llrp_tree.specs.OpenTree.{root_of, set, Begun, kind_of_head, groups, leading_digits, part, covers, Due, AField, ATail, Rest, has_tail, tail_due, field_due, due, plain_values, IsHead, IsOpenNode, IsOpenTree}
use Rattle.llrp_tree.specs.FirstFault.{number, tail_at, tail_end, tv_kind, tlv_kind, tlv_octets, first_digit, Check, first_failing, kind_checks, checks, ReadField, ReadTail, Close, NoChild, BeginTv, BeginTlv, next_part, turn_of, has_ended, has_none, header_checks_in, FirstFaultIn}
use Rattle.llrp_tree.specs.Calls.Standing.{IsAt, begin_node, leading, HeaderSaysIn}
use Rattle.llrp_tree.specs.Private.Standing.{IsFaultOf, Closes}
use Rattle.llrp_tree.specs.FrameLaws.{IsWhole}
use Rattle.llrp_tree.proofs.Steps.{begin, closed}
use Rattle.llrp_tree.proofs.Leading.{drop_all, leading_length, wide_at}
use Rattle.llrp_tree.proofs.ReadDigits.{length_covered}
use Rattle.llrp_tree.proofs.LengthLemmas.{length-message_head, length-tlv, length-tv, length-body_digits, length-spell}
use Rattle.llrp_tree.proofs.WholeNodes.{are_rules, closed_digits, no_field_due}
use Rattle.llrp_tree.proofs.LawLemmas.{both}
use Rattle.llrp_tree.proofs.Growing.{grow_field, grow_tail, grow_tv, grow_tlv, close_tlv, close_tv}
use Rattle.llrp_tree.proofs.Telling.{AllHold, all_hold, tail_checked, kind_checked, fault_is}
use Rattle.llrp_tree.proofs.Frames.{header_stands, fault_of_frame, closes_frame}

-- ---- whole octets

-- a whole number of octets
abbrev pub IsOctets : ℕ → Type 0
IsOctets n = (k : ℕ) × (n ≡ 8 * k)

append_octets : (x y : List Bool) → IsOctets (length x) → IsOctets (length y) → IsOctets (length (x ++ y))
append_octets x y a b = (a.0 + b.0, omega (arith, length-append x y, a.1, b.1))

head_octets_are : (h : Head) → IsOctets (length (head_digits h))
head_octets_are (message v k n id) = (10, length-message_head v k n id)
head_octets_are (tlv k n) = (4, length-tlv k n)
head_octets_are (tv k) = (1, length-tv k)

-- a node of which all fields and the tail are read
part_octets : (b : Begun) (outer : List Begun) → IsOpenNode b outer → due b ≡ Rest → IsOctets (length (part b))
unfolding part due
part_octets b outer s d =
    let kind : Kind = kind_of_head b.head in
    let r = no_field_due (drop (length b.fields) (fields_of kind)) _ d in
    let plain : List ℕ = plain_values (fields_of kind) b.fields in
    let os : List ℕ = unwrap_or b.tail [] in
    let body : IsOctets (length (leading_digits kind b.fields b.tail)) = (body_octets kind os, ap (λ (x : List Bool). length x) (closed_digits kind b.fields b.tail s.fields r.0 r.1) ∙ length-body_digits kind plain os) in
    append_octets (head_digits b.head) (leading_digits kind b.fields b.tail ++ forest_digits b.children) (head_octets_are b.head)
    (append_octets (leading_digits kind b.fields b.tail) (forest_digits b.children) body (octets b.children, length-spell b.children))

pub parent_ready : (h : Head) (stop : ℕ) (p : Begun) (outer : List Begun) → IsHead h stop (p ∷ outer) → due p ≡ Rest
parent_ready (message v k n id) stop p outer f = absurd f
parent_ready (tlv k n) stop p outer f = f.may_begin.ready
parent_ready (tv k) stop p outer f = f.may_begin.ready

pub covered_octets : (b : Begun) (outer : List Begun) → IsOpenTree (b ∷ outer) → due b ≡ Rest → IsOctets (length (covers (b ∷ outer)))
unfolding IsOpenTree covers
covered_octets b [] s d = part_octets b [] s.0 d
covered_octets b (p ∷ outer) s d = append_octets (covers (p ∷ outer)) (part b) (covered_octets p outer s.1 (parent_ready b.head b.stop p outer s.0.head)) (part_octets b (p ∷ outer) s.0 d)

stop_in : (h : Head) (stop : ℕ) (p : Begun) (outer : List Begun) → IsHead h stop (p ∷ outer) → IsOctets (length (covers (p ∷ outer))) → IsOctets p.stop → IsOctets stop
stop_in (message v k n id) stop p outer f c ps = absurd f
stop_in (tlv k n) stop p outer f c ps = (c.0 + n, omega (arith, f.stops, c.1))
stop_in (tv k) stop p outer f c ps = (ps.0, f.stops ∙ ps.1)

first_stop : (h : Head) (stop : ℕ) → IsHead h stop [] → IsOctets stop
first_stop (message v k n id) stop f = (n, f.stops)
first_stop (tlv k n) stop f = absurd f
first_stop (tv k) stop f = absurd f

stop_octets : (b : Begun) (outer : List Begun) → IsOpenTree (b ∷ outer) → IsOctets b.stop
unfolding IsOpenTree
stop_octets b [] s = first_stop b.head b.stop s.0.head
stop_octets b (p ∷ outer) s = stop_in b.head b.stop p outer s.0.head (covered_octets p outer s.1 (parent_ready b.head b.stop p outer s.0.head)) (stop_octets p outer s.1)

-- where a child may begin before the stop an octet is left
pub octet_left : (ds : List Bool) (b : Begun) (outer : List Begun) (at : ℕ) → IsAt ds (b ∷ outer) at → due b ≡ Rest → at < b.stop → at + 8 ≤ b.stop
octet_left ds b outer at st d lt =
    let c = covered_octets b outer st.is_open d in
    let s = stop_octets b outer st.is_open in
    let long = length_covered (covers (b ∷ outer)) at ds st.covered st.within in
    let e : 8 * c.0 ≡ at = sym c.1 ∙ long in
    omega (arith, s.1, e)

-- ---- closings

at_stop : (ds : List Bool) (b : Begun) (outer : List Begun) (at : ℕ) → IsAt ds (b ∷ outer) at → nat_le b.stop at ≡ true → at ≡ b.stop
unfolding IsOpenTree
at_stop ds b outer at st e =
    let long = length_covered (covers (b ∷ outer)) at ds st.covered st.within in
    let inside = st.is_open.0.inside in
    let le = leb-true b.stop at e in
    omega arith

-- a child that closes is the last child of its parent
pub child_closes : (ds : List Bool) (h : Head) (stop : ℕ) (fs : List ℕ) (tl : Option (List ℕ)) (before : Forest) (vs : List ℕ) (tail : Option (List ℕ)) (cs : Forest) (outer : List Begun) (at : ℕ) (hb : Head) (stop_b : ℕ)
    → Closes ds (begin_node hb stop_b vs tail cs) (begin_node h stop fs tl before ∷ outer) at → IsAt ds (begin_node h stop fs tl (closed before hb vs tail cs) ∷ outer) at
unfolding IsOpenTree
child_closes ds h stop fs tl before vs tail cs outer at (message v k n id) stop_b c = absurd c.stands.is_open.0.head
child_closes ds h stop fs tl before vs tail cs outer at (tlv k n) stop_b c = close_tlv h stop fs tl before vs tail cs outer ds at k n stop_b c.stands c.ready (at_stop ds (begin_node (tlv k n) stop_b vs tail cs) (begin_node h stop fs tl before ∷ outer) at c.stands c.over) c.enough
child_closes ds h stop fs tl before vs tail cs outer at (tv k) stop_b c = close_tv h stop fs tl before vs tail cs outer ds at k stop_b c.stands c.ready c.enough

-- ---- what is due

pub as_leading : (b : Begun) → b.tail ≡ None → b.children ≡ none → b ≡ leading b.head b.stop b.fields
as_leading b e f = λ i. record { head = b.head; stop = b.stop; fields = b.fields; tail = e i; children = f i }

pub no_field_in : (form : Tail) (tail : Option (List ℕ)) (r : FieldRule) → tail_due form tail ≡ AField r → ⊥
no_field_in Absent None r e = cc
no_field_in Words None r e = cc
no_field_in Text None r e = cc
no_field_in Bits None r e = cc
no_field_in Data None r e = cc
no_field_in form (Some os) r e = cc

pub field_first : (rules : List FieldRule) (after : Due) (r : FieldRule) → field_due rules after ≡ AField r → (after ≡ AField r → ⊥) → (more : List FieldRule) × (rules ≡ r ∷ more)
field_first [] after r e none_due = absurd (none_due e)
field_first (q ∷ rules) after r e none_due = (rules, cc)

pub tail_first : (rules : List FieldRule) (form : Tail) (tail : Option (List ℕ)) → field_due rules (tail_due form tail) ≡ ATail → (rules ≡ []) × (has_tail form ≡ true) × (tail ≡ None)
tail_first (r ∷ rules) form tail e = absurd cc
tail_first [] Absent None e = absurd cc
tail_first [] Words None e = (refl, refl, refl)
tail_first [] Text None e = (refl, refl, refl)
tail_first [] Bits None e = (refl, refl, refl)
tail_first [] Data None e = (refl, refl, refl)
tail_first [] form (Some os) e = absurd cc

-- ---- one step after another

-- how many closings and tails are left at most
abbrev unread : Option (List ℕ) → ℕ
unread None = 1
unread (Some os) = 0

abbrev pub pending : List Begun → ℕ
pending [] = 0
pending (b ∷ outer) = pending outer + (1 + unread b.tail)

abbrev pub SomeFault : KindSet → List Bool → Type 0
SomeFault p ds = (bit : ℕ) × (reason : Reason) × IsFaultOf p ds bit reason

abbrev pub Ended : KindSet → List Bool → Type 0
Ended p ds = (b : Begun) × (at : ℕ) × Closes ds b [] at × (root_of b.head [] ≡ p)

module _ (ds : List Bool) where
  abbrev pub Goes : ℕ → Type 0
  Goes fuel = (b : Begun) (outer : List Begun) (at : ℕ) → IsAt ds (b ∷ outer) at → 3 * (length ds - at) + pending (b ∷ outer) < fuel → Ended (root_of b.head outer) ds ⊎ SomeFault (root_of b.head outer) ds

  on_field : (fuel : ℕ) → Goes fuel → (b : Begun) (outer : List Begun) (at : ℕ) (r : FieldRule) → IsAt ds (b ∷ outer) at → 3 * (length ds - at) + pending (b ∷ outer) < suc fuel → due b ≡ AField r
      → AllHold (checks (ReadField r) (length (b ∷ outer)) b at (drop at ds)) → Ended (root_of b.head outer) ds ⊎ SomeFault (root_of b.head outer) ds
  unfolding checks due IsOpenTree
  on_field fuel goes b outer at r st lt d p =
      let s = st.is_open.0 in
      let rules : List FieldRule = fields_of (kind_of_head b.head) in
      let q = field_first (drop (length b.fields) rules) (tail_due (tail_of (kind_of_head b.head)) b.tail) r d (no_field_in (tail_of (kind_of_head b.head)) b.tail r) in
      let nt : b.tail ≡ None = elim s.tail_after [ inl e ↦ e | inr all ↦ absurd (let z = drop_all rules (length b.fields) all in let y : ◌≡◌ {A = List FieldRule} [] (r ∷ q.0) = sym z ∙ q.1 in cc) ] in
      let nc : b.children ≡ none = elim s.children_after [ inl e ↦ e | inr rest ↦ absurd (let y : AField r ≡ Rest = sym d ∙ rest in cc) ] in
      let st2 : IsAt ds (leading b.head b.stop b.fields ∷ outer) at = subst (λ (x : Begun). IsAt ds (x ∷ outer) at) (as_leading b nt nc) st in
      let g = grow_field b.head b.stop b.fields outer ds at r q.0 st2 q.1 (leb-true (at + r.width) b.stop p.0) p.1.0 in
      let w = wide_at rules (length b.fields) r q.0 (are_rules (kind_of_head b.head)) q.1 in
      let same : unread b.tail ≡ 1 = ap unread nt in
      goes (leading b.head b.stop (b.fields ++ number (drop at ds) 0 r.width ∷ [])) outer (at + r.width) g (let a = g.within in omega arith)

  on_tail : (fuel : ℕ) → Goes fuel → (b : Begun) (outer : List Begun) (at : ℕ) → IsAt ds (b ∷ outer) at → 3 * (length ds - at) + pending (b ∷ outer) < suc fuel → due b ≡ ATail
      → AllHold (checks ReadTail (length (b ∷ outer)) b at (drop at ds)) → Ended (root_of b.head outer) ds ⊎ SomeFault (root_of b.head outer) ds
  unfolding checks due IsOpenTree
  on_tail fuel goes b outer at st lt d p =
      let s = st.is_open.0 in
      let rules : List FieldRule = fields_of (kind_of_head b.head) in
      let form : Tail = tail_of (kind_of_head b.head) in
      let plain : List ℕ = plain_values rules b.fields in
      let q = tail_first (drop (length b.fields) rules) form b.tail d in
      let nc : b.children ≡ none = elim s.children_after [ inl e ↦ e | inr rest ↦ absurd (let y : ATail ≡ Rest = sym d ∙ rest in cc) ] in
      let st2 : IsAt ds (leading b.head b.stop b.fields ∷ outer) at = subst (λ (x : Begun). IsAt ds (x ∷ outer) at) (as_leading b q.2 nc) st in
      let all = leading_length rules b.fields s.fields q.0 in
      let long = length_covered (covers (b ∷ outer)) at ds st.covered st.within in
      let told = tail_checked form plain at b.stop (drop at ds) (omega (arith, s.inside, long)) q.1 p in
      let g = grow_tail b.head b.stop b.fields outer ds at st2 all q.1 told.0 told.1 in
      let same : unread b.tail ≡ 1 = ap unread q.2 in
      goes (begin_node b.head b.stop b.fields (Some (tail_at form plain (b.stop - at) (drop at ds))) none) outer (tail_end form plain at b.stop (drop at ds)) g (let a = g.within in omega arith)

  on_close : (fuel : ℕ) → Goes fuel → (b : Begun) (outer : List Begun) (at : ℕ) → IsAt ds (b ∷ outer) at → 3 * (length ds - at) + pending (b ∷ outer) < suc fuel → due b ≡ Rest → has_ended b.head (nat_le b.stop at) ≡ true
      → AllHold (checks Close (length (b ∷ outer)) b at (drop at ds)) → Ended (root_of b.head outer) ds ⊎ SomeFault (root_of b.head outer) ds
  unfolding checks
  on_close fuel goes b [] at st lt d o p = inl (b, at, record { stands = st; ready = d; over = o; enough = p.0 }, refl)
  on_close fuel goes b (q ∷ outer) at st lt d o p =
      let c : Closes ds b (q ∷ outer) at = record { stands = st; ready = d; over = o; enough = p.0 } in
      let g = child_closes ds q.head q.stop q.fields q.tail q.children b.fields b.tail b.children outer at b.head b.stop c in
      goes (begin_node q.head q.stop q.fields q.tail (closed q.children b.head b.fields b.tail b.children)) outer at g (omega arith)

  no_child : (level : ℕ) (b : Begun) (at : ℕ) (rest : List Bool) → AllHold (checks NoChild level b at rest) → ⊥
  unfolding checks
  no_child level b at rest p = (let e : false ≡ true = p.0 in cc)

  on_tv : (fuel : ℕ) → Goes fuel → (b : Begun) (outer : List Begun) (at : ℕ) → IsAt ds (b ∷ outer) at → 3 * (length ds - at) + pending (b ∷ outer) < suc fuel → due b ≡ Rest → at < b.stop → first_digit (drop at ds) ≡ true
      → AllHold (checks BeginTv (length (b ∷ outer)) b at (drop at ds)) → Ended (root_of b.head outer) ds ⊎ SomeFault (root_of b.head outer) ds
  unfolding checks
  on_tv fuel goes b outer at st lt d before one p =
      let cs : List Check = kind_checks (tv_kind (set b) (drop at ds)) (groups b) b.children (length (b ∷ outer)) at (at + 1) in
      let k = kind_checked (tv_kind (set b) (drop at ds)) (groups b) b.children (length (b ∷ outer)) at (at + 1) [] (subst AllHold (sym (append-nil cs)) p) in
      let g = grow_tv b outer ds at k.kind st (octet_left ds b outer at st d before) one k.is (record { ready = d; has = k.has; more = k.takes }) k.deep in
      goes (begin (tv k.kind) b.stop) (b ∷ outer) (at + 8) g (let a = g.within in omega arith)

  on_tlv : (fuel : ℕ) → Goes fuel → (b : Begun) (outer : List Begun) (at : ℕ) → IsAt ds (b ∷ outer) at → 3 * (length ds - at) + pending (b ∷ outer) < suc fuel → due b ≡ Rest
      → AllHold (checks BeginTlv (length (b ∷ outer)) b at (drop at ds)) → Ended (root_of b.head outer) ds ⊎ SomeFault (root_of b.head outer) ds
  unfolding checks
  on_tlv fuel goes b outer at st lt d p =
      let n : ℕ = tlv_octets (drop at ds) in
      let k = kind_checked (tlv_kind (set b) (drop at ds)) (groups b) b.children (length (b ∷ outer)) at (at + 6) _ p.1.1 in
      let last = both (nat_le 4 n) (nat_le (at + 8 * n) b.stop) k.others.0 in
      let g = grow_tlv b outer ds at k.kind st (leb-true (at + 32) b.stop p.0) (eqb-true (number (drop at ds) 0 6) 0 p.1.0) k.is (record { ready = d; has = k.has; more = k.takes }) k.deep (leb-true 4 n last.0) (leb-true (at + 8 * n) b.stop last.1) in
      goes (begin (tlv k.kind n) (at + 8 * n)) (b ∷ outer) (at + 32) g (let a = g.within in omega arith)

  before_stop : (h : Head) (stop at : ℕ) → has_ended h (nat_le stop at) ≡ false → at < stop
  before_stop (message v k n id) stop at e = leb-false stop at e
  before_stop (tlv k n) stop at e = leb-false stop at e
  before_stop (tv k) stop at e = absurd cc

  by_turn : (fuel : ℕ) → Goes fuel → (b : Begun) (outer : List Begun) (at : ℕ) → IsAt ds (b ∷ outer) at → 3 * (length ds - at) + pending (b ∷ outer) < suc fuel
      → (d : Due) (o n z : Bool) → due b ≡ d → has_ended b.head (nat_le b.stop at) ≡ o → first_digit (drop at ds) ≡ z
      → AllHold (checks (turn_of d o n z) (length (b ∷ outer)) b at (drop at ds)) → Ended (root_of b.head outer) ds ⊎ SomeFault (root_of b.head outer) ds
  by_turn fuel goes b outer at st lt (AField r) o n z ed eo ez p = on_field fuel goes b outer at r st lt ed p
  by_turn fuel goes b outer at st lt ATail o n z ed eo ez p = on_tail fuel goes b outer at st lt ed p
  by_turn fuel goes b outer at st lt Rest true n z ed eo ez p = on_close fuel goes b outer at st lt ed eo p
  by_turn fuel goes b outer at st lt Rest false true z ed eo ez p = absurd (no_child (length (b ∷ outer)) b at (drop at ds) p)
  by_turn fuel goes b outer at st lt Rest false false true ed eo ez p = on_tv fuel goes b outer at st lt ed (before_stop b.head b.stop at eo) ez p
  by_turn fuel goes b outer at st lt Rest false false false ed eo ez p = on_tlv fuel goes b outer at st lt ed p

  pub decides : (fuel : ℕ) → Goes fuel
  unfolding next_part
  decides zero b outer at st lt = absurd (omega arith)
  decides (suc fuel) b outer at st lt =
      (let M : Option (ℕ × Reason) → Type 0 = λ x. first_failing (checks (next_part b at (drop at ds)) (length (b ∷ outer)) b at (drop at ds)) ≡ x → Ended (root_of b.head outer) ds ⊎ SomeFault (root_of b.head outer) ds in
      elim (first_failing (checks (next_part b at (drop at ds)) (length (b ∷ outer)) b at (drop at ds))) as M [
        | Some f ↦ λ e. inr (f.0, f.1, fault_is ds b outer at (next_part b at (drop at ds)) f.0 f.1 st refl e)
        | None ↦ λ e. by_turn fuel (decides fuel) b outer at st lt (due b) (has_ended b.head (nat_le b.stop at)) (has_none (groups b)) (first_digit (drop at ds)) refl refl refl (all_hold (checks (next_part b at (drop at ds)) (length (b ∷ outer)) b at (drop at ds)) e)
      ]) refl

-- ---- every frame is a message's or faulty

is_header : (found : Option MsgKind) → is_some found ≡ true → (kind : MsgKind) × (found ≡ Some kind)
is_header None e = absurd cc
is_header (Some kind) e = (kind, refl)

-- the message at the end of the digits
ended_frame : (limit : ℕ) (bytes : List ℕ) (h : Head) (stop : ℕ) (vs : List ℕ) (tail : Option (List ℕ)) (cs : Forest) (at : ℕ) → limit ≤ MAX_LIMIT → IsWhole bytes → length bytes ≤ limit
    → Closes (digits_of_bytes bytes) (begin_node h stop vs tail cs) [] at → (m : MessageTree) × Frame m bytes limit × (set_of_kind (Message m.kind) ≡ root_of h [])
unfolding IsOpenTree Rattle.llrp_tree.specs.Calls.Standing.end_of
ended_frame limit bytes (message v k n id) stop vs tail cs at le w fit c =
    let s = c.stands.is_open.0.head in
    let long = length-bytes bytes in
    let own : length bytes ≡ n = (let e : stop ≡ length (digits_of_bytes bytes) = c.stands.ends in omega (arith, s.stops)) in
    (_, closes_frame limit bytes v k n id vs tail cs at le w.octets own (omega (arith, own)) (subst (λ (x : ℕ). Closes (digits_of_bytes bytes) (begin_node (message v k n id) x vs tail cs) [] at) s.stops c), refl)
ended_frame limit bytes (tlv k n) stop vs tail cs at le w fit c = absurd c.stands.is_open.0.head
ended_frame limit bytes (tv k) stop vs tail cs at le w fit c = absurd c.stands.is_open.0.head

abbrev Outcome : KindSet → (limit : ℕ) → List ℕ → Type 0
Outcome p limit bytes = ((m : MessageTree) × Frame m bytes limit × (set_of_kind (Message m.kind) ≡ p)) ⊎ ((bit : ℕ) × (reason : Reason) × FirstFaultIn p bytes limit bit reason)

behind_header : (p : KindSet) (limit : ℕ) (bytes : List ℕ) → limit ≤ MAX_LIMIT → IsWhole bytes → first_failing (header_checks_in p limit (digits_of_bytes bytes)) ≡ None → Outcome p limit bytes
behind_header p limit bytes le w passes =
    let ds : List Bool = digits_of_bytes bytes in
    let held = all_hold (header_checks_in p limit ds) passes in
    let found = is_header (message_in p (number ds 6 10)) held.1.1.0 in
    let fit : length bytes ≤ limit = (let a = leb-true (number ds 16 32) limit held.1.1.1.0 in omega (arith, w.own_length)) in
    let long : length ds ≡ 8 * number ds 16 32 = length-bytes bytes ∙ ap (λ (n : ℕ). 8 * n) (sym w.own_length) in
    let h : HeaderSaysIn p limit ds (number ds 3 3) found.0 (number ds 16 32) (number ds 48 32) = record { passes = passes; version_is = refl; kind_is = found.1; octets_is = refl; id_is = refl } in
    let own : set_of_kind (Message found.0) ≡ p = (message_found_in p (number ds 6 10) found.0 found.1).0 in
    let b : Begun = leading (message (number ds 3 3) found.0 (number ds 16 32) (number ds 48 32)) (8 * number ds 16 32) [] in
    let st : IsAt ds (b ∷ []) 80 = header_stands p limit ds (number ds 3 3) found.0 (number ds 16 32) (number ds 48 32) h long (omega (arith, w.own_length, w.header)) in
    elim (decides ds (3 * (length ds - 80) + 3) b [] 80 st (omega arith)) [
      | inl e ↦ (let m = ended_frame limit bytes e.0.head e.0.stop e.0.fields e.0.tail e.0.children e.1 le w fit e.2 in inl (m.0, m.1, m.2 ∙ e.3 ∙ own))
      | inr f ↦ inr (f.0, f.1, fault_of_frame p limit bytes f.0 f.1 passes (subst (λ (q : KindSet). IsFaultOf q ds f.0 f.1) own f.2))
    ]

pub either : (p : KindSet) (limit : ℕ) → limit ≤ MAX_LIMIT → (bytes : List ℕ) → IsWhole bytes → ((m : MessageTree) × Frame m bytes limit × (set_of_kind (Message m.kind) ≡ p)) ⊎ ((bit : ℕ) × (reason : Reason) × FirstFaultIn p bytes limit bit reason)
either p limit le bytes w =
    (elim (first_failing (header_checks_in p limit (digits_of_bytes bytes))) as (λ x. first_failing (header_checks_in p limit (digits_of_bytes bytes)) ≡ x → Outcome p limit bytes) [
      | None ↦ λ e. behind_header p limit bytes le w e
      | Some f ↦ λ e. inr (f.0, f.1, inl e)
    ]) refl
