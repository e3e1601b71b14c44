-- Where a front of a frame does not decide the next checks of an open tree, it decides no fault of the frame.
use Rattle.std.proofs.Common.{◌≡◌, ℕ, zero, suc, ◌+◌, ◌-◌, ◌*◌, ◌<◌, ◌≤◌, Bool, true, false, inl, inr, List, [], ◌∷◌, ◌++◌, length, drop, Option, Some, None, refl, sym, ap, subst, ◌∙◌, arith, append_assoc, length-append, take-append-drop}
use Rattle.std.specs.Prelude.{nat_le, if◌then◌else◌}
use Rattle.std.proofs.lemmas.Bool.{cases_order}
use Rattle.std.proofs.lemmas.List.{append-nil, length-replicate}
use Rattle.std.proofs.Math.ListN.{replicate}
use Rattle.tag_bits.specs.Digits.{digits, digits_of_bytes}
use Rattle.tag_bits.proofs.DigitLemmas.{length-digits, take-seam}
use Rattle.llrp_schema.specs.declared.kinds.ParamKind.{ParamKind}
use Rattle.llrp_schema.specs.declared.kinds.Tail.{Tail}
use Rattle.llrp_schema.specs.declared.kinds.Tail.TheVariants.{Absent, Words, Text, Bits, Data}
use Rattle.llrp_schema.specs.Schema.{FieldRule, fields_of, tail_of}
use Rattle.llrp_tree.specs.declared.fault.Reason.{Reason}
use Rattle.llrp_tree.specs.Tree.{Forest, none}
use Rattle.llrp_tree.specs.Lawful.{count_octets}
use Rattle.llrp_tree.specs.Spelling.{Head, message, tlv, tv, head_digits, field_digits, forest_digits}
use Rattle.llrp_schema.specs.declared.kinds.KindSet.{KindSet}
use Rattle.llrp_tree.specs.OpenTree.{root_set, set, Begun, kind_of_head, groups, leading_digits, part, covers, Due, AField, ATail, Rest, due, plain_values, is_enough, IsHead, IsOpenTree}
use Rattle.llrp_tree.specs.Calls.OpenTree.{parts}
use Rattle.llrp_tree.specs.FirstFault.{number, tail_at, tail_end, tail_length, tv_kind, tlv_kind, tlv_octets, first_digit, first_failing, checks, NextPart, ReadField, ReadTail, Close, NoChild, BeginTv, BeginTlv, turn_of, next_part, has_ended, has_none, next_fault, header_checks_in, FirstFaultIn}
use Rattle.llrp_tree.specs.Calls.Standing.{end_of, IsAt, begin_node, leading}
use Rattle.llrp_tree.specs.Calls.Deciding.{deciding_tail, deciding_of, deciding, BodyFailsIn, FailsIn}
use Rattle.llrp_tree.proofs.ReadDigits.{length_covered, length-more, length-octets_at}
use Rattle.llrp_tree.proofs.LengthLemmas.{length-message_head, length-tlv, length-tv, length-tail_digits}
use Rattle.llrp_tree.proofs.Leading.{drop_all}
use Rattle.llrp_tree.proofs.Steps.{Step, Grows, begun_tv, begun_tlv, grown, unless_failed, next}
use Rattle.llrp_tree.proofs.LastPart.{field_covered, tail_covered}
use Rattle.llrp_tree.proofs.Openings.{begun_covered}
use Rattle.llrp_tree.proofs.Agreement.{shrinks, agree, IsEnd, not_both}
use Rattle.llrp_tree.proofs.Growing.{stops_within}
use Rattle.llrp_tree.proofs.Frames.{fails_next}
use Rattle.llrp_tree.proofs.Totality.{child_closes, as_leading, no_field_in, field_first, tail_first}

-- ---- what is decided is never before the tree's own end

either_most : (c : Bool) (x y most : ℕ) → x ≤ most → y ≤ most → (if c then x else y) ≤ most
either_most true x y most a b = a
either_most false x y most a b = b

either_least : (c : Bool) (x y least : ℕ) → least ≤ x → least ≤ y → least ≤ (if c then x else y)
either_least true x y least a b = a
either_least false x y least a b = b

tail_from : (form : Tail) (fields : List ℕ) (at stop : ℕ) (rest : List Bool) → at ≤ deciding_tail form fields at stop rest
tail_from Absent fields at stop rest = omega arith
tail_from Words fields at stop rest = either_least (nat_le (at + 16) stop) (if nat_le (tail_end Words fields at stop rest) stop then tail_end Words fields at stop rest else at + 16) at at (either_least (nat_le (tail_end Words fields at stop rest) stop) (tail_end Words fields at stop rest) (at + 16) at (omega arith) (omega arith)) (omega arith)
tail_from Text fields at stop rest = either_least (nat_le (at + 16) stop) (if nat_le (tail_end Text fields at stop rest) stop then tail_end Text fields at stop rest else at + 16) at at (either_least (nat_le (tail_end Text fields at stop rest) stop) (tail_end Text fields at stop rest) (at + 16) at (omega arith) (omega arith)) (omega arith)
tail_from Bits fields at stop rest = either_least (nat_le (tail_end Bits fields at stop rest) stop) (tail_end Bits fields at stop rest) at at (omega arith) (omega arith)
tail_from Data fields at stop rest = omega arith

tail_to : (form : Tail) (fields : List ℕ) (at stop : ℕ) (rest : List Bool) → deciding_tail form fields at stop rest ≤ tail_end form fields at stop rest
tail_to Absent fields at stop rest = omega arith
tail_to Words fields at stop rest = either_most (nat_le (at + 16) stop) (if nat_le (tail_end Words fields at stop rest) stop then tail_end Words fields at stop rest else at + 16) at (tail_end Words fields at stop rest) (either_most (nat_le (tail_end Words fields at stop rest) stop) (tail_end Words fields at stop rest) (at + 16) (tail_end Words fields at stop rest) (omega arith) (omega arith)) (omega arith)
tail_to Text fields at stop rest = either_most (nat_le (at + 16) stop) (if nat_le (tail_end Text fields at stop rest) stop then tail_end Text fields at stop rest else at + 16) at (tail_end Text fields at stop rest) (either_most (nat_le (tail_end Text fields at stop rest) stop) (tail_end Text fields at stop rest) (at + 16) (tail_end Text fields at stop rest) (omega arith) (omega arith)) (omega arith)
tail_to Bits fields at stop rest = either_most (nat_le (tail_end Bits fields at stop rest) stop) (tail_end Bits fields at stop rest) at (tail_end Bits fields at stop rest) (omega arith) (omega arith)
tail_to Data fields at stop rest = omega arith

turn_from : (tn : NextPart) (b : Begun) (at : ℕ) (rest : List Bool) → at ≤ deciding_of tn b at rest
turn_from (ReadField r) b at rest = either_least (nat_le (at + r.width) b.stop) (at + r.width) at at (omega arith) (omega arith)
turn_from ReadTail b at rest = tail_from _ _ at b.stop rest
turn_from Close b at rest = omega arith
turn_from NoChild b at rest = omega arith
turn_from BeginTv b at rest = omega arith
turn_from BeginTlv b at rest = either_least (nat_le (at + 32) b.stop) (at + 32) (at + 8) at (omega arith) (omega arith)

pub covered_decided : (t : List Begun) (rest : List Bool) → length (covers t) ≤ deciding t rest
unfolding deciding covers
covered_decided [] rest = omega arith
covered_decided (b ∷ outer) rest = turn_from (next_part b (length (covers (b ∷ outer))) rest) b (length (covers (b ∷ outer))) rest

-- ---- a step

-- the digits of a field more
one_more : (rules : List FieldRule) (fields : List ℕ) (v : ℕ) (r : FieldRule) (after : List FieldRule) → drop (length fields) rules ≡ r ∷ after → field_digits rules (fields ++ v ∷ []) ≡ field_digits rules fields ++ digits r.width v
one_more [] [] v r after e = absurd cc
one_more (q ∷ rules) [] v r after e = (let same : q ≡ r = cc in append-nil (digits q.width v) ∙ ap (λ (x : FieldRule). digits x.width v) same)
one_more [] (i ∷ fields) v r after e = absurd cc
one_more (q ∷ rules) (i ∷ fields) v r after e = ap (λ (x : List Bool). digits q.width i ++ x) (one_more rules fields v r after e) ∙ sym (append_assoc (digits q.width i) (field_digits rules fields) (digits r.width v))

-- digits that an open tree covers
stands_somewhere : (b : Begun) (outer : List Begun) → IsOpenTree (b ∷ outer) → (ds : List Bool) × IsAt ds (b ∷ outer) (length (covers (b ∷ outer)))
unfolding IsOpenTree
stands_somewhere b outer s =
    let read : List Bool = covers (b ∷ outer) in
    let left : ℕ = end_of (b ∷ outer) - length read in
    let more : List Bool = replicate left false in
    let long = length-append read more in
    let many = length-replicate left false in
    let within = stops_within b outer s in
    (read ++ more, record { is_open = s; covered = sym (take-seam (length read) read more refl); within = omega arith; ends = omega (arith, s.0.inside) })

module _ (b : Begun) (outer : List Begun) (rest : List Bool) (u : List Begun) (s : IsOpenTree (b ∷ outer)) where
  abbrev at : ℕ
  at = length (covers (b ∷ outer))

  grown_is : (t : List Begun) → Grows t ≡ Grows u → t ≡ u
  grown_is t e = cc

  on_field : (r : FieldRule) → due b ≡ AField r → grown (ReadField r) b outer at rest ≡ Grows u → deciding_of (ReadField r) b at rest ≤ length (covers u)
  unfolding due IsOpenTree
  on_field r d e =
      let v : ℕ = number rest 0 r.width in
      let rules : List FieldRule = fields_of (kind_of_head b.head) in
      let q = field_first (drop (length b.fields) rules) _ r d (no_field_in _ b.tail r) in
      let nt : b.tail ≡ None = elim s.0.tail_after [ inl x ↦ x | inr all ↦ absurd (let z = drop_all rules (length b.fields) all in let y : ◌≡◌ {A = List FieldRule} [] (r ∷ q.0) = sym z ∙ q.1 in cc) ] in
      let nc : b.children ≡ none = elim s.0.children_after [ inl x ↦ x | inr ready ↦ absurd (let y : AField r ≡ Rest = sym d ∙ ready in cc) ] in
      let was : length (covers (leading b.head b.stop b.fields ∷ outer)) ≡ at = ap (λ (x : Begun). length (covers (x ∷ outer))) (sym (as_leading b nt nc)) in
      let now = ap (λ (x : List Bool). length x) (field_covered b.head b.stop b.fields v outer [] r.width (one_more rules b.fields v r q.0 q.1)) ∙ length-more (covers (leading b.head b.stop b.fields ∷ outer)) (digits r.width v) r.width (length-digits r.width v) in
      let is : leading b.head b.stop (b.fields ++ v ∷ []) ∷ outer ≡ u = ap (λ (x : Begun). x ∷ outer) (sym (as_leading (record b { fields = b.fields ++ v ∷ [] }) nt nc)) ∙ grown_is _ e in
      let far = ap (λ (x : List Begun). length (covers x)) is in
      either_most (nat_le (at + r.width) b.stop) (at + r.width) at (length (covers u)) (omega arith) (omega arith)

  on_tail : due b ≡ ATail → grown ReadTail b outer at rest ≡ Grows u → deciding_of ReadTail b at rest ≤ length (covers u)
  unfolding due IsOpenTree
  on_tail d e =
      let form : Tail = tail_of (kind_of_head b.head) in
      let rules : List FieldRule = fields_of (kind_of_head b.head) in
      let plain : List ℕ = plain_values rules b.fields in
      let os : List ℕ = tail_at form plain (b.stop - at) rest in
      let q = tail_first (drop (length b.fields) rules) form b.tail d in
      let nc : b.children ≡ none = elim s.0.children_after [ inl x ↦ x | inr ready ↦ absurd (let y : ATail ≡ Rest = sym d ∙ ready in cc) ] in
      let was : length (covers (leading b.head b.stop b.fields ∷ outer)) ≡ at = ap (λ (x : Begun). length (covers (x ∷ outer))) (sym (as_leading b q.2 nc)) in
      let now = ap (λ (x : List Bool). length x) (tail_covered b.head b.stop b.fields os outer []) ∙ length-more (covers (leading b.head b.stop b.fields ∷ outer)) _ (8 * (count_octets form + length os)) (length-tail_digits form os) in
      let many = length-octets_at (tail_length form plain (b.stop - at) rest) (drop (8 * count_octets form) rest) in
      let is : begin_node b.head b.stop b.fields (Some os) none ∷ outer ≡ u = ap (λ (x : Forest). begin_node b.head b.stop b.fields (Some os) x ∷ outer) (sym nc) ∙ grown_is _ e in
      let far = ap (λ (x : List Begun). length (covers x)) is in
      let to = tail_to form plain at b.stop rest in
      omega arith

  on_tv : (found : Option ParamKind) → begun_tv found b outer ≡ Grows u → at + 8 ≤ length (covers u)
  on_tv None e = absurd cc
  on_tv (Some k) e =
      let now = ap (λ (x : List Bool). length x) (begun_covered b outer [] (tv k) b.stop) ∙ length-more (covers (b ∷ outer)) _ 8 (length-tv k) in
      let far = ap (λ (x : List Begun). length (covers x)) (grown_is _ e) in
      omega arith

  on_tlv : (found : Option ParamKind) (n : ℕ) → begun_tlv found n at b outer ≡ Grows u → at + 32 ≤ length (covers u)
  on_tlv None n e = absurd cc
  on_tlv (Some k) n e =
      let now = ap (λ (x : List Bool). length x) (begun_covered b outer [] (tlv k n) (at + 8 * n)) ∙ length-more (covers (b ∷ outer)) _ 32 (length-tlv k n) in
      let far = ap (λ (x : List Begun). length (covers x)) (grown_is _ e) in
      omega arith

enough_of : (enough : Bool) (stop : ℕ) (reason : Reason) → first_failing (Rattle.llrp_tree.specs.FirstFault.check enough stop reason ∷ []) ≡ None → enough ≡ true
enough_of true stop reason e = refl
enough_of false stop reason e = absurd cc

closing : (b : Begun) (outer : List Begun) (rest : List Bool) (u : List Begun) → IsOpenTree (b ∷ outer) → due b ≡ Rest → has_ended b.head (nat_le b.stop (length (covers (b ∷ outer)))) ≡ true → is_enough (groups b) b.children ≡ true
    → grown Close b outer (length (covers (b ∷ outer))) rest ≡ Grows u → length (covers (b ∷ outer)) ≤ length (covers u)
closing b [] rest u s d o enough e = absurd cc
closing b (p ∷ outer) rest u s d o enough e =
    let st = stands_somewhere b (p ∷ outer) s in
    let g = child_closes st.0 p.head p.stop p.fields p.tail p.children b.fields b.tail b.children outer (length (covers (b ∷ p ∷ outer))) b.head b.stop (record { stands = st.1; ready = d; over = o; enough = enough }) in
    let long = length_covered _ (length (covers (b ∷ p ∷ outer))) st.0 g.covered g.within in
    let far = ap (λ (x : List Begun). length (covers x)) (grown_is b (p ∷ outer) rest u s _ e) in
    omega arith

module _ (b : Begun) (outer : List Begun) (rest : List Bool) (u : List Begun) (s : IsOpenTree (b ∷ outer)) where
  abbrev here : ℕ
  here = length (covers (b ∷ outer))

  by_turn : (d : Due) (o n z : Bool) → due b ≡ d → has_ended b.head (nat_le b.stop here) ≡ o → first_failing (checks (turn_of d o n z) (length (b ∷ outer)) b here rest) ≡ None
      → grown (turn_of d o n z) b outer here rest ≡ Grows u → deciding_of (turn_of d o n z) b here rest ≤ length (covers u)
  unfolding checks
  by_turn (AField r) o n z ed eo p e = on_field b outer rest u s r ed e
  by_turn ATail o n z ed eo p e = on_tail b outer rest u s ed e
  by_turn Rest true n z ed eo p e = closing b outer rest u s ed eo (enough_of _ _ _ p) e
  by_turn Rest false true z ed eo p e = absurd cc
  by_turn Rest false false true ed eo p e = on_tv b outer rest u s (tv_kind (set b) rest) e
  by_turn Rest false false false ed eo p e = (let far = on_tlv b outer rest u s (tlv_kind (set b) rest) (tlv_octets rest) e in either_most (nat_le (here + 32) b.stop) (here + 32) (here + 8) (length (covers u)) far (omega arith))

  unfailed : (f : Option (ℕ × Reason)) (g : Step) → unless_failed f g ≡ Grows u → (f ≡ None) × (g ≡ Grows u)
  unfailed None g e = (refl, e)
  unfailed (Some f) g e = absurd cc

  -- a part that passes its checks is decided where it ends
  pub step_decided : next (b ∷ outer) rest ≡ Grows u → deciding (b ∷ outer) rest ≤ length (covers u)
  unfolding next next_fault deciding next_part
  step_decided e =
      let p = unfailed (first_failing (checks (next_part b here rest) (length (b ∷ outer)) b here rest)) (grown (next_part b here rest) b outer here rest) e in
      by_turn (due b) (has_ended b.head (nat_le b.stop here)) (has_none (groups b)) (first_digit rest) refl refl p.0 p.1

-- ---- an open tree with more parts

none_decided : (rest : List Bool) (most : ℕ) → deciding [] rest ≤ most
unfolding deciding
none_decided rest most = omega arith

tree_step : (t : List Begun) (rest : List Bool) (u : List Begun) → IsOpenTree t → next t rest ≡ Grows u → deciding t rest ≤ length (covers u)
tree_step [] rest u s e = none_decided rest (length (covers u))
tree_step (b ∷ outer) rest u s e = step_decided b outer rest u s e

-- an open tree with more parts covers what decides the next checks of one with fewer
later : (k n : ℕ) (u : List Begun) (after : List Bool) → IsOpenTree u → parts u ≡ suc (suc (k + n)) → (t : List Begun) (rest : List Bool) → IsOpenTree t → parts t ≡ suc n → root_set t ≡ root_set u → covers t ++ rest ≡ covers u ++ after → deciding t rest ≤ length (covers u)
later zero n u after su pu t rest st pt roots e =
    let a = shrinks u after n su (omega (arith, pu)) in
    let same = agree n t a.tree rest a.left st a.is_open pt a.fewer (roots ∙ sym a.root) (e ∙ sym a.same) in
    rw (same.0, same.1) (tree_step a.tree a.left u a.is_open a.step)
later (suc k) n u after su pu t rest st pt roots e =
    let a = shrinks u after (suc (k + n)) su (omega (arith, pu)) in
    let before = later k n a.tree a.left a.is_open a.fewer t rest st pt (roots ∙ sym a.root) (e ∙ sym a.same) in
    let own = covered_decided a.tree a.left in
    let step = tree_step a.tree a.left u a.is_open a.step in
    omega arith

some_part : (t : List Begun) (rest : List Bool) → 0 < deciding t rest → (n : ℕ) × (parts t ≡ suc n)
unfolding deciding parts
some_part [] rest lt = absurd (omega arith)
some_part (b ∷ outer) rest lt = (parts (b ∷ outer) - 1, omega arith)

-- ---- faults of a frame

module _ (p : KindSet) (limit : ℕ) (bytes : List ℕ) (octets : ℕ) (t : List Begun) (at : ℕ) (st : IsAt (digits_of_bytes bytes) t at) (r : root_set t ≡ p) where
  abbrev rest : List Bool
  rest = drop at (digits_of_bytes bytes)

  undecided_body : 8 * octets < deciding t rest → BodyFailsIn p limit bytes octets → ⊥
  undecided_body lt f =
      let u : List Begun = f.fault.tree in
      let after : List Bool = f.fault.rest in
      let e : covers t ++ rest ≡ covers u ++ after = ap (λ (x : List Bool). x ++ rest) st.covered ∙ take-append-drop at (digits_of_bytes bytes) ∙ sym f.fault.covered in
      let n = some_part t rest (omega arith) in
      let end = subst IsEnd (sym (fails_next u after f.bit f.reason f.fault.fails)) tt in
      let own = covered_decided u after in
      let decided = f.decided in
      elim (cases_order (parts t) (parts u)) [
        | inl same ↦
            let g = agree n.0 t u rest after st.is_open f.fault.is_open n.1 (sym same ∙ n.1) (r ∙ sym f.fault.root) e in
            let equal : deciding t rest ≡ deciding u after = ap (λ (x : List Begun). deciding x rest) g.0 ∙ ap (λ (x : List Bool). deciding u x) g.1 in
            absurd (omega arith)
        | inr (inl fewer) ↦
            let k : ℕ = parts u - parts t - 1 in
            let far = later k n.0 u after f.fault.is_open (omega (arith, n.1)) t rest st.is_open n.1 (r ∙ sym f.fault.root) e in
            absurd (omega arith)
        | inr (inr more) ↦ not_both u t after rest f.fault.is_open st.is_open (f.fault.root ∙ sym r) (sym e) end more
      ]

  -- where the next checks of an open tree are not decided by a frame's first octets, these decide no fault of the frame
  pub undecided_until : first_failing (header_checks_in p limit (digits_of_bytes bytes)) ≡ None → 8 * octets < deciding t rest → FailsIn p limit bytes octets → ⊥
  undecided_until passes lt (inl f) = f.0 passes
  undecided_until passes lt (inr f) = undecided_body lt f

-- ---- what a fault that is decided says of the frame

pub part_of : (h : Head) (stop : ℕ) → IsHead h stop [] → length (head_digits h) ≡ 80
part_of (message v k n id) stop i = length-message_head v k n id
part_of (tlv k n) stop i = absurd i
part_of (tv k) stop i = absurd i

-- an open tree covers the message's header
pub header_covered : (b : Begun) (outer : List Begun) → IsOpenTree (b ∷ outer) → 80 ≤ length (covers (b ∷ outer))
unfolding IsOpenTree covers part
header_covered b [] s =
    let own = part_of b.head b.stop s.0.head in
    let long = length-append (head_digits b.head) (leading_digits (kind_of_head b.head) b.fields b.tail ++ forest_digits b.children) in
    omega arith
header_covered b (p ∷ outer) s =
    let before = header_covered p outer s.1 in
    let long = length-append (covers (p ∷ outer)) (part b) in
    omega arith

header_decided : (t : List Begun) (rest : List Bool) (bit : ℕ) (reason : Reason) → IsOpenTree t → next_fault t rest ≡ Some (bit, reason) → 80 ≤ deciding t rest
unfolding next_fault
header_decided [] rest bit reason s e = absurd cc
header_decided (b ∷ outer) rest bit reason s e = (let a = header_covered b outer s in let d = covered_decided (b ∷ outer) rest in omega arith)

-- fewer octets than a header decide no fault
pub fails_after_header : (p : KindSet) (limit : ℕ) (frame : List ℕ) (octets : ℕ) → FailsIn p limit frame octets → 10 ≤ octets
fails_after_header p limit frame octets (inl f) = f.1
fails_after_header p limit frame octets (inr f) = (let d = header_decided f.fault.tree f.fault.rest f.bit f.reason f.fault.is_open f.fault.fails in omega (arith, f.decided))

-- a frame with a fault that is decided has a first fault
pub fails_first : (p : KindSet) (limit : ℕ) (frame : List ℕ) (octets : ℕ) → FailsIn p limit frame octets → (bit : ℕ) × (reason : Reason) × FirstFaultIn p frame limit bit reason
fails_first p limit frame octets (inl f) =
    (elim (first_failing (header_checks_in p limit (digits_of_bytes frame))) as (λ x. first_failing (header_checks_in p limit (digits_of_bytes frame)) ≡ x → (bit : ℕ) × (reason : Reason) × FirstFaultIn p frame limit bit reason) [
      | None ↦ λ e. absurd (f.0 e)
      | Some x ↦ λ e. (x.0, x.1, inl e)
    ]) refl
fails_first p limit frame octets (inr f) = (f.bit, f.reason, inr f.fault)

-- what decides the next checks, by what is read next
pub deciding_is : (b : Begun) (outer : List Begun) (at : ℕ) (rest : List Bool) (tn : NextPart) → length (covers (b ∷ outer)) ≡ at → next_part b at rest ≡ tn → deciding (b ∷ outer) rest ≡ deciding_of tn b at rest
unfolding deciding
deciding_is b outer at rest tn long e = ap (λ (n : ℕ). deciding_of (next_part b n rest) b n rest) long ∙ ap (λ (x : NextPart). deciding_of x b at rest) e
