-- A frame's header and its end, and what two frames cannot share.
use Rattle.std.proofs.Common.{◌≡◌, ℕ, ◌*◌, ◌^◌, ◌<◌, ◌≤◌, Bool, true, ◌||◌, ◌⊎◌, inl, inr, List, [], ◌∷◌, ◌++◌, length, take, drop, Option, Some, None, refl, sym, ap, subst, ◌∙◌, arith, append_assoc, length-append, length-drop}
use Rattle.std.specs.Prelude.{nat_le, ◌==◌, is_some, unwrap_or}
use Rattle.std.proofs.lemmas.List.{append-nil, take-append-drop}
use Rattle.std.proofs.Math.Seq.{take-add, take-length}
use Rattle.std.proofs.lemmas.Bool.{le-leb, leb-true, eqb-true}
use Rattle.tag_bits.specs.Digits.{digits, digits_of_bytes}
use Rattle.tag_bits.proofs.ByteLemmas.{length-bytes, bytes-append}
use Rattle.llrp_schema.specs.declared.kinds.MsgKind.{MsgKind}
use Rattle.llrp_schema.specs.declared.kinds.Kind.TheVariants.{Message}
use Rattle.llrp_schema.specs.Schema.{set_of_kind, message_in as find_message, fields_of, tail_of, groups_of, number_of}
use Rattle.llrp_schema.proofs.TableLaws.{message_at_number, message_found_in, message_number_fits}
use Rattle.llrp_tree.specs.declared.TheConstants.{MAX_DEPTH, MAX_LIMIT}
use Rattle.llrp_tree.specs.declared.fault.Reason.{Reason}
use Rattle.llrp_tree.specs.declared.fault.Reason.TheVariants.{Reserved}
use Rattle.llrp_tree.specs.Tree.{Forest, none, and, MessageTree}
use Rattle.llrp_tree.specs.Lawful.{levels, message_octets, AreOctets, ArePlaced, AllLawful, IsLawfulMessage}
use Rattle.llrp_tree.specs.Spelling.{Head, message, tlv, tv, head_digits, spread, body_digits, forest_digits, message_digits}
use Rattle.llrp_tree.specs.Frame.{Frame}
use Rattle.llrp_schema.specs.declared.kinds.KindSet.{KindSet}
use Rattle.llrp_tree.specs.OpenTree.{Begun, leading_digits, part, covers, Rest, due, plain_values, IsReadTail, IsHeader, IsOpenTree}
use Rattle.llrp_tree.specs.Calls.OpenTree.{as_read}
use Rattle.llrp_tree.specs.FirstFault.{number, first_failing, Close, next_fault, header_checks_in, FirstFaultIn}
use Rattle.llrp_tree.specs.Calls.Standing.{end_of, IsAt, begin_node, leading, HeaderSaysIn}
use Rattle.llrp_tree.specs.Private.Standing.{IsFaultOf, Closes}
use Rattle.llrp_tree.proofs.Steps.{Fails, Ends, next}
use Rattle.llrp_tree.proofs.Leading.{plain-spread, leading_spread, length-spread, drop_all, plain_in_range}
use Rattle.llrp_tree.proofs.ReadDigits.{number_own, number_behind, length_covered, value_at, digits_take}
use Rattle.llrp_tree.proofs.GroupLemmas.{most_none, enough_from, enough_to}
use Rattle.llrp_tree.proofs.LengthLemmas.{length-message_head, length-body_digits, length-spell, length-message_digits}
use Rattle.llrp_tree.proofs.WholeNodes.{are_rules, read_body, read_is_rest, read_again, is_read_tail, closed_digits, no_field_due, whole_tail}
use Rattle.llrp_tree.proofs.LastPart.{next_is, closing_turn, closing_passes}
use Rattle.llrp_tree.proofs.Agreement.{IsEnd, one_end, version_small}
use Rattle.llrp_tree.proofs.Telling.{AllHold, all_hold}
use Rattle.llrp_tree.proofs.LawLemmas.{version_from as which_version, version_to as version_known}

-- ---- headers

passes : (p : KindSet) (limit : ℕ) (ds : List Bool) → (number ds 0 3 == 0) ≡ true → ((number ds 3 3 == 1) || (number ds 3 3 == 2)) ≡ true → is_some (find_message p (number ds 6 10)) ≡ true → nat_le (number ds 16 32) limit ≡ true
    → first_failing (header_checks_in p limit ds) ≡ None
passes p limit ds a b c d = rw (a, b, c, d) refl

pub header_spread : (v : ℕ) (k : MsgKind) (n id : ℕ) (x : List Bool) → head_digits (message v k n id) ++ x ≡ digits 3 0 ++ (digits 3 v ++ (digits 10 (number_of (Message k)) ++ (digits 32 n ++ (digits 32 id ++ x))))
unfolding head_digits
header_spread v k n id x = simp append_assoc

-- a message's header passes
header_passes : (p : KindSet) (limit v : ℕ) (k : MsgKind) (n id : ℕ) (x : List Bool) → (v ≡ 1) ⊎ (v ≡ 2) → n < 2 ^ 32 → n ≤ limit → set_of_kind (Message k) ≡ p → first_failing (header_checks_in p limit (head_digits (message v k n id) ++ x)) ≡ None
header_passes p limit v k n id x lv ln fit own =
    let t : ℕ = number_of (Message k) in
    let e : List Bool = digits 32 id ++ x in
    let d : List Bool = digits 32 n ++ e in
    let c : List Bool = digits 10 t ++ d in
    let b : List Bool = digits 3 v ++ c in
    let ds : List Bool = digits 3 0 ++ b in
    let small = version_small v lv in
    let r0 : number ds 0 3 ≡ 0 = number_own 3 0 b (omega arith) in
    let r1 : number ds 3 3 ≡ v = number_behind 3 0 0 3 b ∙ number_own 3 v c small in
    let r2 : number ds 6 10 ≡ t = number_behind 3 0 3 10 b ∙ number_behind 3 v 0 10 c ∙ number_own 10 t d (message_number_fits k) in
    let r3 : number ds 16 32 ≡ n = number_behind 3 0 13 32 b ∙ number_behind 3 v 10 32 c ∙ number_behind 10 t 0 32 d ∙ number_own 32 n e ln in
    subst (λ (y : List Bool). first_failing (header_checks_in p limit y) ≡ None) (sym (header_spread v k n id x))
    (passes p limit ds (ap (λ (m : ℕ). m == 0) r0) (ap (λ (m : ℕ). (m == 1) || (m == 2)) r1 ∙ version_known v lv) (ap is_some (ap (find_message p) r2 ∙ subst (λ q. find_message q (number_of (Message k)) ≡ Some k) own (message_at_number k))) (ap (λ (m : ℕ). nat_le m limit) r3 ∙ le-leb n limit fit))

-- ---- a message's frame as an open tree that is at its end

message_body : (m : MessageTree) → IsLawfulMessage m → leading_digits (Message m.kind) (spread (fields_of (Message m.kind)) m.fields) (as_read (tail_of (Message m.kind)) m.tail) ≡ body_digits (Message m.kind) m.fields m.tail
message_body m l = read_body (Message m.kind) m.fields m.tail l.obeys.form

pub few_levels : (f : Forest) → AllLawful f → levels f ≤ MAX_DEPTH
few_levels none l = omega arith
few_levels (and before k vs tail cs) l = let ih = few_levels before l.0 in omega (arith, l.1.deep)

abbrev pub whole : MessageTree → Begun
whole m = begin_node (message m.version m.kind (message_octets m) m.id) (8 * message_octets m) (spread (fields_of (Message m.kind)) m.fields) (as_read (tail_of (Message m.kind)) m.tail) m.children

whole_covers : (m : MessageTree) → IsLawfulMessage m → covers (whole m ∷ []) ≡ message_digits m
unfolding covers part
whole_covers m l = ap (λ (x : List Bool). head_digits (message m.version m.kind (message_octets m) m.id) ++ (x ++ forest_digits m.children)) (message_body m l)

whole_due : (m : MessageTree) → due (whole m) ≡ Rest
unfolding due
whole_due m = rw (drop_all (fields_of (Message m.kind)) (length (spread (fields_of (Message m.kind)) m.fields)) (length-spread (fields_of (Message m.kind)) m.fields)) (read_is_rest (tail_of (Message m.kind)) m.tail)

record Ending (b : Begun) (ds x : List Bool) : Type 0 where
  pub is_open : IsOpenTree (b ∷ [])
  pub covered : covers (b ∷ []) ≡ ds
  pub ends : next (b ∷ []) x ≡ Ends b

frame_ends : (m : MessageTree) (bytes : List ℕ) (limit : ℕ) (x : List Bool) → Frame m bytes limit → Ending (whole m) (digits_of_bytes bytes) x
unfolding IsOpenTree
frame_ends m bytes limit x f =
    let l = f.lawful in
    let n : ℕ = message_octets m in
    let c = whole_covers m l in
    let at : ℕ = length (covers (whole m ∷ [])) in
    let long : at ≡ 8 * n = ap (λ (y : List Bool). length y) c ∙ length-message_digits m in
    record {
      is_open = (record { head = record { known_version = l.version; octets_fit = omega (arith, l.long); id_fits = l.id; stops = refl }; fields = leading_spread (fields_of (Message m.kind)) m.fields (are_rules (Message m.kind)) l.obeys.ranges; tail = subst (λ (vs : List ℕ). IsReadTail (tail_of (Message m.kind)) vs (as_read (tail_of (Message m.kind)) m.tail)) (sym (plain-spread (fields_of (Message m.kind)) m.fields l.obeys.ranges)) (is_read_tail (tail_of (Message m.kind)) m.fields m.tail l.obeys.form l.obeys.bytes); filled = λ e. inr long; tail_after = inr (length-spread (fields_of (Message m.kind)) m.fields); children_after = inr (whole_due m); lawful = l.children; placed = l.obeys.placed; most = l.obeys.most; deep = omega (arith, few_levels m.children l.children); inside = omega (arith, long) }, tt);
      covered = c ∙ sym f.spelled;
      ends = next_is (whole m) [] x Close (closing_turn (whole m) at x (whole_due m) (le-leb (8 * n) at (omega (arith, long)))) (closing_passes (whole m) 1 at x (enough_to (groups_of (Message m.kind)) m.children l.obeys.least));
    }

-- ---- what two frames cannot share

-- the message of a begun one, or another where a parameter is begun
abbrev message_from : MessageTree → Head → List ℕ → Option (List ℕ) → Forest → MessageTree
message_from other (message v k n id) fields tail cs = record { version = v; id = id; kind = k; fields = plain_values (fields_of (Message k)) fields; tail = unwrap_or tail []; children = cs }
message_from other (tlv k n) fields tail cs = other
message_from other (tv k) fields tail cs = other

abbrev message_in : MessageTree → List Begun → MessageTree
message_in other [] = other
message_in other (b ∷ outer) = message_from other b.head b.fields b.tail b.children

message_back : (other m : MessageTree) → IsLawfulMessage m → message_in other (whole m ∷ []) ≡ m
message_back other m l =
    ap (λ (fields : List ℕ). let r : MessageTree = record { version = m.version; id = m.id; kind = m.kind; fields = fields; tail = unwrap_or (as_read (tail_of (Message m.kind)) m.tail) []; children = m.children } in r) (plain-spread (fields_of (Message m.kind)) m.fields l.obeys.ranges)
    ∙ ap (λ (tail : List ℕ). let r : MessageTree = record { version = m.version; id = m.id; kind = m.kind; fields = m.fields; tail = tail; children = m.children } in r) (read_again (tail_of (Message m.kind)) m.fields m.tail l.obeys.form)

no_bytes : (bytes : List ℕ) → digits_of_bytes bytes ≡ [] → bytes ≡ []
no_bytes [] e = refl
no_bytes (b ∷ bytes) e = absurd (let a = length-bytes (b ∷ bytes) in let z = ap (λ (x : List Bool). length x) e in omega arith)

pub no_prefix : (limit : ℕ) (bytes more : List ℕ) (m k : MessageTree) → set_of_kind (Message m.kind) ≡ set_of_kind (Message k.kind) → Frame m bytes limit → Frame k (bytes ++ more) limit → (m ≡ k) × (more ≡ [])
no_prefix limit bytes more m k roots f g =
    let x : List Bool = digits_of_bytes more in
    let a = frame_ends m bytes limit x f in
    let b = frame_ends k (bytes ++ more) limit [] g in
    let same = one_end (whole m ∷ []) (whole k ∷ []) x [] a.is_open b.is_open roots (ap (λ (y : List Bool). y ++ x) a.covered ∙ sym (bytes-append bytes more) ∙ sym b.covered ∙ sym (append-nil (covers (whole k ∷ [])))) (subst IsEnd (sym a.ends) tt) (subst IsEnd (sym b.ends) tt) in
    (sym (message_back m m f.lawful) ∙ ap (message_in m) same.0 ∙ message_back m k g.lawful, no_bytes more same.1)

pub fails_next : (t : List Begun) (r : List Bool) (bit : ℕ) (reason : Reason) → next_fault t r ≡ Some (bit, reason) → next t r ≡ Fails bit reason
unfolding next
fails_next t r bit reason e = rw e refl

abbrev fault_in : Option (ℕ × Reason) → ℕ × Reason
fault_in (Some f) = f
fault_in None = (0, Reserved)

same_fault : (a b : Option (ℕ × Reason)) (bit bit2 : ℕ) (reason reason2 : Reason) → a ≡ b → a ≡ Some (bit, reason) → b ≡ Some (bit2, reason2) → (bit ≡ bit2) × (reason ≡ reason2)
same_fault a b bit bit2 reason reason2 e x y =
    let z : ◌≡◌ {A = Option (ℕ × Reason)} (Some (bit, reason)) (Some (bit2, reason2)) = sym x ∙ e ∙ y in
    (ap (λ (o : Option (ℕ × Reason)). (fault_in o).0) z, ap (λ (o : Option (ℕ × Reason)). (fault_in o).1) z)

pub one_fault : (p : KindSet) (limit : ℕ) (bytes : List ℕ) (bit bit2 : ℕ) (reason reason2 : Reason) → FirstFaultIn p bytes limit bit reason → FirstFaultIn p bytes limit bit2 reason2 → (bit ≡ bit2) × (reason ≡ reason2)
one_fault p limit bytes bit bit2 reason reason2 (inl a) (inl b) = same_fault _ _ bit bit2 reason reason2 refl a b
one_fault p limit bytes bit bit2 reason reason2 (inl a) (inr b) = absurd (let h = b.header in cc)
one_fault p limit bytes bit bit2 reason reason2 (inr a) (inl b) = absurd (let h = a.header in cc)
one_fault p limit bytes bit bit2 reason reason2 (inr a) (inr b) =
    let x = fails_next a.tree a.rest bit reason a.fails in
    let y = fails_next b.tree b.rest bit2 reason2 b.fails in
    let same = one_end a.tree b.tree a.rest b.rest a.is_open b.is_open (a.root ∙ sym b.root) (a.covered ∙ sym b.covered) (subst IsEnd (sym x) tt) (subst IsEnd (sym y) tt) in
    same_fault (next_fault a.tree a.rest) (next_fault b.tree b.rest) bit bit2 reason reason2 (ap (λ (t : List Begun). next_fault t a.rest) same.0 ∙ ap (λ (r : List Bool). next_fault b.tree r) same.1) a.fails b.fails

pub not_both : (p : KindSet) (limit : ℕ) (bytes : List ℕ) (m : MessageTree) (bit : ℕ) (reason : Reason) → set_of_kind (Message m.kind) ≡ p → Frame m bytes limit → FirstFaultIn p bytes limit bit reason → ⊥
not_both p limit bytes m bit reason own f (inl a) =
    let l = f.lawful in
    let long : length bytes ≡ message_octets m = (let x = length-bytes bytes in let y = ap (λ (x : List Bool). length x) f.spelled in let z = length-message_digits m in omega arith) in
    let h : first_failing (header_checks_in p limit (digits_of_bytes bytes)) ≡ None = subst (λ (y : List Bool). first_failing (header_checks_in p limit y) ≡ None) (sym f.spelled) (header_passes p limit m.version m.kind (message_octets m) m.id (body_digits (Message m.kind) m.fields m.tail ++ forest_digits m.children) l.version (omega (arith, l.long)) (omega (arith, f.short, long)) own) in
    absurd (let z : ◌≡◌ {A = Option (ℕ × Reason)} None (Some (bit, reason)) = sym h ∙ a in cc)
not_both p limit bytes m bit reason own f (inr a) =
    let b = frame_ends m bytes limit [] f in
    let x = fails_next a.tree a.rest bit reason a.fails in
    let same = one_end a.tree (whole m ∷ []) a.rest [] a.is_open b.is_open (a.root ∙ sym own) (a.covered ∙ sym b.covered ∙ sym (append-nil (covers (whole m ∷ [])))) (subst IsEnd (sym x) tt) (subst IsEnd (sym b.ends) tt) in
    let z : Fails bit reason ≡ Ends (whole m) = sym x ∙ (ap (λ (t : List Begun). next t a.rest) same.0 ∙ ap (λ (r : List Bool). next (whole m ∷ []) r) same.1) ∙ b.ends in
    absurd cc

-- ---- where a reader begins and ends

-- the header is the first 80 digits
header_is : (ds : List Bool) (k : MsgKind) → 80 ≤ length ds → number ds 0 3 ≡ 0 → number_of (Message k) ≡ number ds 6 10 → head_digits (message (number ds 3 3) k (number ds 16 32) (number ds 48 32)) ≡ take 80 ds
unfolding head_digits
header_is ds k le z t =
    let a : digits 3 0 ≡ take 3 ds = ap (λ (n : ℕ). digits 3 n) (sym z) ∙ digits_take 3 ds (omega arith) in
    let b = digits_take 3 (drop 3 ds) (omega (arith, length-drop 3 ds)) in
    let c : digits 10 (number_of (Message k)) ≡ take 10 (drop 6 ds) = ap (λ (n : ℕ). digits 10 n) t ∙ digits_take 10 (drop 6 ds) (omega (arith, length-drop 6 ds)) in
    let d = digits_take 32 (drop 16 ds) (omega (arith, length-drop 16 ds)) in
    let e = digits_take 32 (drop 48 ds) (omega (arith, length-drop 48 ds)) in
    rw (a, b, c, d, e) (sym (take-add 48 32 ds ∙ ap (λ (x : List Bool). x ++ take 32 (drop 48 ds)) (take-add 16 32 ds ∙ ap (λ (x : List Bool). x ++ take 32 (drop 16 ds)) (take-add 6 10 ds ∙ ap (λ (x : List Bool). x ++ take 10 (drop 6 ds)) (take-add 3 3 ds)))))

module _ (p : KindSet) (limit : ℕ) (ds : List Bool) (v : ℕ) (k : MsgKind) (n id : ℕ) (h : HeaderSaysIn p limit ds v k n id) (long : length ds ≡ 8 * n) (ten : 10 ≤ n) where
  held : AllHold (header_checks_in p limit ds)
  held = all_hold (header_checks_in p limit ds) h.passes

  start_covers : covers (leading (message v k n id) (8 * n) [] ∷ []) ≡ take 80 ds
  unfolding covers part leading_digits forest_digits
  start_covers = append-nil (head_digits (message v k n id)) ∙ rw (h.version_is, h.octets_is, h.id_is) (header_is ds k (omega arith) (eqb-true (number ds 0 3) 0 held.0) ((message_found_in p (number ds 6 10) k h.kind_is).1))

  pub header_stands : IsAt ds (leading (message v k n id) (8 * n) [] ∷ []) 80
  unfolding IsOpenTree ArePlaced end_of
  header_stands =
      let ln : n < 2 ^ 32 = (let a = value_at 16 32 ds (omega arith) in omega (arith, h.octets_is)) in
      let li : id < 2 ^ 32 = (let a = value_at 48 32 ds (omega arith) in omega (arith, h.id_is)) in
      let l = length_covered (covers (leading (message v k n id) (8 * n) [] ∷ [])) 80 ds start_covers (omega arith) in
      let lv : (v ≡ 1) ⊎ (v ≡ 2) = subst (λ (x : ℕ). (x ≡ 1) ⊎ (x ≡ 2)) (sym h.version_is) (which_version (number ds 3 3) held.1.0) in
      record {
        is_open = (record { head = record { known_version = lv; octets_fit = ln; id_fits = li; stops = refl }; fields = tt; tail = tt; filled = λ e. inl refl; tail_after = inl refl; children_after = inl refl; lawful = tt; placed = tt; most = most_none (groups_of (Message k)); deep = omega arith; inside = omega arith }, tt);
        covered = start_covers;
        within = omega arith;
        ends = sym long;
      }

pub fault_of_frame : (p : KindSet) (limit : ℕ) (bytes : List ℕ) (bit : ℕ) (reason : Reason) → first_failing (header_checks_in p limit (digits_of_bytes bytes)) ≡ None → IsFaultOf p (digits_of_bytes bytes) bit reason → FirstFaultIn p bytes limit bit reason
fault_of_frame p limit bytes bit reason h x =
    inr (record { header = h; root = x.root; tree = x.tree; rest = drop x.at (digits_of_bytes bytes); is_open = x.stands.is_open; covered = ap (λ (y : List Bool). y ++ drop x.at (digits_of_bytes bytes)) x.stands.covered ∙ take-append-drop x.at (digits_of_bytes bytes); fails = x.fails })

-- a message of which all is read, where the digits end
pub closes_frame : (limit : ℕ) (bytes : List ℕ) (v : ℕ) (k : MsgKind) (n id : ℕ) (vs : List ℕ) (tail : Option (List ℕ)) (cs : Forest) (at : ℕ) → limit ≤ MAX_LIMIT → AreOctets bytes → length bytes ≡ n → n ≤ limit
    → Closes (digits_of_bytes bytes) (begin_node (message v k n id) (8 * n) vs tail cs) [] at → Frame (record { version = v; id = id; kind = k; fields = plain_values (fields_of (Message k)) vs; tail = unwrap_or tail []; children = cs }) bytes limit
unfolding IsOpenTree covers part due
closes_frame limit bytes v k n id vs tail cs at le os own fit c =
    let ds : List Bool = digits_of_bytes bytes in
    let s = c.stands.is_open.0 in
    let plain : List ℕ = plain_values (fields_of (Message k)) vs in
    let os' : List ℕ = unwrap_or tail [] in
    let m : MessageTree = record { version = v; id = id; kind = k; fields = plain; tail = os'; children = cs } in
    let f : IsHeader v n id (8 * n) = s.head in
    let r = no_field_due (drop (length vs) (fields_of (Message k))) _ c.ready in
    let w = whole_tail (tail_of (Message k)) plain tail s.tail r.1 in
    let body : leading_digits (Message k) vs tail ≡ body_digits (Message k) plain os' = closed_digits (Message k) vs tail s.fields r.0 r.1 in
    let long : length ds ≡ 8 * n = length-bytes bytes ∙ ap (λ (x : ℕ). 8 * x) own in
    let end : 8 * n ≤ at = leb-true (8 * n) at c.over in
    let all : take at ds ≡ ds = (let e : at ≡ length ds = omega (arith, c.stands.within, long, end) in ap (λ (j : ℕ). take j ds) e ∙ take-length ds) in
    let read : ds ≡ head_digits (message v k n id) ++ (body_digits (Message k) plain os' ++ forest_digits cs) = sym all ∙ sym c.stands.covered ∙ ap (λ (x : List Bool). head_digits (message v k n id) ++ (x ++ forest_digits cs)) body in
    let is_size : n ≡ message_octets m =
    (let a = length-append (head_digits (message v k n id)) (body_digits (Message k) plain os' ++ forest_digits cs) in
    let b = length-append (body_digits (Message k) plain os') (forest_digits cs) in
    let total = ap (λ (x : List Bool). length x) read in
    omega (arith, a, b, total, long, length-message_head v k n id, length-body_digits (Message k) plain os', length-spell cs)) in
    record {
      lawful = record {
        version = f.known_version;
        id = f.id_fits;
        obeys = record { ranges = plain_in_range (fields_of (Message k)) vs s.fields r.0; form = w.0; bytes = w.1; placed = s.placed; most = s.most; least = enough_from (groups_of (Message k)) cs c.enough };
        children = s.lawful;
        long = omega (arith, is_size, fit, le);
      };
      octets = os;
      spelled = read ∙ ap (λ (j : ℕ). head_digits (message v k j id) ++ (body_digits (Message k) plain os' ++ forest_digits cs)) is_size;
      short = omega (arith, own, fit);
    }
