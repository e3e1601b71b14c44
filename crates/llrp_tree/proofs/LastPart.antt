-- An open tree that has more than its first head came by one step from one with a part less.
use Rattle.std.proofs.Common.{◌≡◌, ℕ, ◌+◌, ◌-◌, ◌*◌, ◌/◌, ◌≤◌, max, Bool, true, false, inl, inr, List, [], ◌∷◌, ◌++◌, length, take, drop, Option, Some, None, refl, sym, ap, subst, ◌∙◌, arith, append_assoc, length-append}
use Rattle.std.specs.Prelude.{nat_le, unwrap_or}
use Rattle.std.proofs.lemmas.List.{append-nil}
use Rattle.std.proofs.lemmas.Bool.{le-leb}
use Rattle.std.proofs.lemmas.Str.{is_utf8-from_IsUtf8}
use Rattle.tag_bits.specs.Digits.{value, digits, digits_of_bytes}
use Rattle.tag_bits.proofs.DigitLemmas.{length-digits}
use Rattle.llrp_schema.specs.declared.kinds.ParamKind.{ParamKind}
use Rattle.llrp_schema.specs.declared.kinds.Kind.{Kind}
use Rattle.llrp_schema.specs.declared.kinds.Kind.TheVariants.{Parameter}
use Rattle.llrp_schema.specs.declared.kinds.Tail.{Tail}
use Rattle.llrp_schema.specs.declared.kinds.Tail.TheVariants.{Absent, Words, Text, Bits, Data}
use Rattle.llrp_schema.specs.Schema.{set_of_kind, FieldRule, fields_of, tail_of, groups_of, is_tv}
use Rattle.llrp_schema.proofs.TableLaws.{tv_tail}
use Rattle.llrp_tree.specs.declared.TheConstants.{MAX_DEPTH}
use Rattle.llrp_tree.specs.declared.fault.Reason.{Reason}
use Rattle.llrp_tree.specs.Tree.{Forest, none, and}
use Rattle.llrp_tree.specs.Lawful.{levels, octets, head_octets, body_octets, count_octets, AreOctets, IsTail, ArePlaced, Obeys, AreLawful, AllLawful}
use Rattle.llrp_tree.specs.Spelling.{Head, tlv, tv, head_digits, head_of, spread, field_digits, tail_digits, body_digits, forest_digits}
use Rattle.llrp_tree.specs.OpenTree.{root_set, Begun, kind_of_head, form, groups, leading_digits, part, covers, Rest, has_tail, due, in_range, plain_values, is_enough, MayBegin, IsHead, IsOpenNode, IsOpenTree}
use Rattle.llrp_tree.specs.Calls.OpenTree.{tail_parts, as_read, whole_parts, parts}
use Rattle.llrp_tree.specs.FirstFault.{number, octets_at, tail_length, tail_at, tail_end, first_failing, tail_checks, checks, NextPart, ReadField, ReadTail, Close, next_part, has_ended, next_fault}
use Rattle.llrp_tree.proofs.Leading.{last_field, drop_all, length-spread, plain-spread, leading_spread}
use Rattle.llrp_tree.proofs.ReadDigits.{drop_own, number_own, length-more, octets_again}
use Rattle.llrp_tree.proofs.GroupLemmas.{most_before, takes_one_more, enough_to}
use Rattle.llrp_tree.proofs.LengthLemmas.{length-tlv, length-tail_digits, length-body_digits, length-spell}
use Rattle.llrp_tree.proofs.WholeNodes.{are_rules, read_is_rest, read_again, is_read_tail, read_body, data_childless}
use Rattle.llrp_tree.proofs.Steps.{Grows, closed, unless_failed, grown, next}

-- the tree with a part less
pub record Before (t : List Begun) (rest : List Bool) (n : ℕ) : Type 0 where
  pub tree : List Begun
  pub left : List Bool
  pub is_open : IsOpenTree tree
  pub same : covers tree ++ left ≡ covers t ++ rest
  pub step : next tree left ≡ Grows t
  pub fewer : parts tree ≡ n
  pub root : root_set tree ≡ root_set t

-- the message stays where the innermost node changes
pub same_root : (b c : Begun) (outer : List Begun) → kind_of_head b.head ≡ kind_of_head c.head → root_set (b ∷ outer) ≡ root_set (c ∷ outer)
same_root b c [] e = ap set_of_kind e
same_root b c (p ∷ outer) e = refl

pub inner_root : (b p : Begun) (outer : List Begun) → root_set (b ∷ p ∷ outer) ≡ root_set (p ∷ outer)
inner_root b p outer = refl

pub next_is : (b : Begun) (outer : List Begun) (rest : List Bool) (tn : NextPart)
    → next_part b (length (covers (b ∷ outer))) rest ≡ tn
    → first_failing (checks tn (length (b ∷ outer)) b (length (covers (b ∷ outer))) rest) ≡ None
    → next (b ∷ outer) rest ≡ grown tn b outer (length (covers (b ∷ outer))) rest
unfolding next next_fault
next_is b outer rest tn e passes =
    let at = length (covers (b ∷ outer)) in
    subst (λ (u : NextPart). first_failing (checks u (length (b ∷ outer)) b at rest) ≡ None → unless_failed (first_failing (checks u (length (b ∷ outer)) b at rest)) (grown u b outer at rest) ≡ grown tn b outer at rest) (sym e) (λ p. ap (λ (f : Option (ℕ × Reason)). unless_failed f (grown tn b outer at rest)) p) (subst (λ (u : NextPart). first_failing (checks u (length (b ∷ outer)) b at rest) ≡ None) (sym e) passes)

-- ---- the last part is a field

module _ (h : Head) (stop : ℕ) (init : List ℕ) (v : ℕ) (outer : List Begun) (rest : List Bool) where
  abbrev pub with_fields : List ℕ → Begun
  with_fields vs = record { head = h; stop = stop; fields = vs; tail = None; children = none }

  pub field_covered : (w : ℕ) → field_digits (fields_of (kind_of_head h)) (init ++ v ∷ []) ≡ field_digits (fields_of (kind_of_head h)) init ++ digits w v
      → covers (with_fields (init ++ v ∷ []) ∷ outer) ≡ covers (with_fields init ∷ outer) ++ digits w v
  unfolding covers part leading_digits forest_digits
  field_covered w e = rw e (simp (append_assoc, append-nil))

  pub field_turn : (r : FieldRule) (after : List FieldRule) → drop (length init) (fields_of (kind_of_head h)) ≡ r ∷ after → (at : ℕ) (ds : List Bool) → next_part (with_fields init) at ds ≡ ReadField r
  unfolding next_part due
  field_turn r after e at ds = rw e refl

  field_passes : (r : FieldRule) (at : ℕ) (ds : List Bool) → at + r.width ≤ stop → in_range r (number ds 0 r.width) ≡ true
      → first_failing (checks (ReadField r) (length (with_fields init ∷ outer)) (with_fields init) at ds) ≡ None
  unfolding checks
  field_passes r at ds le fit = rw (le-leb (at + r.width) stop le, fit) refl

  pub field_before : IsOpenNode (with_fields (init ++ v ∷ [])) outer → IsOpenTree outer → Before (with_fields (init ++ v ∷ []) ∷ outer) rest (parts outer + (1 + length init))
  unfolding IsOpenTree parts whole_parts
  field_before s outer_open =
      let l = last_field (fields_of (kind_of_head h)) init v s.fields in
      let w : ℕ = l.rule.width in
      let c : covers (with_fields (init ++ v ∷ []) ∷ outer) ≡ covers (with_fields init ∷ outer) ++ digits w v = field_covered w l.spelled in
      let long : length (covers (with_fields (init ++ v ∷ []) ∷ outer)) ≡ length (covers (with_fields init ∷ outer)) + w = ap (λ (x : List Bool). length x) c ∙ length-more (covers (with_fields init ∷ outer)) (digits w v) w (length-digits w v) in
      let in_time : length (covers (with_fields init ∷ outer)) + w ≤ stop = omega (arith, s.inside, long) in
      let read : number (digits w v ++ rest) 0 w ≡ v = number_own w v rest l.below in
      record {
        tree = with_fields init ∷ outer;
        left = digits w v ++ rest;
        is_open = (record { head = s.head; fields = l.leading; tail = tt; filled = λ e. inl refl; tail_after = inl refl; children_after = inl refl; lawful = s.lawful; placed = s.placed; most = s.most; deep = s.deep; inside = omega arith }, outer_open);
        same = rw c (sym (append_assoc (covers (with_fields init ∷ outer)) (digits w v) rest));
        step = next_is (with_fields init) outer (digits w v ++ rest) (ReadField l.rule) (field_turn l.rule l.after l.at (length (covers (with_fields init ∷ outer))) (digits w v ++ rest)) (field_passes l.rule (length (covers (with_fields init ∷ outer))) (digits w v ++ rest) in_time (ap (in_range l.rule) read ∙ l.fit))
            ∙ ap (λ (u : ℕ). Grows (with_fields (init ++ u ∷ []) ∷ outer)) read;
        fewer = omega arith;
        root = same_root (with_fields init) (with_fields (init ++ v ∷ [])) outer refl;
      }

-- ---- the last part is a tail

pub tail_passes : (form : Tail) (fields : List ℕ) (at stop : ℕ) (ds : List Bool) → has_tail form ≡ true → tail_end form fields at stop ds ≤ stop → IsTail form fields (tail_at form fields (stop - at) ds) → first_failing (tail_checks form fields at stop ds) ≡ None
tail_passes Absent fields at stop ds e le t = absurd cc
tail_passes Words fields at stop ds e le t = rw (le-leb (at + 16) stop (omega arith), le-leb (tail_end Words fields at stop ds) stop le) refl
tail_passes Text fields at stop ds e le t = rw (le-leb (at + 16) stop (omega arith), le-leb (tail_end Text fields at stop ds) stop le, is_utf8-from_IsUtf8 (tail_at Text fields (stop - at) ds) t.1) refl
tail_passes Bits fields at stop ds e le t = rw (le-leb (tail_end Bits fields at stop ds) stop le) refl
tail_passes Data fields at stop ds e le t = refl

-- a tail is read as it is spelled
pub tail_length_again : (form : Tail) (fields os : List ℕ) (room : ℕ) (rest : List Bool) → IsTail form fields os → (form ≡ Data → room ≡ 8 * length os) → tail_length form fields room (tail_digits form os ++ rest) ≡ length os
tail_length_again Absent fields os room rest t full = sym (ap (λ (x : List ℕ). length x) t)
tail_length_again Words fields os room rest t full =
    let m : number (tail_digits Words os ++ rest) 0 16 ≡ length os / 2 = ap (λ (x : List Bool). value (take 16 x)) (append_assoc (digits 16 (length os / 2)) (digits_of_bytes os) rest) ∙ number_own 16 (length os / 2) (digits_of_bytes os ++ rest) (omega (arith, t.1, t.2)) in
    omega (arith, m, t.2)
tail_length_again Text fields os room rest t full = ap (λ (x : List Bool). value (take 16 x)) (append_assoc (digits 16 (length os)) (digits_of_bytes os) rest) ∙ number_own 16 (length os) (digits_of_bytes os ++ rest) (omega (arith, t.0))
tail_length_again Bits fields os room rest t full = sym t
tail_length_again Data fields os room rest t full = (let all = full refl in omega arith)

behind_count : (form : Tail) (os : List ℕ) (rest : List Bool) → drop (8 * count_octets form) (tail_digits form os ++ rest) ≡ digits_of_bytes os ++ rest
behind_count Absent os rest = refl
behind_count Words os rest = ap (λ (x : List Bool). drop 16 x) (append_assoc (digits 16 (length os / 2)) (digits_of_bytes os) rest) ∙ drop_own 16 (length os / 2) (digits_of_bytes os ++ rest)
behind_count Text os rest = ap (λ (x : List Bool). drop 16 x) (append_assoc (digits 16 (length os)) (digits_of_bytes os) rest) ∙ drop_own 16 (length os) (digits_of_bytes os ++ rest)
behind_count Bits os rest = refl
behind_count Data os rest = refl

pub tail_again : (form : Tail) (fields os : List ℕ) (room : ℕ) (rest : List Bool) → IsTail form fields os → (form ≡ Data → room ≡ 8 * length os) → AreOctets os → tail_at form fields room (tail_digits form os ++ rest) ≡ os
tail_again form fields os room rest t full o =
    ap (λ (n : ℕ). octets_at n (drop (8 * count_octets form) (tail_digits form os ++ rest))) (tail_length_again form fields os room rest t full)
    ∙ ap (λ (x : List Bool). octets_at (length os) x) (behind_count form os rest)
    ∙ octets_again os rest o

module _ (h : Head) (stop : ℕ) (vs : List ℕ) (os : List ℕ) (outer : List Begun) (rest : List Bool) where
  abbrev pub with_tail : Option (List ℕ) → Begun
  with_tail t = record { head = h; stop = stop; fields = vs; tail = t; children = none }

  pub tail_covered : covers (with_tail (Some os) ∷ outer) ≡ covers (with_tail None ∷ outer) ++ tail_digits (tail_of (kind_of_head h)) os
  unfolding covers part leading_digits forest_digits
  tail_covered = simp (append_assoc, append-nil)

  pub tail_turn : (at : ℕ) (ds : List Bool) → drop (length vs) (fields_of (kind_of_head h)) ≡ [] → has_tail (tail_of (kind_of_head h)) ≡ true → next_part (with_tail None) at ds ≡ ReadTail
  unfolding next_part due
  tail_turn at ds e f = rw (e, f) refl

  tail_passes_here : (at : ℕ) (ds : List Bool) → first_failing (tail_checks (tail_of (kind_of_head h)) (plain_values (fields_of (kind_of_head h)) vs) at stop ds) ≡ None → first_failing (checks ReadTail (length (with_tail None ∷ outer)) (with_tail None) at ds) ≡ None
  unfolding checks
  tail_passes_here at ds e = e

  pub tail_before : IsOpenNode (with_tail (Some os)) outer → IsOpenTree outer → length vs ≡ length (fields_of (kind_of_head h))
      → Before (with_tail (Some os) ∷ outer) rest (parts outer + (1 + length vs))
  unfolding IsOpenTree parts whole_parts
  tail_before s outer_open all_fields =
      let t = s.tail in
      let f : Tail = tail_of (kind_of_head h) in
      let plain : List ℕ = plain_values (fields_of (kind_of_head h)) vs in
      let at : ℕ = length (covers (with_tail None ∷ outer)) in
      let ds : List Bool = tail_digits f os ++ rest in
      let long : length (covers (with_tail (Some os) ∷ outer)) ≡ at + 8 * (count_octets f + length os) = ap (λ (x : List Bool). length x) tail_covered ∙ length-more (covers (with_tail None ∷ outer)) (tail_digits f os) (8 * (count_octets f + length os)) (length-tail_digits f os) in
      let full : f ≡ Data → stop - at ≡ 8 * length os = λ e. elim (s.filled e) [ inl bad ↦ absurd cc | inr is ↦ (let uncounted = ap count_octets e in omega (arith, is, long, uncounted)) ] in
      let many = tail_length_again f plain os (stop - at) rest t.1 full in
      let again = tail_again f plain os (stop - at) rest t.1 full t.2 in
      let in_time : tail_end f plain at stop ds ≤ stop = omega (arith, s.inside, long, many) in
      record {
        tree = with_tail None ∷ outer;
        left = ds;
        is_open = (record { head = s.head; fields = s.fields; tail = tt; filled = λ e. inl refl; tail_after = inl refl; children_after = inl refl; lawful = s.lawful; placed = s.placed; most = s.most; deep = s.deep; inside = omega (arith, s.inside, long) }, outer_open);
        same = rw tail_covered (sym (append_assoc (covers (with_tail None ∷ outer)) (tail_digits f os) rest));
        step = next_is (with_tail None) outer ds ReadTail (tail_turn at ds (drop_all (fields_of (kind_of_head h)) (length vs) all_fields) t.0) (tail_passes_here at ds (tail_passes f plain at stop ds t.0 in_time (subst (λ (x : List ℕ). IsTail f plain x) (sym again) t.1)))
            ∙ ap (λ (u : List ℕ). Grows (with_tail (Some u) ∷ outer)) again;
        fewer = omega arith;
        root = same_root (with_tail None) (with_tail (Some os)) outer refl;
      }

-- ---- the last part is the closing of the last child

regroup : (a b c d x : List Bool) → (a ++ (b ++ (c ++ d))) ++ x ≡ a ++ (b ++ (c ++ (d ++ x)))
regroup a b c d x = simp append_assoc

pub closing_turn : (b : Begun) (at : ℕ) (ds : List Bool) → due b ≡ Rest → has_ended b.head (nat_le b.stop at) ≡ true → next_part b at ds ≡ Close
unfolding next_part
closing_turn b at ds d o = rw (d, o) refl

pub closing_passes : (b : Begun) (level at : ℕ) (ds : List Bool) → is_enough (groups b) b.children ≡ true → first_failing (checks Close level b at ds) ≡ None
unfolding checks
closing_passes b level at ds e = rw e refl

-- a parameter of this many octets
abbrev pub size : ParamKind → List ℕ → Forest → ℕ
size k tail cs = head_octets k + body_octets (Parameter k) tail + octets cs

-- a child that is read covers what it does once it is closed
pub closed_covered : (h : Head) (stop : ℕ) (fs : List ℕ) (tl : Option (List ℕ)) (before : Forest) (outer : List Begun) (hb : Head) (stop_b : ℕ) (read : List ℕ) (read_tail : Option (List ℕ)) (k : ParamKind) (vs tail : List ℕ) (cs : Forest)
    → hb ≡ head_of k (size k tail cs) → leading_digits (kind_of_head hb) read read_tail ≡ body_digits (Parameter k) vs tail
    → covers (record { head = hb; stop = stop_b; fields = read; tail = read_tail; children = cs } ∷ record { head = h; stop = stop; fields = fs; tail = tl; children = before } ∷ outer)
    ≡ covers (record { head = h; stop = stop; fields = fs; tail = tl; children = and before k vs tail cs } ∷ outer)
unfolding covers part forest_digits
closed_covered h stop fs tl before outer hb stop_b read read_tail k vs tail cs e b =
    let x = leading_digits (kind_of_head h) fs tl in
    let l = leading_digits (kind_of_head hb) read read_tail in
    regroup (covers outer) (head_digits h) x (forest_digits before) (head_digits hb ++ (l ++ forest_digits cs))
    ∙ ap (λ (y : List Bool). covers outer ++ (head_digits h ++ (x ++ (forest_digits before ++ y)))) (ap (λ (y : Head). head_digits y ++ (l ++ forest_digits cs)) e ∙ ap (λ (y : List Bool). head_digits (head_of k (size k tail cs)) ++ (y ++ forest_digits cs)) b)

module _ (h : Head) (stop : ℕ) (fs : List ℕ) (tl : Option (List ℕ)) (before : Forest) (k : ParamKind) (vs tail : List ℕ) (cs : Forest) (outer : List Begun) (rest : List Bool) where
  abbrev pub parent : Forest → Begun
  parent ns = record { head = h; stop = stop; fields = fs; tail = tl; children = ns }

  -- the last child as it was when all of it was read
  abbrev pub child : Head → ℕ → Begun
  child hb stop_b = record { head = hb; stop = stop_b; fields = spread (fields_of (kind_of_head hb)) vs; tail = as_read (tail_of (kind_of_head hb)) tail; children = cs }

  child_due : (hb : Head) (stop_b : ℕ) → due (child hb stop_b) ≡ Rest
  unfolding due
  child_due hb stop_b = rw (drop_all (fields_of (kind_of_head hb)) (length (spread (fields_of (kind_of_head hb)) vs)) (length-spread (fields_of (kind_of_head hb)) vs), read_is_rest (tail_of (kind_of_head hb)) tail) refl

  closing_before : (hb : Head) (stop_b : ℕ) → Obeys (kind_of_head hb) vs tail cs → AllLawful cs
      → IsOpenNode (parent (and before k vs tail cs)) outer → IsOpenTree outer → due (parent before) ≡ Rest
      → covers (child hb stop_b ∷ parent before ∷ outer) ≡ covers (parent (and before k vs tail cs) ∷ outer)
      → IsHead hb stop_b (parent before ∷ outer)
      → has_ended hb (nat_le stop_b (length (covers (child hb stop_b ∷ parent before ∷ outer)))) ≡ true
      → length (covers (child hb stop_b ∷ parent before ∷ outer)) ≤ stop_b
      → length (covers (parent before ∷ outer)) ≤ length (covers (child hb stop_b ∷ parent before ∷ outer))
      → closed before hb (spread (fields_of (kind_of_head hb)) vs) (as_read (tail_of (kind_of_head hb)) tail) cs ≡ and before k vs tail cs
      → (tail_of (kind_of_head hb) ≡ Data → length (covers (child hb stop_b ∷ parent before ∷ outer)) ≡ stop_b)
      → Before (parent (and before k vs tail cs) ∷ outer) rest (parts outer + (1 + length fs + tail_parts tl + whole_parts before) + (1 + length (fields_of (kind_of_head hb)) + tail_parts (as_read (tail_of (kind_of_head hb)) tail) + whole_parts cs))
  unfolding IsOpenTree parts ArePlaced
  closing_before hb stop_b w cs_lawful s outer_open ready c head over inside longer is full =
      let at : ℕ = length (covers (child hb stop_b ∷ parent before ∷ outer)) in
      let kind : Kind = kind_of_head hb in
      let total : at ≡ length (covers (parent (and before k vs tail cs) ∷ outer)) = ap (λ (x : List Bool). length x) c in
      let deep : length outer + max (levels before) (levels cs + 1) ≤ MAX_DEPTH = s.deep in
      let values : IsTail (tail_of kind) (plain_values (fields_of kind) (spread (fields_of kind) vs)) tail = subst (λ (x : List ℕ). IsTail (tail_of kind) x tail) (sym (plain-spread (fields_of kind) vs w.ranges)) w.form in
      let many = length-spread (fields_of kind) vs in
      record {
        tree = child hb stop_b ∷ parent before ∷ outer;
        left = rest;
        is_open = (
          record { head = head; fields = leading_spread (fields_of kind) vs (are_rules kind) w.ranges; tail = is_read_tail (tail_of kind) (plain_values (fields_of kind) (spread (fields_of kind) vs)) tail values w.bytes; filled = λ e. inr (full e); tail_after = inr many; children_after = inr (child_due hb stop_b); lawful = cs_lawful; placed = w.placed; most = w.most; deep = omega (arith, deep); inside = inside },
          (
            record { head = s.head; fields = s.fields; tail = s.tail; filled = λ e. absurd (data_childless (kind_of_head h) k e s.placed.1); tail_after = s.tail_after; children_after = inr ready; lawful = s.lawful.0; placed = s.placed.0; most = most_before (groups_of (kind_of_head h)) before k vs tail cs s.most; deep = omega (arith, deep); inside = omega (arith, s.inside, total, longer) },
            outer_open,
          ),
        );
        same = rw c refl;
        step = next_is (child hb stop_b) (parent before ∷ outer) rest Close (closing_turn (child hb stop_b) at rest (child_due hb stop_b) over) (closing_passes (child hb stop_b) (length (child hb stop_b ∷ parent before ∷ outer)) at rest (enough_to (groups_of kind) cs w.least))
            ∙ ap (λ (x : Forest). Grows (parent x ∷ outer)) is;
        fewer = omega (arith, many);
        root = inner_root (child hb stop_b) (parent before) outer ∙ same_root (parent before) (parent (and before k vs tail cs)) outer refl;
      }

  pub child_before : IsOpenNode (parent (and before k vs tail cs)) outer → IsOpenTree outer → due (parent before) ≡ Rest
      → Before (parent (and before k vs tail cs) ∷ outer) rest (parts outer + (1 + length fs + tail_parts tl + whole_parts before) + (1 + length (fields_of (Parameter k)) + tail_parts (as_read (tail_of (Parameter k)) tail) + whole_parts cs))
  unfolding ArePlaced covers part
  child_before s outer_open ready =
      let w : AreLawful k vs tail cs = s.lawful.1 in
      let again : and before k (plain_values (fields_of (Parameter k)) (spread (fields_of (Parameter k)) vs)) (unwrap_or (as_read (tail_of (Parameter k)) tail) []) cs ≡ and before k vs tail cs = rw (plain-spread (fields_of (Parameter k)) vs w.obeys.ranges, read_again (tail_of (Parameter k)) vs tail w.obeys.form) refl in
      let body = read_body (Parameter k) vs tail w.obeys.form in
      let may : MayBegin (parent before) k = record { ready = ready; has = s.placed.1; more = takes_one_more (groups_of (kind_of_head h)) before k vs tail cs s.most } in
      let deep : length outer + max (levels before) (levels cs + 1) ≤ MAX_DEPTH = s.deep in
      let here : ℕ = length (covers (parent before ∷ outer)) in
      let inner : List Bool = leading_digits (Parameter k) (spread (fields_of (Parameter k)) vs) (as_read (tail_of (Parameter k)) tail) ++ forest_digits cs in
      let inner_long : length inner ≡ 8 * (body_octets (Parameter k) tail + octets cs) = ap (λ (x : List Bool). length (x ++ forest_digits cs)) body ∙ (let a = length-append (body_digits (Parameter k) vs tail) (forest_digits cs) in let b = length-body_digits (Parameter k) vs tail in let c = length-spell cs in omega arith) in
      (elim (is_tv k) as (λ b. is_tv k ≡ b → Before (parent (and before k vs tail cs) ∷ outer) rest (parts outer + (1 + length fs + tail_parts tl + whole_parts before) + (1 + length (fields_of (Parameter k)) + tail_parts (as_read (tail_of (Parameter k)) tail) + whole_parts cs))) [
        | true ↦ λ f.
            let is_head : tv k ≡ head_of k (size k tail cs) = rw f refl in
            let c = closed_covered h stop fs tl before outer (tv k) stop (spread (fields_of (Parameter k)) vs) (as_read (tail_of (Parameter k)) tail) k vs tail cs is_head body in
            let total : length (covers (child (tv k) stop ∷ parent before ∷ outer)) ≡ length (covers (parent (and before k vs tail cs) ∷ outer)) = ap (λ (x : List Bool). length x) c in
            let longer = length-append (covers (parent before ∷ outer)) (head_digits (tv k) ++ inner) in
            closing_before (tv k) stop w.obeys s.lawful.2 s outer_open ready c (record { kind_is_tv = f; stops = refl; deep = omega (arith, deep); may_begin = may }) refl (omega (arith, s.inside, total)) (omega (arith, longer)) again (λ e. absurd (let z : Absent ≡ Data = sym (tv_tail k f) ∙ e in cc))
        | false ↦ λ f.
            let four : head_octets k ≡ 4 = rw f refl in
            let n : ℕ = size k tail cs in
            let stop_b : ℕ = here + 8 * n in
            let is_head : tlv k n ≡ head_of k (size k tail cs) = rw f refl in
            let c = closed_covered h stop fs tl before outer (tlv k n) stop_b (spread (fields_of (Parameter k)) vs) (as_read (tail_of (Parameter k)) tail) k vs tail cs is_head body in
            let total : length (covers (child (tlv k n) stop_b ∷ parent before ∷ outer)) ≡ length (covers (parent (and before k vs tail cs) ∷ outer)) = ap (λ (x : List Bool). length x) c in
            let longer = length-append (covers (parent before ∷ outer)) (head_digits (tlv k n) ++ inner) in
            let own = length-append (head_digits (tlv k n)) inner in
            let long : length (covers (child (tlv k n) stop_b ∷ parent before ∷ outer)) ≡ stop_b = omega (arith, longer, own, inner_long, length-tlv k n, four) in
            closing_before (tlv k n) stop_b w.obeys s.lawful.2 s outer_open ready c (record { kind_is_tlv = f; least = omega (arith, four); most = omega (arith, w.long); stops = refl; within = omega (arith, s.inside, total, long); deep = omega (arith, deep); may_begin = may })
            (le-leb stop_b (length (covers (child (tlv k n) stop_b ∷ parent before ∷ outer))) (omega (arith, long))) (omega (arith, long)) (omega (arith, long)) again (λ e. long)
      ]) refl
