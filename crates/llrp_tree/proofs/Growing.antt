-- How an open tree grows by one part, where the part passes its checks.
use Rattle.std.proofs.Common.{◌≡◌, ℕ, ◌+◌, ◌-◌, ◌*◌, ◌/◌, ◌^◌, ◌<◌, ◌≤◌, Bool, true, false, inl, inr, List, [], ◌∷◌, ◌++◌, length, take, drop, Option, Some, None, refl, sym, ap, ◌∙◌, arith, length-append, length-drop}
use Rattle.std.specs.Prelude.{unwrap_or}
use Rattle.std.specs.Str.{is_utf8}
use Rattle.std.proofs.lemmas.Str.{IsUtf8-from_is_utf8}
use Rattle.std.proofs.lemmas.List.{append-nil}
use Rattle.std.proofs.Math.Seq.{take-add}
use Rattle.tag_bits.specs.Digits.{digits, digits_of_bytes}
use Rattle.llrp_schema.specs.declared.kinds.ParamKind.{ParamKind}
use Rattle.llrp_schema.specs.declared.kinds.Kind.{Kind}
use Rattle.llrp_schema.specs.declared.kinds.Kind.TheVariants.{Message, Parameter}
use Rattle.llrp_schema.specs.declared.kinds.Tail.{Tail}
use Rattle.llrp_schema.specs.declared.kinds.Tail.TheVariants.{Absent, Words, Text, Bits, Data}
use Rattle.llrp_schema.specs.Schema.{FieldRule, GroupRule, fields_of, bits_of, tail_of, groups_of, number_of, is_tv}
use Rattle.llrp_schema.proofs.TableLaws.{tlv_found_in, tv_found_in, tv_groups, tv_tail, few_bits, whole_octets}
use Rattle.llrp_tree.specs.declared.TheConstants.{MAX_DEPTH, MAX_OCTETS}
use Rattle.llrp_tree.specs.Tree.{Forest, none, and}
use Rattle.llrp_tree.specs.Lawful.{levels, octets, head_octets, body_octets, count_octets, first, IsTail, has_place, ArePlaced, NoneTooMany, AreLawful}
use Rattle.llrp_tree.specs.Spelling.{Head, message, tlv, tv, head_digits, head_of, count_digits, field_digits, tail_digits, body_digits, forest_digits}
use Rattle.llrp_tree.specs.OpenTree.{set, Begun, kind_of_head, leading_digits, part, covers, Rest, has_tail, tail_due, due, in_range, AreLeading, plain_values, IsReadTail, is_enough, MayBegin, IsHeader, IsTlvHead, IsTvHead, IsHead, IsOpenTree}
use Rattle.llrp_tree.specs.FirstFault.{number, tail_length, tail_at, tail_end, tv_kind, tlv_kind, tlv_octets, first_digit}
use Rattle.llrp_tree.specs.Calls.Standing.{end_of, IsAt, begin_node, leading}
use Rattle.llrp_tree.proofs.Steps.{begin, with_child}
use Rattle.llrp_tree.proofs.Leading.{more_leading, plain_in_range, length-fields}
use Rattle.llrp_tree.proofs.ReadDigits.{covers_more, length_covered, digits_at, value_at, digits_take, length-octets_at, are_octets_at, octets_spelled}
use Rattle.llrp_tree.proofs.GroupLemmas.{most_none, most_after, enough_from}
use Rattle.llrp_tree.proofs.LengthLemmas.{length-tlv, length-message_head, length-body_digits, length-spell}
use Rattle.llrp_tree.proofs.WholeNodes.{closed_digits, no_field_due, whole_tail, data_childless}
use Rattle.llrp_tree.proofs.LastPart.{field_covered, tail_covered, closed_covered, size}
use Rattle.llrp_tree.proofs.Openings.{begun_covered}

pub same_end : (h : Head) (stop : ℕ) (vs ws : List ℕ) (tl tm : Option (List ℕ)) (cs ds : Forest) (outer : List Begun)
    → end_of (begin_node h stop vs tl cs ∷ outer) ≡ end_of (begin_node h stop ws tm ds ∷ outer)
unfolding end_of
same_end h stop vs ws tl tm cs ds [] = refl
same_end h stop vs ws tl tm cs ds (p ∷ outer) = refl

inner_before : (h : Head) (stop : ℕ) (p : Begun) (outer : List Begun) → IsHead h stop (p ∷ outer) → stop ≤ p.stop
inner_before (message v t n id) stop p outer f = absurd f
inner_before (tlv k n) stop p outer f = f.within
inner_before (tv k) stop p outer f = omega (arith, f.stops)

-- no node stops after the message
pub stops_within : (b : Begun) (outer : List Begun) → IsOpenTree (b ∷ outer) → b.stop ≤ end_of (b ∷ outer)
unfolding IsOpenTree end_of
stops_within b [] s = omega arith
stops_within b (p ∷ outer) s = let a = stops_within p outer s.1 in let i = inner_before b.head b.stop p outer s.0.head in omega arith

-- ---- a field

module _ (h : Head) (stop : ℕ) (vs : List ℕ) (outer : List Begun) (ds : List Bool) (at : ℕ) where
  pub grow_field : (r : FieldRule) (after : List FieldRule) → IsAt ds (leading h stop vs ∷ outer) at → drop (length vs) (fields_of (kind_of_head h)) ≡ r ∷ after
      → at + r.width ≤ stop → in_range r (number (drop at ds) 0 r.width) ≡ true
      → IsAt ds (leading h stop (vs ++ number (drop at ds) 0 r.width ∷ []) ∷ outer) (at + r.width)
  unfolding IsOpenTree
  grow_field r after st e le fit =
      let s = st.is_open.0 in
      let w : ℕ = r.width in
      let v : ℕ = number (drop at ds) 0 w in
      let within : at + w ≤ length ds = (let a = stops_within (leading h stop vs) outer st.is_open in omega (arith, st.ends)) in
      let m = more_leading (fields_of (kind_of_head h)) vs r after v e s.fields (value_at at w ds within) fit in
      let covered : covers (leading h stop (vs ++ v ∷ []) ∷ outer) ≡ take (at + w) ds = covers_more (covers (leading h stop vs ∷ outer)) (covers (leading h stop (vs ++ v ∷ []) ∷ outer)) (digits w v) at w ds st.covered (field_covered h stop vs v outer [] w m.1) (digits_at at w ds within) in
      let long = length_covered (covers (leading h stop (vs ++ v ∷ []) ∷ outer)) (at + w) ds covered within in
      record {
        is_open = (record { head = s.head; fields = m.0; tail = tt; filled = λ e. inl refl; tail_after = inl refl; children_after = inl refl; lawful = s.lawful; placed = s.placed; most = s.most; deep = s.deep; inside = omega arith }, st.is_open.1);
        covered = covered;
        within = within;
        ends = same_end h stop (vs ++ v ∷ []) vs None None none none outer ∙ st.ends;
      }

-- ---- a tail

-- what a tail's count covers has the tail's form
pub tail_is : (form : Tail) (fields : List ℕ) (room : ℕ) (xs : List Bool) → has_tail form ≡ true → 8 * (count_octets form + tail_length form fields room xs) ≤ length xs → (form ≡ Text → is_utf8 (tail_at form fields room xs) ≡ true) → IsTail form fields (tail_at form fields room xs)
tail_is Absent fields room xs e le u = absurd cc
tail_is Words fields room xs e le u = (number xs 0 16, (let a = value_at 0 16 xs (omega arith) in omega arith), length-octets_at (2 * number xs 0 16) (drop 16 xs))
tail_is Text fields room xs e le u = ((let a = value_at 0 16 xs (omega arith) in let b = length-octets_at (number xs 0 16) (drop 16 xs) in omega arith), IsUtf8-from_is_utf8 (tail_at Text fields room xs) (u refl))
tail_is Bits fields room xs e le u = length-octets_at ((first fields + 7) / 8) (drop 0 xs)
tail_is Data fields room xs e le u = tt

count_spelled : (form : Tail) (fields : List ℕ) (room : ℕ) (xs : List Bool) → 8 * (count_octets form + tail_length form fields room xs) ≤ length xs → count_digits form (tail_at form fields room xs) ≡ take (8 * count_octets form) xs
count_spelled Absent fields room xs le = refl
count_spelled Words fields room xs le =
    let b = length-octets_at (2 * number xs 0 16) (drop 16 xs) in
    let half : length (tail_at Words fields room xs) / 2 ≡ number xs 0 16 = omega arith in
    ap (λ (n : ℕ). digits 16 n) half ∙ digits_take 16 xs (omega arith)
count_spelled Text fields room xs le =
    ap (λ (n : ℕ). digits 16 n) (length-octets_at (number xs 0 16) (drop 16 xs)) ∙ digits_take 16 xs (omega arith)
count_spelled Bits fields room xs le = refl
count_spelled Data fields room xs le = refl

tail_spelled : (form : Tail) (fields : List ℕ) (room : ℕ) (xs : List Bool) → 8 * (count_octets form + tail_length form fields room xs) ≤ length xs → tail_digits form (tail_at form fields room xs) ≡ take (8 * (count_octets form + tail_length form fields room xs)) xs
tail_spelled form fields room xs le =
    let c : ℕ = 8 * count_octets form in
    let n : ℕ = tail_length form fields room xs in
    let total : 8 * (count_octets form + n) ≡ c + 8 * n = omega arith in
    ap (λ (x : List Bool). x ++ digits_of_bytes (tail_at form fields room xs)) (count_spelled form fields room xs le)
    ∙ ap (λ (x : List Bool). take c xs ++ x) (octets_spelled n (drop c xs) (omega (arith, length-drop c xs)))
    ∙ sym (take-add c (8 * n) xs) ∙ ap (λ (k : ℕ). take k xs) (sym total)

length-leading : (kind : Kind) (vs : List ℕ) → length vs ≡ length (fields_of kind) → length (leading_digits kind vs None ++ forest_digits none) ≡ bits_of (fields_of kind)
unfolding leading_digits forest_digits
length-leading kind vs all =
    let digits_are : List Bool = field_digits (fields_of kind) vs in
    ap (λ (x : List Bool). length x) (append-nil (digits_are ++ []) ∙ append-nil digits_are) ∙ length-fields (fields_of kind) vs all

-- whole octets are left for data
data_room : (h : Head) (stop : ℕ) (vs : List ℕ) (outer : List Begun) → IsOpenTree (leading h stop vs ∷ outer) → length vs ≡ length (fields_of (kind_of_head h)) → tail_of (kind_of_head h) ≡ Data
    → (n : ℕ) × (stop ≡ length (covers (leading h stop vs ∷ outer)) + 8 * n)
unfolding IsOpenTree covers part
data_room (message v k n id) stop vs [] s all e =
    let body : List Bool = leading_digits (Message k) vs None ++ forest_digits none in
    let both = length-append (head_digits (message v k n id)) body in
    let bits = length-leading (Message k) vs all in
    let f : IsHeader v n id stop = s.0.head in
    (n - 10 - bits_of (fields_of (Message k)) / 8, omega (arith, both, bits, length-message_head v k n id, whole_octets (Message k), f.stops, s.0.inside))
data_room (message v k n id) stop vs (p ∷ outer) s all e = absurd s.0.head
data_room (tlv k n) stop vs [] s all e = absurd s.0.head
data_room (tlv k n) stop vs (p ∷ outer) s all e =
    let body : List Bool = leading_digits (Parameter k) vs None ++ forest_digits none in
    let grown = length-append (covers (p ∷ outer)) (head_digits (tlv k n) ++ body) in
    let both = length-append (head_digits (tlv k n)) body in
    let bits = length-leading (Parameter k) vs all in
    let f : IsTlvHead k n stop p outer = s.0.head in
    (n - 4 - bits_of (fields_of (Parameter k)) / 8, omega (arith, grown, both, bits, length-tlv k n, whole_octets (Parameter k), f.stops, s.0.inside))
data_room (tv k) stop vs [] s all e = absurd s.0.head
data_room (tv k) stop vs (p ∷ outer) s all e = absurd (let f : IsTvHead k stop p outer = s.0.head in let z : Absent ≡ Data = sym (tv_tail k f.kind_is_tv) ∙ e in cc)

module _ (h : Head) (stop : ℕ) (vs : List ℕ) (outer : List Begun) (ds : List Bool) (at : ℕ) where
  abbrev pub tailed : Option (List ℕ) → Begun
  tailed t = begin_node h stop vs t none

  abbrev plain : List ℕ
  plain = plain_values (fields_of (kind_of_head h)) vs

  pub grow_tail : IsAt ds (tailed None ∷ outer) at → length vs ≡ length (fields_of (kind_of_head h)) → has_tail (tail_of (kind_of_head h)) ≡ true
      → tail_end (tail_of (kind_of_head h)) (plain_values (fields_of (kind_of_head h)) vs) at stop (drop at ds) ≤ stop
      → (tail_of (kind_of_head h) ≡ Text → is_utf8 (tail_at (tail_of (kind_of_head h)) (plain_values (fields_of (kind_of_head h)) vs) (stop - at) (drop at ds)) ≡ true)
      → IsAt ds (tailed (Some (tail_at (tail_of (kind_of_head h)) (plain_values (fields_of (kind_of_head h)) vs) (stop - at) (drop at ds))) ∷ outer) (tail_end (tail_of (kind_of_head h)) (plain_values (fields_of (kind_of_head h)) vs) at stop (drop at ds))
  unfolding IsOpenTree
  grow_tail st all has le text =
      let s = st.is_open.0 in
      let f : Tail = tail_of (kind_of_head h) in
      let rest : List Bool = drop at ds in
      let n : ℕ = tail_length f plain (stop - at) rest in
      let w : ℕ = 8 * (count_octets f + n) in
      let os : List ℕ = tail_at f plain (stop - at) rest in
      let far = stops_within (tailed None) outer st.is_open in
      let within : at + w ≤ length ds = omega (arith, st.ends) in
      let room : w ≤ length rest = omega (arith, length-drop at ds) in
      let is = tail_is f plain (stop - at) rest has room text in
      let next = tail_spelled f plain (stop - at) rest room in
      let covered : covers (tailed (Some os) ∷ outer) ≡ take (at + w) ds = covers_more (covers (tailed None ∷ outer)) (covers (tailed (Some os) ∷ outer)) (tail_digits f os) at w ds st.covered (tail_covered h stop vs os outer []) next in
      let long = length_covered (covers (tailed (Some os) ∷ outer)) (at + w) ds covered within in
      let was = length_covered (covers (tailed None ∷ outer)) at ds st.covered st.within in
      let ends_at : f ≡ Data → length (covers (tailed (Some os) ∷ outer)) ≡ stop = λ e. (
      let size : w ≡ 8 * (0 + (stop - at) / 8) = ap (λ (g : Tail). 8 * (count_octets g + tail_length g plain (stop - at) rest)) e in
      let room_is = data_room h stop vs outer st.is_open all e in
      omega (arith, long, was, size, room_is.1)
      ) in
      record {
        is_open = (record { head = s.head; fields = s.fields; tail = (has, is, are_octets_at n (drop (8 * count_octets f) rest) (omega (arith, length-drop (8 * count_octets f) rest))); filled = λ e. inr (ends_at e); tail_after = inr all; children_after = inl refl; lawful = s.lawful; placed = s.placed; most = s.most; deep = s.deep; inside = omega arith }, st.is_open.1);
        covered = covered;
        within = within;
        ends = same_end h stop vs vs (Some os) None none none outer ∙ st.ends;
      }

-- ---- the head of a child

-- the head of a parameter with type, length and value is the next 32 digits
tlv_is_next : (k : ParamKind) (xs : List Bool) → 32 ≤ length xs → number xs 0 6 ≡ 0 → number_of (Parameter k) ≡ number xs 6 10 → head_digits (tlv k (tlv_octets xs)) ≡ take 32 xs
unfolding head_digits
tlv_is_next k xs le zeros type =
    let a : digits 6 0 ≡ take 6 xs = ap (λ (n : ℕ). digits 6 n) (sym zeros) ∙ digits_take 6 xs (omega arith) in
    let b : digits 10 (number_of (Parameter k)) ≡ take 10 (drop 6 xs) = ap (λ (n : ℕ). digits 10 n) type ∙ digits_take 10 (drop 6 xs) (omega (arith, length-drop 6 xs)) in
    let c = digits_take 16 (drop 16 xs) (omega (arith, length-drop 16 xs)) in
    rw (a, b, c) (ap (λ (y : List Bool). y ++ take 16 (drop 16 xs)) (sym (take-add 6 10 xs)) ∙ sym (take-add 16 16 xs))

starts_one : digits 1 1 ≡ true ∷ []
unfolding digits
starts_one = refl

-- the head of a parameter with type and value is the next 8 digits
tv_is_next : (k : ParamKind) (xs : List Bool) → 8 ≤ length xs → first_digit xs ≡ true → number_of (Parameter k) ≡ number xs 1 7 → head_digits (tv k) ≡ take 8 xs
unfolding head_digits
tv_is_next k [] le e type = absurd (omega arith)
tv_is_next k (d ∷ xs) le e type =
    let a : digits 1 1 ≡ d ∷ [] = (let same : d ≡ true = e in rw same starts_one) in
    let b : digits 7 (number_of (Parameter k)) ≡ take 7 xs = ap (λ (n : ℕ). digits 7 n) type ∙ digits_take 7 xs (omega arith) in
    rw (a, b) refl

module _ (p : Begun) (outer : List Begun) (ds : List Bool) (at : ℕ) where
  begun_open : (hb : Head) (stop_b : ℕ) → IsAt ds (p ∷ outer) at → IsHead hb stop_b (p ∷ outer) → length (p ∷ outer) ≤ MAX_DEPTH → length (covers (begin hb stop_b ∷ p ∷ outer)) ≤ stop_b → IsOpenTree (begin hb stop_b ∷ p ∷ outer)
  unfolding IsOpenTree ArePlaced
  begun_open hb stop_b st f deep inside = (record { head = f; fields = tt; tail = tt; filled = λ e. inl refl; tail_after = inl refl; children_after = inl refl; lawful = tt; placed = tt; most = most_none (groups_of (kind_of_head hb)); deep = omega (arith, deep); inside = inside }, st.is_open)

  pub grow_tlv : (k : ParamKind) → IsAt ds (p ∷ outer) at → at + 32 ≤ p.stop → number (drop at ds) 0 6 ≡ 0 → tlv_kind (set p) (drop at ds) ≡ Some k → MayBegin p k → length (p ∷ outer) ≤ MAX_DEPTH
      → 4 ≤ tlv_octets (drop at ds) → at + 8 * tlv_octets (drop at ds) ≤ p.stop
      → IsAt ds (begin (tlv k (tlv_octets (drop at ds))) (at + 8 * tlv_octets (drop at ds)) ∷ p ∷ outer) (at + 32)
  unfolding end_of
  grow_tlv k st room zeros found o deep four fit =
      let rest : List Bool = drop at ds in
      let n : ℕ = tlv_octets rest in
      let stop_b : ℕ = at + 8 * n in
      let far = stops_within p outer st.is_open in
      let within : at + 32 ≤ length ds = omega (arith, st.ends) in
      let left : 32 ≤ length rest = omega (arith, length-drop at ds) in
      let is = tlv_found_in (set p) (number rest 6 10) k found in
      let head = tlv_is_next k rest left zeros is.1 in
      let covered : covers (begin (tlv k n) stop_b ∷ p ∷ outer) ≡ take (at + 32) ds = covers_more (covers (p ∷ outer)) (covers (begin (tlv k n) stop_b ∷ p ∷ outer)) (head_digits (tlv k n)) at 32 ds st.covered (begun_covered p outer [] (tlv k n) stop_b) head in
      let long = length_covered (covers (begin (tlv k n) stop_b ∷ p ∷ outer)) (at + 32) ds covered within in
      let was = length_covered (covers (p ∷ outer)) at ds st.covered st.within in
      let few : n < 2 ^ 16 = value_at 16 16 rest (omega arith) in
      record {
        is_open = begun_open (tlv k n) stop_b st (record { kind_is_tlv = is.0; least = four; most = omega (arith, few); stops = omega arith; within = fit; deep = deep; may_begin = o }) deep (omega arith);
        covered = covered;
        within = within;
        ends = st.ends;
      }

  pub grow_tv : (k : ParamKind) → IsAt ds (p ∷ outer) at → at + 8 ≤ p.stop → first_digit (drop at ds) ≡ true → tv_kind (set p) (drop at ds) ≡ Some k → MayBegin p k → length (p ∷ outer) ≤ MAX_DEPTH
      → IsAt ds (begin (tv k) p.stop ∷ p ∷ outer) (at + 8)
  unfolding end_of
  grow_tv k st room one found o deep =
      let rest : List Bool = drop at ds in
      let far = stops_within p outer st.is_open in
      let within : at + 8 ≤ length ds = omega (arith, st.ends) in
      let left : 8 ≤ length rest = omega (arith, length-drop at ds) in
      let is = tv_found_in (set p) (number rest 1 7) k found in
      let head = tv_is_next k rest left one is.1 in
      let covered : covers (begin (tv k) p.stop ∷ p ∷ outer) ≡ take (at + 8) ds = covers_more (covers (p ∷ outer)) (covers (begin (tv k) p.stop ∷ p ∷ outer)) (head_digits (tv k)) at 8 ds st.covered (begun_covered p outer [] (tv k) p.stop) head in
      let long = length_covered (covers (begin (tv k) p.stop ∷ p ∷ outer)) (at + 8) ds covered within in
      record {
        is_open = begun_open (tv k) p.stop st (record { kind_is_tv = is.0; stops = refl; deep = deep; may_begin = o }) deep (omega arith);
        covered = covered;
        within = within;
        ends = st.ends;
      }

-- ---- a closing

-- what is read of a parameter, all of it
pub lawful_child : (k : ParamKind) (vs : List ℕ) (tail : Option (List ℕ)) (cs : Forest) → AreLeading (fields_of (Parameter k)) vs → IsReadTail (tail_of (Parameter k)) (plain_values (fields_of (Parameter k)) vs) tail
    → ArePlaced (groups_of (Parameter k)) cs → NoneTooMany (groups_of (Parameter k)) cs → drop (length vs) (fields_of (Parameter k)) ≡ [] → tail_due (tail_of (Parameter k)) tail ≡ Rest
    → is_enough (groups_of (Parameter k)) cs ≡ true → levels cs + 1 ≤ MAX_DEPTH → size k (unwrap_or tail []) cs ≤ MAX_OCTETS
    → AreLawful k (plain_values (fields_of (Parameter k)) vs) (unwrap_or tail []) cs
lawful_child k vs tail cs f t p m e d enough deep long =
    let w = whole_tail (tail_of (Parameter k)) (plain_values (fields_of (Parameter k)) vs) tail t d in
    record {
      obeys = record { ranges = plain_in_range (fields_of (Parameter k)) vs f e; form = w.0; bytes = w.1; placed = p; most = m; least = enough_from (groups_of (Parameter k)) cs enough };
      deep = deep;
      long = long;
    }

none_placed : (gs : List GroupRule) (cs : Forest) → gs ≡ [] → ArePlaced gs cs → cs ≡ none
unfolding ArePlaced
none_placed gs none e p = refl
none_placed gs (and before k vs tail cs) e p = absurd (let z : false ≡ true = ap (λ (x : List GroupRule). has_place x k) (sym e) ∙ p.1 in cc)

no_tail : (form : Tail) (fields : List ℕ) (tail : Option (List ℕ)) → form ≡ Absent → IsReadTail form fields tail → unwrap_or tail [] ≡ []
no_tail form fields None e t = refl
no_tail form fields (Some os) e t = absurd (let z : has_tail Absent ≡ true = ap has_tail (sym e) ∙ t.0 in cc)

-- a parameter with type and value is short
tv_short : (k : ParamKind) (fields : List ℕ) (tail : Option (List ℕ)) (cs : Forest) → is_tv k ≡ true → IsReadTail (tail_of (Parameter k)) fields tail → ArePlaced (groups_of (Parameter k)) cs → size k (unwrap_or tail []) cs ≤ MAX_OCTETS
unfolding body_octets
tv_short k fields tail cs f t p =
    let childless = ap octets (none_placed (groups_of (Parameter k)) cs (tv_groups k f) p) in
    let tailless = ap (λ (x : List ℕ). length x) (no_tail (tail_of (Parameter k)) fields tail (tv_tail k f) t) in
    let uncounted = ap count_octets (tv_tail k f) in
    let one : head_octets k ≡ 1 = rw f refl in
    let few = few_bits (Parameter k) in
    omega arith

module _ (h : Head) (stop : ℕ) (fs : List ℕ) (tl : Option (List ℕ)) (before : Forest) (vs : List ℕ) (tail : Option (List ℕ)) (cs : Forest) (outer : List Begun) (ds : List Bool) (at : ℕ) where
  abbrev pub over : Forest → Begun
  over ns = begin_node h stop fs tl ns

  abbrev pub under : Head → ℕ → Begun
  under hb stop_b = begin_node hb stop_b vs tail cs

  pub same_due : (ns ms : Forest) → due (over ns) ≡ Rest → due (over ms) ≡ Rest
  unfolding due
  same_due ns ms e = e

  pub all_read : (hb : Head) (stop_b : ℕ) → due (under hb stop_b) ≡ Rest → (drop (length vs) (fields_of (kind_of_head hb)) ≡ []) × (tail_due (tail_of (kind_of_head hb)) tail ≡ Rest)
  unfolding due
  all_read hb stop_b d = no_field_due (drop (length vs) (fields_of (kind_of_head hb))) _ d

  closed_stands : (hb : Head) (stop_b : ℕ) (k : ParamKind) → IsAt ds (under hb stop_b ∷ over before ∷ outer) at
      → covers (under hb stop_b ∷ over before ∷ outer) ≡ covers (over (with_child before k vs tail cs) ∷ outer)
      → AreLawful k (plain_values (fields_of (Parameter k)) vs) (unwrap_or tail []) cs → MayBegin (over before) k → at ≤ stop → IsAt ds (over (with_child before k vs tail cs) ∷ outer) at
  unfolding IsOpenTree ArePlaced end_of
  closed_stands hb stop_b k st c w o le =
      let s = st.is_open.0 in
      let p = st.is_open.1.0 in
      let covered : covers (over (with_child before k vs tail cs) ∷ outer) ≡ take at ds = sym c ∙ st.covered in
      let long = length_covered (covers (over (with_child before k vs tail cs) ∷ outer)) at ds covered st.within in
      record {
        is_open = (record { head = p.head; fields = p.fields; tail = p.tail; filled = λ e. absurd (data_childless (kind_of_head h) k e o.has); tail_after = p.tail_after; children_after = inr (same_due before (with_child before k vs tail cs) o.ready); lawful = (p.lawful, w, s.lawful); placed = (p.placed, o.has); most = most_after (groups_of (kind_of_head h)) before k (plain_values (fields_of (Parameter k)) vs) (unwrap_or tail []) cs p.most o.more; deep = omega (arith, p.deep, s.deep); inside = omega arith }, st.is_open.1.1);
        covered = covered;
        within = st.within;
        ends = same_end h stop fs fs tl tl (with_child before k vs tail cs) before outer ∙ st.ends;
      }

  pub close_tlv : (k : ParamKind) (n stop_b : ℕ) → IsAt ds (under (tlv k n) stop_b ∷ over before ∷ outer) at → due (under (tlv k n) stop_b) ≡ Rest → at ≡ stop_b → is_enough (groups_of (Parameter k)) cs ≡ true
      → IsAt ds (over (with_child before k vs tail cs) ∷ outer) at
  unfolding IsOpenTree covers part
  close_tlv k n stop_b st d e enough =
      let s = st.is_open.0 in
      let f : IsTlvHead k n stop_b (over before) outer = s.head in
      let r = all_read (tlv k n) stop_b d in
      let os : List ℕ = unwrap_or tail [] in
      let own = closed_digits (Parameter k) vs tail s.fields r.0 r.1 in
      let body : List Bool = leading_digits (Parameter k) vs tail ++ forest_digits cs in
      let body_long : length body ≡ 8 * (body_octets (Parameter k) os + octets cs) = ap (λ (x : List Bool). length (x ++ forest_digits cs)) own ∙ (let a = length-append (body_digits (Parameter k) (plain_values (fields_of (Parameter k)) vs) os) (forest_digits cs) in let b = length-body_digits (Parameter k) (plain_values (fields_of (Parameter k)) vs) os in let c = length-spell cs in omega arith) in
      let grown = length-append (covers (over before ∷ outer)) (head_digits (tlv k n) ++ body) in
      let both = length-append (head_digits (tlv k n)) body in
      let was : length (covers (under (tlv k n) stop_b ∷ over before ∷ outer)) ≡ at = length_covered (covers (under (tlv k n) stop_b ∷ over before ∷ outer)) at ds st.covered st.within in
      let four : head_octets k ≡ 4 = (let g = f.kind_is_tlv in rw g refl) in
      let is_size : n ≡ size k os cs = omega (arith, f.stops, grown, both, was, body_long, length-tlv k n, four) in
      let is_head : tlv k n ≡ head_of k (size k os cs) = (let g = f.kind_is_tlv in ap (λ (m : ℕ). tlv k m) is_size ∙ rw g refl) in
      closed_stands (tlv k n) stop_b k st
      (closed_covered h stop fs tl before outer (tlv k n) stop_b vs tail k (plain_values (fields_of (Parameter k)) vs) os cs is_head own)
      (lawful_child k vs tail cs s.fields s.tail s.placed s.most r.0 r.1 enough (omega (arith, s.deep)) (omega (arith, f.most, is_size)))
      f.may_begin (omega (arith, f.within))

  pub close_tv : (k : ParamKind) (stop_b : ℕ) → IsAt ds (under (tv k) stop_b ∷ over before ∷ outer) at → due (under (tv k) stop_b) ≡ Rest → is_enough (groups_of (Parameter k)) cs ≡ true
      → IsAt ds (over (with_child before k vs tail cs) ∷ outer) at
  unfolding IsOpenTree
  close_tv k stop_b st d enough =
      let s = st.is_open.0 in
      let f : IsTvHead k stop_b (over before) outer = s.head in
      let r = all_read (tv k) stop_b d in
      let os : List ℕ = unwrap_or tail [] in
      let own = closed_digits (Parameter k) vs tail s.fields r.0 r.1 in
      let was = length_covered (covers (under (tv k) stop_b ∷ over before ∷ outer)) at ds st.covered st.within in
      let is_head : tv k ≡ head_of k (size k os cs) = (let g = f.kind_is_tv in rw g refl) in
      closed_stands (tv k) stop_b k st
      (closed_covered h stop fs tl before outer (tv k) stop_b vs tail k (plain_values (fields_of (Parameter k)) vs) os cs is_head own)
      (lawful_child k vs tail cs s.fields s.tail s.placed s.most r.0 r.1 enough (omega (arith, s.deep)) (tv_short k (plain_values (fields_of (Parameter k)) vs) tail cs f.kind_is_tv s.tail s.placed))
      f.may_begin (omega (arith, s.inside, f.stops))
