-- A tail, as a step of the open tree that is read.
use Rattle.llrp_schema.specs.declared.kinds.KindSet.{KindSet}
use Rattle.std.proofs.Common.{◌≡◌, ◌≢◌, ◌⊎◌, inl, inr, ℕ, zero, suc, ◌+◌, ◌-◌, ◌*◌, ◌/◌, ◌<◌, ◌≤◌, Bool, true, false, List, [], ◌∷◌, ◌++◌, length, take, drop, Some, refl, sym, ap, subst, ◌∙◌, arith, append_assoc, length-append, length-drop}
use Rattle.std.specs.Prelude.{min, nat_le}
use Rattle.std.specs.Str.{IsUtf8, is_utf8}
use Rattle.std.specs.Str.Lossy.{utf8_valid_len}
use Rattle.std.proofs.lemmas.Bool.{le-leb, leb-true, leb-false}
use Rattle.std.proofs.lemmas.List.{append-nil, take-append-le, drop-append-le, drop-drop, take_all, length-take-le}
use Rattle.std.proofs.lemmas.Str.{IsUtf8-nil, IsUtf8-append, is_utf8-from_IsUtf8, utf8_valid_len_le}
use Rattle.arrayvec.specs.ArrayVec.{ArrayVec}
use Rattle.tag_bits.specs.Digits.{value, digits, digits_of_bytes}
use Rattle.tag_bits.proofs.ByteLemmas.{length-bytes, bytes-append, bytes-cons, drop-bytes}
use Rattle.llrp_schema.specs.declared.kinds.Kind.{Kind}
use Rattle.llrp_schema.specs.declared.kinds.Kind.TheVariants.{Message, Parameter}
use Rattle.llrp_schema.specs.declared.kinds.Tail.{Tail}
use Rattle.llrp_schema.specs.declared.kinds.Tail.TheVariants.{Absent, Words, Text, Bits, Data}
use Rattle.llrp_schema.specs.Schema.{FieldRule, any_field, bits_of, fields_of, tail_of}
use Rattle.llrp_schema.proofs.TableLaws.{whole_octets, message_form, bits_field}
use Rattle.llrp_tree.specs.declared.fault.FrameErr.{FrameErr}
use Rattle.llrp_tree.specs.declared.fault.FrameErr.TheVariants.{Memory, Bad}
use Rattle.llrp_tree.specs.declared.fault.Reason.TheVariants.{Utf8}
use Rattle.llrp_tree.specs.Tree.{none}
use Rattle.llrp_tree.specs.Lawful.{AreOctets, count_octets, first}
use Rattle.llrp_tree.specs.Spelling.{Head, message, tlv, tv, head_digits, field_digits, forest_digits}
use Rattle.llrp_tree.specs.OpenTree.{Begun, kind_of_head, rules, form, leading_digits, part, covers, has_tail, plain_values, due, Rest, IsHead, IsOpenTree}
use Rattle.llrp_tree.specs.FirstFault.{octets_at, tail_length, tail_at, tail_end, tail_checks, checks, ReadTail}
use Rattle.llrp_tree.specs.Calls.Standing.{IsAt, begin_node, leading}
use Rattle.llrp_tree.specs.Private.Standing.{FailsFirst}
use Rattle.llrp_tree.proofs.Leading.{length-fields, drop_all}
use Rattle.llrp_tree.proofs.LengthLemmas.{length-message_head, length-tlv, length-tv}
use Rattle.llrp_tree.proofs.ReadDigits.{length-octets_at, number_own, drop_own}
use Rattle.llrp_tree.proofs.LastPart.{tail_turn}
use Rattle.llrp_tree.proofs.Growing.{grow_tail}
use Rattle.llrp_stream.specs.declared.engine.body_reader.BodyReader.{BodyReader}
use Rattle.llrp_stream.specs.declared.engine.body_reader.Stage.{Stage}
use Rattle.llrp_stream.specs.declared.engine.body_reader.Stage.TheVariants as stage
use Rattle.llrp_stream.specs.Calls.Front.{AreDeciding, Reaches, IsUndecided}
use Rattle.llrp_stream.specs.Private.Front.{IsDecidedFor, TellsAt, TellsFor}
use Rattle.llrp_stream.specs.Calls.Received.{AreWhole, IsBeforeTail, IsInTail}
use Rattle.llrp_stream.specs.Private.Tails.{HasWhole}
use Rattle.llrp_stream.specs.Calls.Reading.{HasReadTo, bit_of, settled, IsAtStage, IsLeading, IsTailing}
use Rattle.llrp_stream.specs.Private.Reading.{rank, work}
use Rattle.llrp_stream.proofs.Reached.{stands_in, reaches_in}
use Rattle.llrp_stream.proofs.Bounds.{covered_length}
use Rattle.llrp_stream.proofs.WaitLemmas.{count_decided, count_waits, tail_waits}
use Rattle.llrp_stream.proofs.TextLemmas.{take_take, valid_is_text, valid_is, not_text}
use Rattle.llrp_stream.proofs.FaultTrees.{tells_at}
use Rattle.llrp_tree.proofs.Undecided.{header_covered as after_header}
use Rattle.llrp_tree.proofs.Totality.{IsOctets, covered_octets, parent_ready as head_ready}

-- ---- what is covered before a tail

head_whole : (h : Head) → IsOctets (length (head_digits h))
head_whole (message v k n id) = (10, length-message_head v k n id)
head_whole (tlv k n) = (4, length-tlv k n)
head_whole (tv k) = (1, length-tv k)

both_whole : (x y : List Bool) → IsOctets (length x) → IsOctets (length y) → IsOctets (length (x ++ y))
both_whole x y a b = (a.0 + b.0, omega (arith, length-append x y, a.1, b.1))

-- a node of which all fields are read
fields_whole : (h : Head) (stop : ℕ) (vs : List ℕ) → length vs ≡ length (fields_of (kind_of_head h)) → IsOctets (length (part (leading h stop vs)))
unfolding part leading_digits forest_digits
fields_whole h stop vs e =
    let rs : List FieldRule = fields_of (kind_of_head h) in
    let ds : List Bool = field_digits rs vs in
    let n : length ds ≡ bits_of rs = length-fields rs vs e in
    let w = whole_octets (kind_of_head h) in
    let own : IsOctets (length (ds ++ [])) = (bits_of rs / 8, ap (λ (x : List Bool). length x) (append-nil ds) ∙ omega (arith, n, w)) in
    both_whole (head_digits h) ((ds ++ []) ++ []) (head_whole h) (both_whole (ds ++ []) [] own (0, refl))

before_tail : (h : Head) (stop : ℕ) (vs : List ℕ) (outer : List Begun) → IsOpenTree (leading h stop vs ∷ outer) → length vs ≡ length (fields_of (kind_of_head h)) → IsOctets (length (covers (leading h stop vs ∷ outer)))
unfolding IsOpenTree covers
before_tail h stop vs [] s e = fields_whole h stop vs e
before_tail h stop vs (p ∷ outer) s e = both_whole (covers (p ∷ outer)) (part (leading h stop vs)) (covered_octets p outer s.1 (head_ready h stop p outer s.0.head)) (fields_whole h stop vs e)

header_long : (h : Head) (stop : ℕ) → IsHead h stop [] → 80 ≤ length (head_digits h)
header_long (message v k n id) stop f = omega (arith, length-message_head v k n id)
header_long (tlv k n) stop f = absurd f
header_long (tv k) stop f = absurd f

alone_length : (b : Begun) → length (head_digits b.head) ≤ length (covers (b ∷ []))
unfolding covers part
alone_length b =
    let body : List Bool = leading_digits (kind_of_head b.head) b.fields b.tail ++ forest_digits b.children in
    let a : length (covers (b ∷ [])) ≡ length (head_digits b.head) + length body = length-append (head_digits b.head) body in
    omega (arith, a)

-- ---- the digits after a place

behind : (front more octets : List ℕ) (a : ℕ) → a ≤ length front → drop a front ≡ octets → drop (8 * a) (digits_of_bytes (front ++ more)) ≡ digits_of_bytes octets ++ digits_of_bytes more
behind front more octets a le d =
    drop-bytes a (front ++ more) (let l = length-append front more in omega (arith, l, le))
    ∙ ap (λ (x : List ℕ). digits_of_bytes x) (drop-append-le a front more le ∙ ap (λ (x : List ℕ). x ++ more) d) ∙ bytes-append octets more

on : (front more : List ℕ) (k : ℕ) → k ≤ length front → drop (8 * k) (digits_of_bytes (front ++ more)) ≡ drop (8 * k) (digits_of_bytes front) ++ digits_of_bytes more
on front more k le =
    ap (λ (x : List Bool). drop (8 * k) x) (bytes-append front more)
    ∙ drop-append-le (8 * k) (digits_of_bytes front) (digits_of_bytes more) (let l = length-bytes front in omega (arith, l, le))

-- ---- octets that are read

none_at : (xs : List Bool) → octets_at 0 xs ≡ []
unfolding octets_at
none_at xs = refl

split_at : (m n : ℕ) (xs : List Bool) → octets_at (m + n) xs ≡ octets_at m xs ++ octets_at n (drop (8 * m) xs)
unfolding octets_at
split_at zero n xs =
    let e : zero + n ≡ n = omega arith in
    let z : 0 ≡ 8 * zero = omega arith in
    ap (λ (k : ℕ). octets_at k xs) e ∙ ap (λ (k : ℕ). octets_at n (drop k xs)) z
split_at (suc m) n xs =
    let e : suc m + n ≡ suc (m + n) = omega arith in
    let p : 8 + 8 * m ≡ 8 * suc m = omega arith in
    ap (λ (k : ℕ). octets_at k xs) e
    ∙ ap (λ (l : List ℕ). value (take 8 xs) ∷ l) (split_at m n (drop 8 xs) ∙ ap (λ (y : List Bool). octets_at m (drop 8 xs) ++ octets_at n y) (drop-drop (8 * m) 8 xs ∙ ap (λ (k : ℕ). drop k xs) p))

front_at : (k : ℕ) (os : List ℕ) (later : List Bool) → AreOctets os → k ≤ length os → octets_at k (digits_of_bytes os ++ later) ≡ take k os
unfolding octets_at
front_at zero os later h le = refl
front_at (suc k) [] later h le = absurd (omega (arith, le))
front_at (suc k) (o ∷ os) later h le =
    let e : digits_of_bytes (o ∷ os) ++ later ≡ digits 8 o ++ (digits_of_bytes os ++ later) = ap (λ (x : List Bool). x ++ later) (bytes-cons o os) ∙ append_assoc (digits 8 o) (digits_of_bytes os) later in
    rw (e, number_own 8 o (digits_of_bytes os ++ later) h.0, drop_own 8 o (digits_of_bytes os ++ later), front_at k os later h.1 (omega (arith, le))) refl

-- ---- a fault of a tail

all_tell : {p : KindSet} (front : List ℕ) (n : ℕ) (h : Head) (stop : ℕ) (vs : List ℕ) (outer : List Begun) (at : ℕ) (e : FrameErr) → Reaches p front n (leading h stop vs ∷ outer) at
    → drop (length vs) (fields_of (kind_of_head h)) ≡ [] → has_tail (tail_of (kind_of_head h)) ≡ true
    → ((more : List ℕ) → length (front ++ more) ≡ n → FailsFirst (tail_checks (tail_of (kind_of_head h)) (plain_values (fields_of (kind_of_head h)) vs) at stop (drop at (digits_of_bytes (front ++ more)))) e)
    → (more : List ℕ) → length (front ++ more) ≡ n → TellsAt (digits_of_bytes (front ++ more)) (leading h stop vs ∷ outer) e
unfolding checks
all_tell front n h stop vs outer at e reach all has f = λ more long.
    let ds : List Bool = digits_of_bytes (front ++ more) in
    tells_at ds (leading h stop vs) outer at ReadTail e (stands_in front more n (leading h stop vs ∷ outer) at reach long) (tail_turn h stop vs [] outer [] at (drop at ds) all has) (f more long)

text_fails : (fields : List ℕ) (at stop : ℕ) (rest : List Bool) (bit : ℕ) → at + 16 ≤ stop → tail_end Text fields at stop rest ≤ stop → is_utf8 (tail_at Text fields (stop - at) rest) ≡ false
    → at + 16 + 8 * utf8_valid_len (tail_at Text fields (stop - at) rest) ≡ bit → FailsFirst (tail_checks Text fields at stop rest) (Bad (record { bit = bit; reason = Utf8 }))
text_fails fields at stop rest bit room le bad e =
    rw (le-leb (at + 16) stop room, le-leb (tail_end Text fields at stop rest) stop le, bad) (ap (λ (n : ℕ). Some (n, Utf8)) e)

-- ---- what is whole of some octets

none_whole : (f : Tail) → has_tail f ≡ true → AreWhole f []
none_whole Absent h = absurd cc
none_whole Words h = (0, refl)
none_whole Text h = IsUtf8-nil
none_whole Bits h = tt
none_whole Data h = tt

pub used_within : (f : Tail) (near : List ℕ) (used : ℕ) → HasWhole f near used → used ≤ length near
used_within Absent near used h = absurd h
used_within Words near used h = omega (arith, h)
used_within Text near used h = let l = utf8_valid_len_le near in omega (arith, h, l)
used_within Bits near used h = omega (arith, h)
used_within Data near used h = omega (arith, h)

pub piece_whole : (f : Tail) (near : List ℕ) (used : ℕ) → HasWhole f near used → AreWhole f (take used near)
piece_whole Absent near used h = absurd h
piece_whole Words near used h = (length near / 2, length-take-le used near (omega (arith, h)) ∙ omega (arith, h))
piece_whole Text near used h = subst (λ (n : ℕ). IsUtf8 (take n near)) (sym h) (valid_is_text near)
piece_whole Bits near used h = tt
piece_whole Data near used h = tt

more_whole : (f : Tail) (xs ys : List ℕ) → AreWhole f xs → AreWhole f ys → AreWhole f (xs ++ ys)
more_whole Absent xs ys a b = absurd a
more_whole Words xs ys a b = (a.0 + b.0, length-append xs ys ∙ omega (arith, a.1, b.1))
more_whole Text xs ys a b = IsUtf8-append xs ys a b
more_whole Bits xs ys a b = tt
more_whole Data xs ys a b = tt

-- fewer than 4 octets are all that are left
pub far_of : (n left : ℕ) → (n < 4 → n ≡ left) → (n ≡ left) ⊎ (4 ≤ n)
far_of n left f =
    (elim (nat_le 4 n) as (λ b. nat_le 4 n ≡ b → (n ≡ left) ⊎ (4 ≤ n)) [
      | true ↦ λ t. inr (leb-true 4 n t)
      | false ↦ λ q. inl (f (let lt = leb-false 4 n q in omega (arith, lt)))
    ]) refl

-- where none is whole, few octets are there, and fewer than are left of the tail
few_there : (f : Tail) (near : List ℕ) (there left : ℕ) → HasWhole f near 0 → length near ≡ min there left → 1 ≤ left → (f ≡ Words → (w : ℕ) × (left ≡ 2 * w)) → (f ≡ Text → (length near < left) × (length near < 4)) → (there < left) × (there < 4)
few_there Absent near there left h e some even text = absurd h
few_there Words near there left h e some even text = let w = even refl in (omega (arith, h, e, some, w.1), omega (arith, h, e, some, w.1))
few_there Text near there left h e some even text = let t = text refl in (omega (arith, e, t.0), omega (arith, e, t.0, t.1))
few_there Bits near there left h e some even text = (omega (arith, h, e, some), omega (arith, h, e, some))
few_there Data near there left h e some even text = (omega (arith, h, e, some), omega (arith, h, e, some))

first_one : (vs : List ℕ) → first vs ≡ first (plain_values (any_field "BitCount" 16 ∷ []) vs)
first_one [] = refl
first_one (v ∷ vs) = refl

-- bits are the tail of no message
not_bits : (form : Tail) → (form ≡ Absent) ⊎ (form ≡ Data) → form ≡ Bits → ⊥
not_bits form (inl is) e = absurd (let z : Absent ≡ Bits = sym is ∙ e in cc)
not_bits form (inr is) e = absurd (let z : Data ≡ Bits = sym is ∙ e in cc)

first_plain : (kind : Kind) (vs : List ℕ) → tail_of kind ≡ Bits → first vs ≡ first (plain_values (fields_of kind) vs)
first_plain (Message k) vs e = absurd (not_bits (tail_of (Message k)) (message_form k) e)
first_plain (Parameter k) vs e = first_one vs ∙ ap (λ (rs : List FieldRule). first (plain_values rs vs)) (sym (bits_field k e))

-- ---- a tail begins

module _ (r : BodyReader) (front : List ℕ) (b : Begun) (outer : List Begun) (shape : Tail)
    (rd : HasReadTo r front b outer) (s : r.stage ≡ stage.Leading (length (fields_of r.top.kind))) (f : tail_of r.top.kind ≡ shape) (has : has_tail shape ≡ true) where
  abbrev pub led : IsLeading (length (fields_of r.top.kind)) r front b outer
  led = subst (λ (x : Stage). IsAtStage x r front b outer) s rd.stage

  shape_is : form b ≡ shape
  shape_is = ap tail_of rd.level.kind ∙ f

  has_one : has_tail (form b) ≡ true
  has_one = ap has_tail shape_is ∙ has

  pub all_there : length b.fields ≡ length (rules b)
  all_there = led.count ∙ ap (λ (k : Kind). length (fields_of k)) (sym rd.level.kind)

  none_left : drop (length b.fields) (rules b) ≡ []
  none_left = drop_all (rules b) (length b.fields) all_there

  pub at_octet : r.bit ≡ 0
  at_octet =
      let c = before_tail b.head b.stop b.fields outer (subst (λ (x : Begun). IsOpenTree (x ∷ outer)) led.bare led.reaches.is_open) all_there in
      let l = covered_length front r.octets (b ∷ outer) (bit_of r) led.reaches in
      let same = ap (λ (x : Begun). length (covers (x ∷ outer))) led.bare in
      let small = rd.bit_small in
      omega (arith, c.1, l, same, small)

  pub bare_reaches : Reaches r.set front r.octets (leading b.head b.stop b.fields ∷ outer) (8 * r.at)
  bare_reaches =
      let place : bit_of r ≡ 8 * r.at = omega (arith, at_octet) in
      subst (λ (n : ℕ). Reaches r.set front r.octets (leading b.head b.stop b.fields ∷ outer) n) place (subst (λ (x : Begun). Reaches r.set front r.octets (x ∷ outer) (bit_of r)) led.bare led.reaches)

  pub after_two : 2 ≤ r.at
  after_two =
      let a = after_header b outer led.reaches.is_open in
      let l = covered_length front r.octets (b ∷ outer) (bit_of r) led.reaches in
      omega (arith, a, l, at_octet)

  pub known : shape ≡ Bits → r.first ≡ first (plain_values (rules b) b.fields)
  known e = led.first_is ∙ first_plain (kind_of_head b.head) b.fields (shape_is ∙ e)

  pub is_before_tail : IsBeforeTail (b ∷ outer) shape
  is_before_tail = record { node = b; outer = outer; tree_is = refl; form_is = shape_is; all_fields = all_there; untailed = ap (λ (x : Begun). x.tail) led.bare }

  count_fails : (octets : List ℕ) (e : FrameErr) → drop r.at front ≡ octets → ((later : List Bool) → FailsFirst (tail_checks shape (plain_values (rules b) b.fields) (8 * r.at) (8 * r.top.stop) (digits_of_bytes octets ++ later)) e) → (more : List ℕ)
      → FailsFirst (tail_checks (form b) (plain_values (rules b) b.fields) (8 * r.at) b.stop (drop (8 * r.at) (digits_of_bytes (front ++ more)))) e
  count_fails octets e d g more =
      let x : List Bool = digits_of_bytes octets ++ digits_of_bytes more in
      let plain : List ℕ = plain_values (rules b) b.fields in
      subst (λ (y : List Bool). FailsFirst (tail_checks (form b) plain (8 * r.at) b.stop y) e) (sym (behind front more octets r.at rd.before d))
      (subst (λ (n : ℕ). FailsFirst (tail_checks (form b) plain (8 * r.at) n x) e) (sym rd.level.stop)
      (subst (λ (t : Tail). FailsFirst (tail_checks t plain (8 * r.at) (8 * r.top.stop) x) e) (sym shape_is) (g (digits_of_bytes more))))

  count_decides : (octets : List ℕ) (e : FrameErr) → drop r.at front ≡ octets → ((later : List Bool) → FailsFirst (tail_checks shape (plain_values (rules b) b.fields) (8 * r.at) (8 * r.top.stop) (digits_of_bytes octets ++ later)) e) → (shape ≢ Bits → r.at + 2 ≤ r.top.stop → 2 ≤ length octets)
      → IsDecidedFor (b ∷ outer) front r.octets e
  count_decides octets Memory d g two = tt
  count_decides octets (Bad x) d g two =
      let lo : length octets ≡ length front - r.at = sym (ap (λ (x : List ℕ). length x) d) ∙ length-drop r.at front in
      let P : Begun → Type 0 = λ y. (x.reason ≡ Utf8) ⊎ AreDeciding (8 * length front) front r.octets (y ∷ outer) in
      subst P (sym led.bare)
      (count_decided front r.octets b.head b.stop b.fields outer (8 * r.at) bare_reaches none_left has_one x.bit x.reason (λ more long. count_fails octets (Bad x) d g more) (λ ne room.
      let t = two (λ z. ne (shape_is ∙ z)) (omega (arith, room, rd.level.stop)) in
      omega (arith, t, lo, rd.before)))

  pub count_tells : (octets : List ℕ) (e : FrameErr) → drop r.at front ≡ octets → ((later : List Bool) → FailsFirst (tail_checks shape (plain_values (rules b) b.fields) (8 * r.at) (8 * r.top.stop) (digits_of_bytes octets ++ later)) e) → (shape ≢ Bits → r.at + 2 ≤ r.top.stop → 2 ≤ length octets)
      → TellsFor r.set (b ∷ outer) front r.octets e
  count_tells octets e d g two = record {
    tree = leading b.head b.stop b.fields ∷ outer;
    is = inl (ap (λ (x : Begun). x ∷ outer) led.bare);
    root = bare_reaches.root;
    tells = all_tell front r.octets b.head b.stop b.fields outer (8 * r.at) e bare_reaches none_left has_one (λ more long. count_fails octets e d g more);
    decided = count_decides octets e d g two;
  }

  pub count_undecided : (octets : List ℕ) → drop r.at front ≡ octets → shape ≢ Bits → shape ≢ Data → 8 * r.at + 16 ≤ 8 * r.top.stop → length octets < 2 → IsUndecided front r.octets (settled r.stage b ∷ outer)
  count_undecided octets d ne nd room few =
      let lo : length octets ≡ length front - r.at = sym (ap (λ (x : List ℕ). length x) d) ∙ length-drop r.at front in
      let stop = rd.level.stop in
      let w = count_waits front r.octets b.head b.stop b.fields outer (8 * r.at) bare_reaches none_left has_one (λ e. ne (sym shape_is ∙ e)) (λ e. nd (sym shape_is ∙ e)) (omega (arith, room, stop)) (omega (arith, lo, few)) in
      subst (λ (x : Stage). IsUndecided front r.octets (settled x b ∷ outer)) (sym s) (subst (λ (x : Begun). IsUndecided front r.octets (x ∷ outer)) (sym led.bare) w)

  pub tail_begun : (octets : List ℕ) (now : BodyReader) (count left : ℕ) → drop r.at front ≡ octets → now.at ≡ r.at + count → now.bit ≡ r.bit → now.octets ≡ r.octets → now.set ≡ r.set
      → count ≡ count_octets shape → count ≤ length octets → 8 * r.at + 8 * (count + left) ≤ 8 * r.top.stop
      → ((later : List Bool) → left ≡ tail_length shape (plain_values (rules b) b.fields) (8 * r.top.stop - 8 * r.at) (digits_of_bytes octets ++ later))
      → IsTailing left now front (begin_node b.head b.stop b.fields (Some []) none) outer
  tail_begun octets now count left d at bit same set c fits room many =
      let lo : length octets ≡ length front - r.at = sym (ap (λ (x : List ℕ). length x) d) ∙ length-drop r.at front in
      let size : count_octets (form b) ≡ count_octets shape = ap count_octets shape_is in
      let stop = rd.level.stop in
      let le = rd.before in
      let plain : List ℕ = plain_values (rules b) b.fields in
      record {
        so_far = [];
        from = r.at;
        is = refl;
        all_fields = all_there;
        has = has_one;
        aligned = bit ∙ at_octet;
        place = at ∙ omega (arith, c, size);
        reaches = subst (λ (q : KindSet). Reaches q front now.octets (leading b.head b.stop b.fields ∷ outer) (8 * r.at)) (sym set) (subst (λ (n : ℕ). Reaches r.set front n (leading b.head b.stop b.fields ∷ outer) (8 * r.at)) (sym same) bare_reaches);
        length_is = λ later. ap (λ (n : ℕ). tail_length (form b) plain (n - 8 * r.at) (drop (8 * r.at) (digits_of_bytes front) ++ later)) stop ∙ ap (λ (x : List Bool). tail_length (form b) plain (8 * r.top.stop - 8 * r.at) (x ++ later)) (drop-bytes r.at front le ∙ ap (λ (x : List ℕ). digits_of_bytes x) d)
            ∙ ap (λ (t : Tail). tail_length t plain (8 * r.top.stop - 8 * r.at) (digits_of_bytes octets ++ later)) shape_is ∙ (sym (many later) ∙ omega arith);
        inside = omega (arith, at, room, stop);
        before = omega (arith, at, lo, le, fits);
        read = λ later. none_at (drop (8 * (r.at + count_octets (form b))) (digits_of_bytes front) ++ later);
        units = none_whole (form b) has_one;
      }

pub tail_work : (r n : BodyReader) (left k : ℕ) → n.bit ≡ r.bit → n.outer ≡ r.outer → rank n.stage < rank r.stage → work n (left - k) < work r left
unfolding work
tail_work r n left k b o s = let e = ap (λ (x : ArrayVec _). length x.items) o in omega (arith, b, e, s)

-- ---- a tail goes on and ends

module _ (left : ℕ) (r : BodyReader) (front : List ℕ) (b : Begun) (outer : List Begun) (t : IsTailing left r front b outer) where
  abbrev plain : List ℕ
  plain = plain_values (rules b) b.fields

  start : t.from + count_octets (form b) ≤ length front
  start = let p = t.place in let le = t.before in omega (arith, p, le)

  none_more : drop (length b.fields) (rules b) ≡ []
  none_more = drop_all (rules b) (length b.fields) t.all_fields

  long_tail : (more : List ℕ) → tail_length (form b) plain (b.stop - 8 * t.from) (drop (8 * t.from) (digits_of_bytes (front ++ more))) ≡ length t.so_far + left
  long_tail more = ap (λ (x : List Bool). tail_length (form b) plain (b.stop - 8 * t.from) x) (on front more t.from (let l = start in omega (arith, l))) ∙ t.length_is (digits_of_bytes more)

  end_is : (more : List ℕ) → tail_end (form b) plain (8 * t.from) b.stop (drop (8 * t.from) (digits_of_bytes (front ++ more))) ≡ 8 * (r.at + left)
  end_is more = let l = long_tail more in let p = t.place in omega (arith, l, p)

  tail_from : (more : List ℕ) → drop (8 * count_octets (form b)) (drop (8 * t.from) (digits_of_bytes (front ++ more))) ≡ drop (8 * (t.from + count_octets (form b))) (digits_of_bytes front) ++ digits_of_bytes more
  tail_from more =
      let e : 8 * t.from + 8 * count_octets (form b) ≡ 8 * (t.from + count_octets (form b)) = omega arith in
      drop-drop (8 * count_octets (form b)) (8 * t.from) (digits_of_bytes (front ++ more)) ∙ ap (λ (k : ℕ). drop k (digits_of_bytes (front ++ more))) e ∙ on front more (t.from + count_octets (form b)) start

  text_of : form b ≡ Text → IsUtf8 t.so_far
  text_of e = subst (λ (f : Tail). AreWhole f t.so_far) e t.units

  pub ended : left ≡ 0 → Reaches r.set front r.octets (b ∷ outer) (8 * r.at)
  ended z =
      let le = t.before in
      reaches_in front r.octets (b ∷ outer) (8 * r.at) t.reaches.fits (omega (arith, le)) t.reaches.root (λ more long.
      let ds : List Bool = digits_of_bytes (front ++ more) in
      let rest : List Bool = drop (8 * t.from) ds in
      let e = end_is more in
      let to : tail_end (form b) plain (8 * t.from) b.stop rest ≡ 8 * r.at = e ∙ omega (arith, z) in
      let many : tail_length (form b) plain (b.stop - 8 * t.from) rest ≡ length t.so_far = long_tail more ∙ omega (arith, z) in
      let is : tail_at (form b) plain (b.stop - 8 * t.from) rest ≡ t.so_far = ap (λ (k : ℕ). octets_at k (drop (8 * count_octets (form b)) rest)) many ∙ ap (λ (x : List Bool). octets_at (length t.so_far) x) (tail_from more) ∙ t.read (digits_of_bytes more) in
      let inside = t.inside in
      let g = grow_tail b.head b.stop b.fields outer ds (8 * t.from) (stands_in front more r.octets (leading b.head b.stop b.fields ∷ outer) (8 * t.from) t.reaches long) t.all_fields t.has (omega (arith, e, inside)) (λ x. ap is_utf8 is ∙ is_utf8-from_IsUtf8 t.so_far (text_of x)) in
      subst (λ (x : Begun). IsAt ds (x ∷ outer) (8 * r.at)) (sym t.is)
      (subst (λ (n : ℕ). IsAt ds (begin_node b.head b.stop b.fields (Some t.so_far) none ∷ outer) n) to
      (subst (λ (x : List ℕ). IsAt ds (begin_node b.head b.stop b.fields (Some x) none ∷ outer) (tail_end (form b) plain (8 * t.from) b.stop rest)) is g)))

  done_due : (os : List ℕ) → due (begin_node b.head b.stop b.fields (Some os) none) ≡ Rest
  unfolding due
  done_due os = rw none_more refl

  pub ready_due : due b ≡ Rest
  ready_due = ap due t.is ∙ done_due t.so_far

  pub tail_undecided : length front < r.at + left → IsUndecided front r.octets (leading b.head b.stop b.fields ∷ outer)
  tail_undecided lt =
      tail_waits front r.octets b.head b.stop b.fields outer (8 * t.from) t.reaches none_more t.has (λ more long.
      let e = end_is more in
      let inside = t.inside in
      (omega (arith, e, inside), omega (arith, e, lt)))

  pub even_left : form b ≡ Words → (w : ℕ) × (left ≡ 2 * w)
  even_left e =
      let xs : List Bool = drop (8 * t.from) (digits_of_bytes front) ++ [] in
      let u : AreWhole Words t.so_far = subst (λ (f : Tail). AreWhole f t.so_far) e t.units in
      let l : tail_length Words plain (b.stop - 8 * t.from) xs ≡ length t.so_far + left = ap (λ (f : Tail). tail_length f plain (b.stop - 8 * t.from) xs) (sym e) ∙ t.length_is [] in
      (value (take 16 (drop 0 xs)) - u.0, omega (arith, l, u.1))

  pub is_in_tail : (shape : Tail) → form b ≡ shape → IsInTail (b ∷ outer) shape
  is_in_tail shape e = record { node = b; outer = outer; tree_is = refl; form_is = e; so_far = t.so_far; tail_is = ap (λ (x : Begun). x.tail) t.is }

  -- the whole tail: what is read, and what is left
  whole_tail : (more : List ℕ) → tail_at (form b) plain (b.stop - 8 * t.from) (drop (8 * t.from) (digits_of_bytes (front ++ more))) ≡ t.so_far ++ octets_at left (drop (8 * r.at) (digits_of_bytes (front ++ more)))
  whole_tail more =
      let ds : List Bool = digits_of_bytes (front ++ more) in
      let c : ℕ = 8 * count_octets (form b) in
      let rest : List Bool = drop (8 * t.from) ds in
      let n : ℕ = length t.so_far in
      let a : octets_at n (drop c rest) ≡ t.so_far = ap (λ (x : List Bool). octets_at n x) (tail_from more) ∙ t.read (digits_of_bytes more) in
      let p : 8 * t.from + (c + 8 * n) ≡ 8 * r.at = (let q = t.place in omega (arith, q)) in
      let far : drop (8 * n) (drop c rest) ≡ drop (8 * r.at) ds = drop-drop (8 * n) c rest ∙ drop-drop (c + 8 * n) (8 * t.from) ds ∙ ap (λ (k : ℕ). drop k ds) p in
      ap (λ (k : ℕ). octets_at k (drop c rest)) (long_tail more) ∙ split_at n left (drop c rest) ∙ ap (λ (x : List ℕ). x ++ octets_at left (drop (8 * n) (drop c rest))) a ∙ ap (λ (x : List Bool). t.so_far ++ octets_at left x) far

  pub text_tells : (octets near : List ℕ) → drop r.at front ≡ octets → AreOctets octets → near ≡ take (min (length octets) left) octets → form b ≡ Text → 1 ≤ left → utf8_valid_len near ≡ 0 → (length near ≡ left) ⊎ (4 ≤ length near)
      → TellsFor r.set (b ∷ outer) front r.octets (Bad (record { bit = 8 * r.at; reason = Utf8 }))
  text_tells octets near d are near_is e some nothing far =
      let le = t.before in
      let k : ℕ = min (length octets) left in
      let long_near : length near ≡ k = ap (λ (x : List ℕ). length x) near_is ∙ length-take-le k octets (omega arith) in
      record {
        tree = leading b.head b.stop b.fields ∷ outer;
        is = inr (refl, refl);
        root = t.reaches.root;
        decided = inl refl;
        tells = all_tell front r.octets b.head b.stop b.fields outer (8 * t.from) (Bad (record { bit = 8 * r.at; reason = Utf8 })) t.reaches none_more t.has (λ more long.
            let ds : List Bool = digits_of_bytes (front ++ more) in
            let rest : List Bool = drop (8 * t.from) ds in
            let x : List Bool = digits_of_bytes octets ++ digits_of_bytes more in
            let there : drop (8 * r.at) ds ≡ x = behind front more octets r.at le d in
            let others : List ℕ = octets_at left x in
            let many : length others ≡ left = length-octets_at left x in
            let q : left ≡ k + (left - k) = omega arith in
            let parts : others ≡ near ++ octets_at (left - k) (drop (8 * k) x) = ap (λ (m : ℕ). octets_at m x) q ∙ split_at k (left - k) x ∙ ap (λ (y : List ℕ). y ++ octets_at (left - k) (drop (8 * k) x)) (front_at k octets (digits_of_bytes more) are (omega arith) ∙ sym near_is) in
            let begins : take (length near) others ≡ near = ap (λ (y : List ℕ). take (length near) y) parts ∙ take-append-le (length near) near (octets_at (left - k) (drop (8 * k) x)) (omega arith) ∙ take_all (length near) near (omega arith) in
            let reached : (near ≡ others) ⊎ (4 ≤ length near) = elim far [ inl same ↦ inl (sym begins ∙ take_all (length near) others (omega (arith, same, many))) | inr four ↦ inr four ] in
            let valid : IsUtf8 t.so_far = text_of e in
            let one : 1 ≤ length others = omega (arith, many, some) in
            let within : length near ≤ length others = omega (arith, many, long_near) in
            let len = valid_is t.so_far near others valid begins one within nothing reached in
            let bad = not_text t.so_far near others valid begins one within nothing reached in
            let tail : tail_at Text plain (b.stop - 8 * t.from) rest ≡ t.so_far ++ others = ap (λ (f : Tail). tail_at f plain (b.stop - 8 * t.from) rest) (sym e) ∙ whole_tail more ∙ ap (λ (y : List Bool). t.so_far ++ octets_at left y) there in
            let end : tail_end Text plain (8 * t.from) b.stop rest ≡ 8 * (r.at + left) = ap (λ (f : Tail). tail_end f plain (8 * t.from) b.stop rest) (sym e) ∙ end_is more in
            let size : count_octets (form b) ≡ 2 = ap count_octets e in
            let place = t.place in
            let inside = t.inside in
            let valid_len : utf8_valid_len (tail_at Text plain (b.stop - 8 * t.from) rest) ≡ length t.so_far = ap utf8_valid_len tail ∙ len in
            subst (λ (f : Tail). FailsFirst (tail_checks f plain (8 * t.from) b.stop rest) (Bad (record { bit = 8 * r.at; reason = Utf8 }))) (sym e)
            (text_fails plain (8 * t.from) b.stop rest (8 * r.at) (omega (arith, place, size, inside)) (omega (arith, end, inside)) (ap is_utf8 tail ∙ bad) (omega (arith, valid_len, place, size))));
      }

  pub went_on : (octets near : List ℕ) (now : BodyReader) (used : ℕ) → drop r.at front ≡ octets → AreOctets octets → near ≡ take (min (length octets) left) octets → HasWhole (form b) near used
      → now.at ≡ r.at + used → now.bit ≡ r.bit → now.octets ≡ r.octets → now.set ≡ r.set → IsTailing (left - used) now front (begin_node b.head b.stop b.fields (Some (t.so_far ++ take used near)) none) outer
  went_on octets near now used d are near_is h at bit same set =
      let k : ℕ = min (length octets) left in
      let long_near : length near ≡ k = ap (λ (x : List ℕ). length x) near_is ∙ length-take-le k octets (omega arith) in
      let fits = used_within (form b) near used h in
      let piece : List ℕ = take used near in
      let long_piece : length piece ≡ used = length-take-le used near fits in
      let n : ℕ = length t.so_far in
      let total : length (t.so_far ++ piece) ≡ n + used = length-append t.so_far piece ∙ omega (arith, long_piece) in
      let le = t.before in
      let lo : length octets ≡ length front - r.at = sym (ap (λ (x : List ℕ). length x) d) ∙ length-drop r.at front in
      let place = t.place in
      let inside = t.inside in
      let c : ℕ = 8 * (t.from + count_octets (form b)) in
      let a : List Bool = drop c (digits_of_bytes front) in
      let long_a : length a ≡ 8 * length front - c = length-drop c (digits_of_bytes front) ∙ (let l = length-bytes front in omega (arith, l)) in
      let p : c + 8 * n ≡ 8 * r.at = omega (arith, place) in
      let a_on : drop (8 * n) a ≡ digits_of_bytes octets = drop-drop (8 * n) c (digits_of_bytes front) ∙ ap (λ (m : ℕ). drop m (digits_of_bytes front)) p ∙ drop-bytes r.at front le ∙ ap (λ (x : List ℕ). digits_of_bytes x) d in
      let same_piece : take used octets ≡ piece = sym (ap (λ (x : List ℕ). take used x) near_is ∙ take_take used k octets (omega (arith, fits, long_near))) in
      record {
        so_far = t.so_far ++ piece;
        from = t.from;
        is = refl;
        all_fields = t.all_fields;
        has = t.has;
        aligned = bit ∙ t.aligned;
        place = at ∙ omega (arith, place, total);
        reaches = subst (λ (q : KindSet). Reaches q front now.octets (leading b.head b.stop b.fields ∷ outer) (8 * t.from)) (sym set) (subst (λ (m : ℕ). Reaches r.set front m (leading b.head b.stop b.fields ∷ outer) (8 * t.from)) (sym same) t.reaches);
        length_is = λ later. t.length_is later ∙ omega (arith, total, fits, long_near);
        inside = omega (arith, at, inside, fits, long_near);
        before = omega (arith, at, lo, le, fits, long_near);
        read = λ later.
            ap (λ (m : ℕ). octets_at m (a ++ later)) total ∙ split_at n used (a ++ later)
            ∙ ap (λ (x : List ℕ). x ++ octets_at used (drop (8 * n) (a ++ later))) (t.read later)
            ∙ ap (λ (x : List ℕ). t.so_far ++ x) (ap (λ (x : List Bool). octets_at used x) (drop-append-le (8 * n) a later (omega (arith, long_a, p, le)) ∙ ap (λ (x : List Bool). x ++ later) a_on) ∙ front_at used octets later are (omega (arith, fits, long_near)) ∙ same_piece);
        units = more_whole (form b) t.so_far piece t.units (piece_whole (form b) near used h);
      }

  pub waits_few : (octets near : List ℕ) → near ≡ take (min (length octets) left) octets → HasWhole (form b) near 0 → 1 ≤ left → (form b ≡ Text → (length near < left) × (length near < 4)) → (length octets < left) × (length octets < 4)
  waits_few octets near near_is h some text =
      let k : ℕ = min (length octets) left in
      let long_near : length near ≡ k = ap (λ (x : List ℕ). length x) near_is ∙ length-take-le k octets (omega arith) in
      few_there (form b) near (length octets) left h long_near some even_left text

pub more_work : (r n : BodyReader) (left used : ℕ) → 1 ≤ used → used ≤ left → n.bit ≡ 0 → r.bit ≡ 0 → n.outer ≡ r.outer → rank n.stage ≡ rank r.stage → work n (left - used) < work r left
unfolding work
more_work r n left used one le nb rb o s = let e = ap (λ (x : ArrayVec _). length x.items) o in omega (arith, one, le, nb, rb, e, s)
