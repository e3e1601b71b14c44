-- The digits of the lines of a frame that has a fault are its first ones.
use Rattle.std.proofs.Common.{◌≡◌, ◌⊎◌, inl, inr, ℕ, ◌+◌, ◌*◌, ◌<◌, ◌≤◌, List, [], ◌∷◌, ◌++◌, length, take, drop, Bool, true, false, Option, Some, None, refl, sym, ap, subst, ◌∙◌, arith, append_assoc, length-drop}
use Rattle.std.specs.Prelude.{◌-◌, nat_le, if◌then◌else◌, ◌==◌, ◌&&◌}
use Rattle.std.specs.Str.{is_utf8}
use Rattle.std.specs.Str.Lossy.{utf8_valid_len}
use Rattle.std.proofs.lemmas.Bool.{leb-true, leb-false}
use Rattle.std.proofs.lemmas.List.{drop-drop, take-append-drop}
use Rattle.tag_bits.specs.Digits.{value, digits, digits_of_bytes}
use Rattle.tag_bits.proofs.ByteLemmas.{length-bytes}
use Rattle.llrp_schema.specs.declared.kinds.KindSet.{KindSet}
use Rattle.llrp_schema.specs.declared.kinds.Tail.{Tail}
use Rattle.llrp_schema.specs.declared.kinds.Tail.TheVariants.{Absent, Words, Text, Bits, Data}
use Rattle.llrp_schema.specs.Schema.{FieldRule}
use Rattle.llrp_tree.specs.declared.fault.Reason.{Reason}
use Rattle.llrp_tree.specs.declared.fault.Reason.TheVariants.{Reserved, Version, MessageType, MessageLength, Short, Value, Count, Utf8, ParamType, Misplaced, TooMany, TooDeep, ParamLength, Extra, Missing}
use Rattle.llrp_tree.specs.Spelling.{Head, message, tlv, tv}
use Rattle.llrp_tree.specs.OpenTree.{Begun, form, groups, set, rules, plain_values, in_range, covers, Due, AField, ATail, Rest, due}
use Rattle.llrp_tree.specs.FirstFault.{number, Check, check, first_failing, checks, tail_checks, tail_end, tail_at, kind_checks, tlv_kind, tlv_octets, NextPart, ReadField, BeginTlv, turn_of, next_part, next_fault, first_digit, has_none, has_ended}
use Rattle.llrp_tree.specs.Calls.Standing.{IsAt}
use Rattle.llrp_tree.proofs.ReadDigits.{length_covered, digits_at}
use Rattle.llrp_tree.proofs.Growing.{stops_within}
use Rattle.llrp_tree.proofs.Totality.{covered_octets}
use Rattle.llrp_explain.specs.Calls.ExplainLines.{ExplainLine, digits_of_lines, open_lines}
use Rattle.llrp_explain.specs.Calls.FaultLines.{NamedBits, taken_lines, header_fields, field_fields, count_fields, tv_fields, tlv_fields, part_fields, part_level, refused_lines, ExplainsFault}
use Rattle.llrp_explain.specs.Private.FieldBits.{bits_of_fields}
use Rattle.llrp_explain.proofs.LineDigits.{open_is}

-- ---- fields that lie in the digits

taken_from : (level : ℕ) (fields : List NamedBits) (place : ℕ) (rest : List Bool) → place + bits_of_fields fields ≤ length rest → digits_of_lines (taken_lines level fields place rest) ++ drop (place + bits_of_fields fields) rest ≡ drop place rest
unfolding digits_of_lines taken_lines bits_of_fields
taken_from level [] place rest le = ap (λ (k : ℕ). drop k rest) (let z : place + 0 ≡ place = omega arith in z)
taken_from level (f ∷ fields) place rest le =
    let back : List Bool = drop place rest in
    let own : digits f.bits (value (take f.bits back)) ≡ take f.bits back = digits_at place f.bits rest (omega (arith, le)) in
    let later = taken_from level fields (place + f.bits) rest (omega (arith, le)) in
    let far : drop (place + (f.bits + bits_of_fields fields)) rest ≡ drop ((place + f.bits) + bits_of_fields fields) rest = ap (λ (k : ℕ). drop k rest) (omega arith) in
    let near : drop (place + f.bits) rest ≡ drop f.bits back = sym (drop-drop f.bits place rest ∙ ap (λ (k : ℕ). drop k rest) (omega arith)) in
    append_assoc (digits f.bits (value (take f.bits back))) (digits_of_lines (taken_lines level fields (place + f.bits) rest)) (drop (place + (f.bits + bits_of_fields fields)) rest)
    ∙ ap (λ (x : List Bool). digits f.bits (value (take f.bits back)) ++ (digits_of_lines (taken_lines level fields (place + f.bits) rest) ++ x)) far
    ∙ ap (λ (x : List Bool). digits f.bits (value (take f.bits back)) ++ x) (later ∙ near)
    ∙ ap (λ (x : List Bool). x ++ drop f.bits back) own
    ∙ take-append-drop f.bits back

taken_is : (level : ℕ) (fields : List NamedBits) (rest : List Bool) → bits_of_fields fields ≤ length rest → digits_of_lines (taken_lines level fields 0 rest) ++ drop (bits_of_fields fields) rest ≡ rest
taken_is level fields rest le =
    let z : bits_of_fields fields ≡ 0 + bits_of_fields fields = omega arith in
    ap (λ (k : ℕ). digits_of_lines (taken_lines level fields 0 rest) ++ drop k rest) z ∙ taken_from level fields 0 rest (omega (arith, le))

-- ---- they lie in the frame

-- a header has 80 digits, and its fields before the id 48
pub header_fits : (reason : Reason) (n : ℕ) → 80 ≤ n → bits_of_fields (header_fields reason) ≤ n
unfolding bits_of_fields header_fields
header_fits Reserved n le = omega (arith, le)
header_fits Version n le = omega (arith, le)
header_fits MessageType n le = omega (arith, le)
header_fits MessageLength n le = omega (arith, le)
header_fits Short n le = omega arith
header_fits Value n le = omega arith
header_fits Count n le = omega arith
header_fits Utf8 n le = omega arith
header_fits ParamType n le = omega arith
header_fits Misplaced n le = omega arith
header_fits TooMany n le = omega arith
header_fits TooDeep n le = omega arith
header_fits ParamLength n le = omega arith
header_fits Extra n le = omega arith
header_fits Missing n le = omega arith

-- a field that does not end after its node
field_most : (reason : Reason) (r : FieldRule) → bits_of_fields (field_fields reason r) ≤ r.width
unfolding bits_of_fields field_fields
field_most Reserved r = omega arith
field_most Version r = omega arith
field_most MessageType r = omega arith
field_most MessageLength r = omega arith
field_most Short r = omega arith
field_most Value r = omega arith
field_most Count r = omega arith
field_most Utf8 r = omega arith
field_most ParamType r = omega arith
field_most Misplaced r = omega arith
field_most TooMany r = omega arith
field_most TooDeep r = omega arith
field_most ParamLength r = omega arith
field_most Extra r = omega arith
field_most Missing r = omega arith

count_most : (reason : Reason) (f : Tail) → bits_of_fields (count_fields reason f) ≤ 16
unfolding bits_of_fields count_fields
count_most Count Words = omega arith
count_most Count Text = omega arith
count_most Count Absent = omega arith
count_most Count Bits = omega arith
count_most Count Data = omega arith
count_most Reserved f = omega arith
count_most Version f = omega arith
count_most MessageType f = omega arith
count_most MessageLength f = omega arith
count_most Short f = omega arith
count_most Value f = omega arith
count_most Utf8 f = omega arith
count_most ParamType f = omega arith
count_most Misplaced f = omega arith
count_most TooMany f = omega arith
count_most TooDeep f = omega arith
count_most ParamLength f = omega arith
count_most Extra f = omega arith
count_most Missing f = omega arith

none_bits : (reason : Reason) → bits_of_fields (count_fields reason Bits) ≡ 0
unfolding bits_of_fields count_fields
none_bits Count = refl
none_bits Reserved = refl
none_bits Version = refl
none_bits MessageType = refl
none_bits MessageLength = refl
none_bits Short = refl
none_bits Value = refl
none_bits Utf8 = refl
none_bits ParamType = refl
none_bits Misplaced = refl
none_bits TooMany = refl
none_bits TooDeep = refl
none_bits ParamLength = refl
none_bits Extra = refl
none_bits Missing = refl

pub tlv_most : (reason : Reason) → bits_of_fields (tlv_fields reason) ≤ 32
unfolding bits_of_fields tlv_fields
tlv_most Reserved = omega arith
tlv_most Version = omega arith
tlv_most MessageType = omega arith
tlv_most MessageLength = omega arith
tlv_most Short = omega arith
tlv_most Value = omega arith
tlv_most Count = omega arith
tlv_most Utf8 = omega arith
tlv_most ParamType = omega arith
tlv_most Misplaced = omega arith
tlv_most TooMany = omega arith
tlv_most TooDeep = omega arith
tlv_most ParamLength = omega arith
tlv_most Extra = omega arith
tlv_most Missing = omega arith

short_field : (r : FieldRule) → bits_of_fields (field_fields Short r) ≡ 0
unfolding bits_of_fields field_fields
short_field r = refl

pub short_tlv : bits_of_fields (tlv_fields Short) ≡ 0
unfolding bits_of_fields tlv_fields
short_tlv = refl

short_count : (f : Tail) → bits_of_fields (count_fields Short f) ≡ 0
unfolding bits_of_fields count_fields
short_count f = refl

reason_of : Option (ℕ × Reason) → Reason
reason_of None = Short
reason_of (Some f) = f.1

-- where the first check of a part is that it does not end after its node, it does not, or that check fails
room_or_short : (room : Bool) (at : ℕ) (more : List Check) (bit : ℕ) (reason : Reason) → first_failing (check room at Short ∷ more) ≡ Some (bit, reason) → (room ≡ true) ⊎ (Short ≡ reason)
unfolding reason_of
room_or_short true at more bit reason e = inl refl
room_or_short false at more bit reason e = inr (ap reason_of e)

module _ (b : Begun) (at level : ℕ) (rest : List Bool) (bit : ℕ) (reason : Reason) (most : ℕ) (inside : b.stop ≤ most) where
  on_field : (r : FieldRule) → first_failing (checks (ReadField r) level b at rest) ≡ Some (bit, reason) → at ≤ most → at + bits_of_fields (field_fields reason r) ≤ most
  unfolding checks
  on_field r e le = elim (room_or_short (nat_le (at + r.width) b.stop) at (check (in_range r (number rest 0 r.width)) at (if r.reserved then Reserved else Value) ∷ []) bit reason e) [
    | inl room ↦ omega (arith, leb-true (at + r.width) b.stop room, field_most reason r, inside)
    | inr s ↦ subst (λ (x : Reason). at + bits_of_fields (field_fields x r) ≤ most) s (omega (arith, short_field r, le))
  ]

  on_count : (f : Tail) (fields : List ℕ) → first_failing (tail_checks f fields at b.stop rest) ≡ Some (bit, reason) → at ≤ most → at + bits_of_fields (count_fields reason f) ≤ most
  on_count Words fields e le = elim (room_or_short (nat_le (at + 16) b.stop) at (check (nat_le (tail_end Words fields at b.stop rest) b.stop) at Count ∷ []) bit reason e) [
    | inl room ↦ omega (arith, leb-true (at + 16) b.stop room, count_most reason Words, inside)
    | inr s ↦ subst (λ (x : Reason). at + bits_of_fields (count_fields x Words) ≤ most) s (omega (arith, short_count Words, le))
  ]
  on_count Text fields e le = elim (room_or_short (nat_le (at + 16) b.stop) at (check (nat_le (tail_end Text fields at b.stop rest) b.stop) at Count ∷ check (is_utf8 (tail_at Text fields (b.stop - at) rest)) (at + 16 + 8 * utf8_valid_len (tail_at Text fields (b.stop - at) rest)) Utf8 ∷ []) bit reason e) [
    | inl room ↦ omega (arith, leb-true (at + 16) b.stop room, count_most reason Text, inside)
    | inr s ↦ subst (λ (x : Reason). at + bits_of_fields (count_fields x Text) ≤ most) s (omega (arith, short_count Text, le))
  ]
  on_count Absent fields e le = absurd cc
  on_count Bits fields e le = omega (arith, none_bits reason, le)
  on_count Data fields e le = absurd cc

  on_tlv : first_failing (checks BeginTlv level b at rest) ≡ Some (bit, reason) → at ≤ most → at + bits_of_fields (tlv_fields reason) ≤ most
  unfolding checks
  on_tlv e le = elim (room_or_short (nat_le (at + 32) b.stop) at (check (number rest 0 6 == 0) at Reserved ∷ (kind_checks (tlv_kind (set b) rest) (groups b) b.children level at (at + 6) ++ check (nat_le 4 (tlv_octets rest) && nat_le (at + 8 * tlv_octets rest) b.stop) (at + 16) ParamLength ∷ [])) bit reason e) [
    | inl room ↦ omega (arith, leb-true (at + 32) b.stop room, tlv_most reason, inside)
    | inr s ↦ subst (λ (x : Reason). at + bits_of_fields (tlv_fields x) ≤ most) s (omega (arith, short_tlv, le))
  ]

pub tv_bits : bits_of_fields tv_fields ≡ 8
unfolding bits_of_fields
tv_bits = refl

-- a node that is not at its end ends later
before_end : (h : Head) (stop at : ℕ) → has_ended h (nat_le stop at) ≡ false → at < stop
before_end (message version kind octets id) stop at e = leb-false stop at e
before_end (tlv kind octets) stop at e = leb-false stop at e
before_end (tv kind) stop at e = absurd (let z : true ≡ false = e in cc)

next_octet : (at n k : ℕ) → at ≡ 8 * k → at < 8 * n → at + 8 ≤ 8 * n
next_octet at n k e lt = omega (arith, e, lt)

-- what comes next after an open tree lies in the frame
module _ (b : Begun) (outer : List Begun) (frame : List ℕ) (at : ℕ) (st : IsAt (digits_of_bytes frame) (b ∷ outer) at) (bit : ℕ) (reason : Reason) where
  place : length (covers (b ∷ outer)) ≡ at
  place = length_covered (covers (b ∷ outer)) at (digits_of_bytes frame) st.covered st.within

  size : length (digits_of_bytes frame) ≡ 8 * length frame
  size = length-bytes frame

  on_rest : due b ≡ Rest → (over none digit : Bool) → has_ended b.head (nat_le b.stop at) ≡ over → (rest : List Bool) → first_failing (checks (turn_of Rest over none digit) (length (b ∷ outer)) b at rest) ≡ Some (bit, reason) → at + bits_of_fields (part_fields (turn_of Rest over none digit) reason b) ≤ length (digits_of_bytes frame)
  unfolding bits_of_fields
  on_rest d true none digit o rest e = let w = st.within in omega (arith, w)
  on_rest d false true digit o rest e = let w = st.within in omega (arith, w)
  on_rest d false false true o rest e =
      let k = covered_octets b outer st.is_open d in
      let lt = before_end b.head b.stop at o in
      let i = stops_within b outer st.is_open in
      let n = st.ends in
      let z = next_octet at (length frame) k.0 (sym place ∙ k.1) (omega (arith, lt, i, n, size)) in
      omega (arith, z, size)
  on_rest d false false false o rest e = let i = stops_within b outer st.is_open in let n = st.ends in let w = st.within in on_tlv b at (length (b ∷ outer)) rest bit reason (length (digits_of_bytes frame)) (omega (arith, i, n)) e w

  on_due : (x : Due) → due b ≡ x → (over none digit : Bool) → has_ended b.head (nat_le b.stop at) ≡ over → (rest : List Bool) → first_failing (checks (turn_of x over none digit) (length (b ∷ outer)) b at rest) ≡ Some (bit, reason) → at + bits_of_fields (part_fields (turn_of x over none digit) reason b) ≤ length (digits_of_bytes frame)
  unfolding checks
  on_due (AField r) d over none digit o rest e = let i = stops_within b outer st.is_open in let n = st.ends in let w = st.within in on_field b at (length (b ∷ outer)) rest bit reason (length (digits_of_bytes frame)) (omega (arith, i, n)) r e w
  on_due ATail d over none digit o rest e = let i = stops_within b outer st.is_open in let n = st.ends in let w = st.within in on_count b at (length (b ∷ outer)) rest bit reason (length (digits_of_bytes frame)) (omega (arith, i, n)) (form b) (plain_values (rules b) b.fields) e w
  on_due Rest d over none digit o rest e = on_rest d over none digit o rest e

  pub refused_fits : next_fault (b ∷ outer) (drop at (digits_of_bytes frame)) ≡ Some (bit, reason) → at + bits_of_fields (part_fields (next_part b (length (covers (b ∷ outer))) (drop at (digits_of_bytes frame))) reason b) ≤ length (digits_of_bytes frame)
  unfolding next_fault next_part
  refused_fits e =
      let rest : List Bool = drop at (digits_of_bytes frame) in
      let P : ℕ → Type 0 = λ n. first_failing (checks (next_part b n rest) (length (b ∷ outer)) b n rest) ≡ Some (bit, reason) in
      let Q : ℕ → Type 0 = λ n. at + bits_of_fields (part_fields (next_part b n rest) reason b) ≤ length (digits_of_bytes frame) in
      subst Q (sym place) (on_due (due b) refl (has_ended b.head (nat_le b.stop at)) (has_none (groups b)) (first_digit rest) refl rest (subst P place e))

-- ---- the digits of all lines

-- The digits of a frame are those of the lines, of the refused ones, and others.
abbrev Begin : List ℕ → (lines refused : List ExplainLine) → Type 0
Begin frame lines refused = (others : List Bool) × (digits_of_bytes frame ≡ digits_of_lines lines ++ (digits_of_lines refused ++ others))

tree_begins : (tree : List Begun) (frame : List ℕ) (at bit : ℕ) (reason : Reason) → IsAt (digits_of_bytes frame) tree at → next_fault tree (drop at (digits_of_bytes frame)) ≡ Some (bit, reason) → Begin frame (open_lines tree) (refused_lines tree reason (drop at (digits_of_bytes frame)))
unfolding refused_lines next_fault
tree_begins [] frame at bit reason st e = absurd cc
tree_begins (b ∷ outer) frame at bit reason st e =
    let ds : List Bool = digits_of_bytes frame in
    let rest : List Bool = drop at ds in
    let next : NextPart = next_part b (length (covers (b ∷ outer))) rest in
    let fields : List NamedBits = part_fields next reason b in
    let fits : bits_of_fields fields ≤ length rest = (let f = refused_fits b outer frame at st bit reason e in let l = length-drop at ds in let w = st.within in omega (arith, f, l, w)) in
    let back = taken_is (part_level next (length outer)) fields rest fits in (
      drop (bits_of_fields fields) rest,
      sym (take-append-drop at ds)
          ∙ ap (λ (x : List Bool). x ++ rest) (sym (open_is (b ∷ outer) ∙ st.covered))
          ∙ ap (λ (x : List Bool). digits_of_lines (open_lines (b ∷ outer)) ++ x) (sym back),
    )

header_begins : (frame : List ℕ) (reason : Reason) → 10 ≤ length frame → Begin frame [] (refused_lines [] reason (digits_of_bytes frame))
unfolding refused_lines digits_of_lines
header_begins frame reason ten =
    let ds : List Bool = digits_of_bytes frame in
    let fits : bits_of_fields (header_fields reason) ≤ length ds = header_fits reason (length ds) (omega (arith, length-bytes frame, ten)) in
    (drop (bits_of_fields (header_fields reason)) ds, sym (taken_is 0 (header_fields reason) ds fits))

pub fault_begins : (p : KindSet) (limit : ℕ) (frame : List ℕ) (bit : ℕ) (reason : Reason) (lines refused : List ExplainLine) → 10 ≤ length frame → ExplainsFault p limit frame bit reason lines refused → Begin frame lines refused
unfolding open_lines
fault_begins p limit frame bit reason lines refused ten x =
    let P : List ExplainLine → List ExplainLine → Type 0 = λ l r. Begin frame l r in
    let ds : List Bool = digits_of_bytes frame in
    let begins : Begin frame (open_lines x.tree) (refused_lines x.tree reason (drop x.at ds)) = elim x.is [
      | inl h ↦ subst (λ (n : ℕ). Begin frame (open_lines x.tree) (refused_lines x.tree reason (drop n ds))) (sym h.1) (subst (λ (t : List Begun). Begin frame (open_lines t) (refused_lines t reason ds)) (sym h.0) (header_begins frame reason ten))
      | inr f ↦ tree_begins x.tree frame x.at bit reason f.0 f.1
    ] in
    subst (λ (l : List ExplainLine). P l refused) (sym x.lines_are) (subst (λ (r : List ExplainLine). P (open_lines x.tree) r) (sym x.refused_are) begins)
