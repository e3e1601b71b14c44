-- The head of a child, as a step of an open tree.
use Rattle.std.proofs.Common.{◌≡◌, ℕ, ◌+◌, ◌-◌, ◌*◌, ◌<◌, ◌≤◌, Bool, true, false, ◌&&◌, ◌⊎◌, inl, inr, List, [], ◌∷◌, ◌++◌, length, take, drop, map, Option, Some, refl, sym, ap, subst, ◌∙◌, arith}
use Rattle.std.specs.Prelude.{nat_le, if◌then◌else◌}
use Rattle.std.specs.Str.{is_utf8, IsUtf8}
use Rattle.std.specs.Str.Lossy.{utf8_valid_len}
use Rattle.std.proofs.lemmas.Str.{is_utf8-from_IsUtf8}
use Rattle.std.proofs.lemmas.Bool.{le-leb, lt-leb}
use Rattle.std.proofs.lemmas.List.{drop-drop}
use Rattle.tag_bits.specs.Digits.{value, digits_of_bytes, field}
use Rattle.llrp_schema.specs.declared.kinds.ParamKind.{ParamKind}
use Rattle.llrp_schema.specs.declared.kinds.Kind.{Kind}
use Rattle.llrp_schema.specs.declared.kinds.Tail.TheVariants.{Text}
use Rattle.llrp_schema.specs.declared.kinds.KindSet.{KindSet}
use Rattle.llrp_schema.specs.declared.kinds.Group.{Group}
use Rattle.llrp_schema.specs.Schema.{GroupRule, groups_of, set_of_kind, is_tv}
use Rattle.llrp_schema.specs.Calls.Schema.{group_rule}
use Rattle.llrp_tree.specs.declared.TheConstants.{MAX_DEPTH}
use Rattle.llrp_tree.specs.declared.fault.Reason.{Reason}
use Rattle.llrp_tree.specs.declared.fault.Reason.TheVariants.{Extra, ParamLength, Utf8}
use Rattle.llrp_tree.specs.declared.fault.FrameErr.{FrameErr}
use Rattle.llrp_tree.specs.declared.fault.FrameErr.TheVariants.{Memory, Bad}
use Rattle.llrp_tree.specs.Tree.{Forest}
use Rattle.llrp_tree.specs.Lawful.{AreOctets, has_place}
use Rattle.llrp_tree.specs.Spelling.{Head, message, tlv, tv}
use Rattle.llrp_tree.specs.OpenTree.{root_of, Begun, kind_of_head, due, Rest, takes_more, MayBegin, IsHead}
use Rattle.llrp_tree.specs.FirstFault.{number, tail_at, tail_end, tv_kind, tlv_kind, tlv_octets, first_digit, Check, first_failing, tail_checks, kind_checks, tlv_checks, checks, NextPart, Close, NoChild, BeginTv, BeginTlv, next_part, has_ended, has_none}
use Rattle.llrp_tree.specs.Calls.Standing.{IsAt, begin_node, leading}
use Rattle.llrp_tree.specs.Private.Standing.{FailsFirst, Tells, KindPasses, TlvPasses, TailSpans, is_tv_kind}
use Rattle.llrp_tree.proofs.OctetLemmas.{not_utf8}
use Rattle.llrp_tree.proofs.Growing.{grow_tlv, grow_tv}
use Rattle.llrp_tree.proofs.Telling.{fault_is}
use Rattle.llrp_tree.proofs.Totality.{octet_left}
use Rattle.llrp_tree.proofs.ReadingLemmas.{tells, octets_are}
use Rattle.llrp_tree.proofs.BodyLemmas.{head_of_tree as outer_head}

-- ---- text

module _ (bs : List ℕ) (fields : List ℕ) (at stop n : ℕ) (o : AreOctets bs) (le : stop ≤ length bs) (is : n ≡ number (drop (8 * at) (digits_of_bytes bs)) 0 16) (fit : at + 2 + n ≤ stop) (os : List ℕ) (are : os ≡ take n (drop (at + 2) bs)) where
  abbrev rest : List Bool
  rest = drop (8 * at) (digits_of_bytes bs)

  text_octets : tail_at Text fields (8 * stop - 8 * at) rest ≡ os
  text_octets =
      let place : 16 + 8 * at ≡ 8 * (at + 2) = omega arith in
      ap (λ (k : ℕ). Rattle.llrp_tree.specs.FirstFault.octets_at k (drop 16 rest)) (sym is)
      ∙ ap (λ (x : List Bool). Rattle.llrp_tree.specs.FirstFault.octets_at n x) (drop-drop 16 (8 * at) (digits_of_bytes bs) ∙ ap (λ (k : ℕ). drop k (digits_of_bytes bs)) (omega arith))
      ∙ octets_are bs (at + 2) n o (omega (arith, fit, le)) ∙ sym are

  pub text_spans : IsUtf8 os → TailSpans Text fields (8 * at) (8 * stop) rest (8 * (at + 2)) (8 * (at + 2 + n))
  text_spans u = record { begins = omega arith; ends = omega (arith, is); within = omega (arith, fit); text = λ t. ap is_utf8 text_octets ∙ is_utf8-from_IsUtf8 os u }

  pub text_fails : (v : ℕ) (e : FrameErr) → (IsUtf8 os → ⊥) → v ≡ utf8_valid_len os → e ≡ Bad (record { bit = 8 * (at + 2 + v); reason = Utf8 }) → FailsFirst (tail_checks Text fields (8 * at) (8 * stop) rest) e
  text_fails v e none_text valid told =
      let bad : is_utf8 (tail_at Text fields (8 * stop - 8 * at) rest) ≡ false = ap is_utf8 text_octets ∙ sym (not_utf8 os none_text) in
      let len : utf8_valid_len (tail_at Text fields (8 * stop - 8 * at) rest) ≡ v = ap utf8_valid_len text_octets ∙ sym valid in
      let bit : 8 * at + 16 + 8 * utf8_valid_len (tail_at Text fields (8 * stop - 8 * at) rest) ≡ 8 * (at + 2 + v) = omega (arith, len) in
      let room : 8 * at + 16 ≤ 8 * stop = omega (arith, fit) in
      let ends : tail_end Text fields (8 * at) (8 * stop) rest ≤ 8 * stop = omega (arith, fit, is) in
      subst (FailsFirst (tail_checks Text fields (8 * at) (8 * stop) rest)) (sym told)
      (rw (le-leb (8 * at + 16) (8 * stop) room, le-leb (tail_end Text fields (8 * at) (8 * stop) rest) (8 * stop) ends, bad) (ap (λ (m : ℕ). let p : Option (ℕ × Reason) = Some (m, Utf8) in p) bit))

-- ---- the checks of a head with a length

first_before : (xs ys : List Check) (f : ℕ × Reason) → first_failing xs ≡ Some f → first_failing (xs ++ ys) ≡ Some f
first_before [] ys f e = absurd cc
first_before (x ∷ xs) ys f e =
    (elim x.holds as (λ b. (if b then first_failing xs else Some (x.bit, x.reason)) ≡ Some f → (if b then first_failing (xs ++ ys) else Some (x.bit, x.reason)) ≡ Some f)
    [ true ↦ λ h. first_before xs ys f h | false ↦ λ h. h ]) e

pub and_not : (b : Bool) → (b && false) ≡ false
and_not true = refl
and_not false = refl

module _ (pr : KindSet) (gs : List GroupRule) (cs : Forest) (level at stop : ℕ) (rest : List Bool) (room : at + 32 ≤ stop) (zeros : number rest 0 6 ≡ 0) where
  pub kind_fails : (e : FrameErr) → FailsFirst (kind_checks (tlv_kind pr rest) gs cs level at (at + 6)) e → FailsFirst (tlv_checks pr gs cs level at stop rest) e
  kind_fails Memory f = f
  kind_fails (Bad x) f = rw (le-leb (at + 32) stop room, zeros) (first_before (kind_checks (tlv_kind pr rest) gs cs level at (at + 6)) _ (x.bit, x.reason) f)

  module _ (k : ParamKind) (p : KindPasses (tlv_kind pr rest) gs cs level k) (n : ℕ) (is : n ≡ tlv_octets rest) where
    pub length_fails : (e : FrameErr) → (n < 4) ⊎ (stop < at + 8 * n) → e ≡ Bad (record { bit = at + 16; reason = ParamLength }) → FailsFirst (tlv_checks pr gs cs level at stop rest) e
    length_fails e (inl lt) told = subst (FailsFirst (tlv_checks pr gs cs level at stop rest)) (sym told) (rw (le-leb (at + 32) stop room, zeros, p.is, ← is, p.has, p.takes, le-leb level MAX_DEPTH p.deep, lt-leb 4 n lt) refl)
    length_fails e (inr lt) told = subst (FailsFirst (tlv_checks pr gs cs level at stop rest)) (sym told) (rw (le-leb (at + 32) stop room, zeros, p.is, ← is, p.has, p.takes, le-leb level MAX_DEPTH p.deep, lt-leb (at + 8 * n) stop lt, and_not (nat_le 4 n)) refl)

-- ---- a child that begins

-- a number further on
pub number_on : (at n w : ℕ) (ds : List Bool) (m : ℕ) → m ≡ value (field ds (at + n) w) → m ≡ number (drop at ds) n w
number_on at n w ds m e = e ∙ ap (λ (x : List Bool). value (take w x)) (sym (drop-drop n at ds))

pub none_of : (gs : List Group) (hs : List GroupRule) → map group_rule gs ≡ hs → length gs ≡ 0 → has_none hs ≡ true
none_of [] hs same e = ap has_none (sym same)
none_of (g ∷ gs) hs same e = absurd (omega (arith, e))

pub some_of : (gs : List Group) (hs : List GroupRule) → map group_rule gs ≡ hs → (length gs ≡ 0 → ⊥) → has_none hs ≡ false
some_of [] hs same e = absurd (e refl)
some_of (g ∷ gs) hs same e = ap has_none (sym same)

pub digit_is_zero : (xs : List Bool) → 0 ≡ value (take 1 xs) → first_digit xs ≡ false
unfolding value
digit_is_zero [] e = refl
digit_is_zero (true ∷ xs) e = absurd (omega arith)
digit_is_zero (false ∷ xs) e = refl

pub digit_is_one : (xs : List Bool) → (0 ≡ value (take 1 xs) → ⊥) → first_digit xs ≡ true
unfolding value
digit_is_one [] e = absurd (e refl)
digit_is_one (true ∷ xs) e = refl
digit_is_one (false ∷ xs) e = absurd (e (omega arith))

not_over_yet : (h : Head) (kind : Kind) (stop at : ℕ) (outer : List Begun) → IsHead h stop outer → kind_of_head h ≡ kind → is_tv_kind kind ≡ false → at < stop → has_ended h (nat_le stop at) ≡ false
not_over_yet (message v k n id) kind stop at outer i e f lt = lt-leb stop at lt
not_over_yet (tlv k n) kind stop at outer i e f lt = lt-leb stop at lt
not_over_yet (tv k) kind stop at [] i e f lt = absurd i
not_over_yet (tv k) kind stop at (p ∷ outer) i e f lt = absurd (let z : is_tv k ≡ false = ap is_tv_kind e ∙ f in let y = i.kind_is_tv in cc)

module _ (ds : List Bool) (h : Head) (stop : ℕ) (fs : List ℕ) (tl : Option (List ℕ)) (siblings : Forest) (outer : List Begun) (at : ℕ) (parent : Kind) (level : ℕ)
    (k : kind_of_head h ≡ parent) (l : length outer ≡ level) (d : due (begin_node h stop fs tl siblings) ≡ Rest) (st : IsAt ds (begin_node h stop fs tl siblings ∷ outer) at) (lt : at < stop) (long : is_tv_kind parent ≡ false) where
  abbrev pub here : Begun
  here = begin_node h stop fs tl siblings

  over : has_ended h (nat_le stop at) ≡ false
  over = not_over_yet h parent stop at outer (outer_head here outer st.is_open) k long lt

  some_groups : (b : Bool) → has_none (groups_of parent) ≡ b → has_none (groups_of (kind_of_head h)) ≡ b
  some_groups b e = ap (λ (j : Kind). has_none (groups_of j)) k ∙ e

  extra_turn : has_none (groups_of parent) ≡ true → next_part here at (drop at ds) ≡ NoChild
  unfolding next_part
  extra_turn g = rw (d, over, some_groups true g) refl

  extra_first : first_failing (checks NoChild (length (here ∷ outer)) here at (drop at ds)) ≡ Some (at, Extra)
  unfolding checks
  extra_first = refl

  pub extra_tells : (e : FrameErr) → has_none (groups_of parent) ≡ true → e ≡ Bad (record { bit = at; reason = Extra }) → Tells (root_of h outer) ds e
  extra_tells e g told = subst (Tells (root_of h outer) ds) (sym told) (fault_is ds here outer at NoChild at Extra st (extra_turn g) extra_first)

  tv_turn : has_none (groups_of parent) ≡ false → first_digit (drop at ds) ≡ true → next_part here at (drop at ds) ≡ BeginTv
  unfolding next_part
  tv_turn g z = rw (d, over, some_groups false g, z) refl

  tlv_turn : has_none (groups_of parent) ≡ false → first_digit (drop at ds) ≡ false → next_part here at (drop at ds) ≡ BeginTlv
  unfolding next_part
  tlv_turn g z = rw (d, over, some_groups false g, z) refl

  at_level : level + 1 ≡ length (here ∷ outer)
  at_level = omega (arith, l)

  pub tv_tells : (e : FrameErr) → has_none (groups_of parent) ≡ false → first_digit (drop at ds) ≡ true → FailsFirst (kind_checks (tv_kind (set_of_kind parent) (drop at ds)) (groups_of parent) siblings (level + 1) at (at + 1)) e → Tells (root_of h outer) ds e
  unfolding checks
  tv_tells e g z f =
      let P : Kind → Type 0 = λ j. FailsFirst (kind_checks (tv_kind (set_of_kind j) (drop at ds)) (groups_of j) siblings (length (here ∷ outer)) at (at + 1)) e in
      let Q : ℕ → Type 0 = λ n. FailsFirst (kind_checks (tv_kind (set_of_kind parent) (drop at ds)) (groups_of parent) siblings n at (at + 1)) e in
      tells ds here outer at BeginTv e st (tv_turn g z) (subst P (sym k) (subst Q at_level f))

  pub tlv_tells : (e : FrameErr) → has_none (groups_of parent) ≡ false → first_digit (drop at ds) ≡ false → FailsFirst (tlv_checks (set_of_kind parent) (groups_of parent) siblings (level + 1) at stop (drop at ds)) e → Tells (root_of h outer) ds e
  unfolding checks
  tlv_tells e g z f =
      let P : Kind → Type 0 = λ j. FailsFirst (tlv_checks (set_of_kind j) (groups_of j) siblings (length (here ∷ outer)) at stop (drop at ds)) e in
      let Q : ℕ → Type 0 = λ n. FailsFirst (tlv_checks (set_of_kind parent) (groups_of parent) siblings n at stop (drop at ds)) e in
      tells ds here outer at BeginTlv e st (tlv_turn g z) (subst P (sym k) (subst Q at_level f))

  may_begin : (found : Option ParamKind) (c : ParamKind) → KindPasses found (groups_of parent) siblings (level + 1) c → MayBegin here c
  may_begin found c p =
      let P : Kind → Type 0 = λ j. has_place (groups_of j) c ≡ true in
      let Q : Kind → Type 0 = λ j. takes_more (groups_of j) c siblings ≡ true in
      record { ready = d; has = subst P (sym k) p.has; more = subst Q (sym k) p.takes }

  pub tv_begun : (c : ParamKind) → first_digit (drop at ds) ≡ true → KindPasses (tv_kind (set_of_kind parent) (drop at ds)) (groups_of parent) siblings (level + 1) c → IsAt ds (leading (tv c) stop [] ∷ here ∷ outer) (at + 8)
  tv_begun c z p = grow_tv here outer ds at c st (octet_left ds here outer at st d lt) z (subst (λ (j : Kind). tv_kind (set_of_kind j) (drop at ds) ≡ Some c) (sym k) p.is) (may_begin (tv_kind (set_of_kind parent) (drop at ds)) c p) (omega (arith, p.deep, at_level))

  pub tlv_begun : (c : ParamKind) (n : ℕ) → TlvPasses (set_of_kind parent) (groups_of parent) siblings (level + 1) at stop (drop at ds) c n → IsAt ds (leading (tlv c n) (at + 8 * n) [] ∷ here ∷ outer) (at + 32)
  tlv_begun c n p =
      let P : ℕ → Type 0 = λ m. IsAt ds (leading (tlv c m) (at + 8 * m) [] ∷ here ∷ outer) (at + 32) in
      subst P (sym p.octets_are) (grow_tlv here outer ds at c st p.room p.zeros (subst (λ (j : Kind). tlv_kind (set_of_kind j) (drop at ds) ≡ Some c) (sym k) p.placed.is) (may_begin (tlv_kind (set_of_kind parent) (drop at ds)) c p.placed) (omega (arith, p.placed.deep, at_level)) (omega (arith, p.least, p.octets_are)) (omega (arith, p.most, p.octets_are)))
