-- A fault, with the open tree in which it is found.
use Rattle.std.proofs.Common.{◌≡◌, ◌≢◌, inl, inr, ℕ, None, Option, ◌&&◌, ◌==◌, ◌+◌, ◌*◌, Bool, true, false, List, [], ◌∷◌, ◌++◌, length, drop, Some, refl, sym, ap, subst, ◌∙◌, arith}
use Rattle.std.specs.Prelude.{nat_le}
use Rattle.std.proofs.lemmas.List.{append-nil}
use Rattle.tag_bits.specs.Digits.{digits_of_bytes}
use Rattle.llrp_schema.specs.declared.kinds.Kind.{Kind}
use Rattle.llrp_schema.specs.declared.kinds.KindSet.{KindSet}
use Rattle.llrp_schema.specs.Schema.{FieldRule, GroupRule, fields_of, groups_of, set_of_kind}
use Rattle.llrp_tree.specs.declared.fault.FrameErr.{FrameErr}
use Rattle.llrp_tree.specs.declared.fault.FrameErr.TheVariants.{Memory, Bad}
use Rattle.llrp_tree.specs.declared.fault.Reason.TheVariants.{Extra, Utf8, ParamType, Misplaced, TooMany, TooDeep, ParamLength, Short, Reserved}
use Rattle.llrp_tree.specs.declared.fault.Reason.{Reason}
use Rattle.llrp_tree.specs.declared.TheConstants.{MAX_DEPTH}
use Rattle.llrp_tree.specs.Tree.{Forest}
use Rattle.llrp_tree.specs.Lawful.{has_place}
use Rattle.llrp_schema.specs.declared.kinds.ParamKind.{ParamKind}
use Rattle.llrp_tree.specs.Spelling.{Head}
use Rattle.llrp_tree.specs.OpenTree.{Begun, covers, due, Rest, kind_of_head, root_set, takes_more}
use Rattle.llrp_tree.specs.FirstFault.{Check, check, number, tlv_kind, tlv_octets, first_failing, checks, NextPart, ReadField, NoChild, BeginTv, BeginTlv, next_part, next_fault, field_checks, kind_checks, tlv_checks, tv_kind, first_digit, has_none, has_ended}
use Rattle.llrp_tree.specs.Calls.Standing.{IsAt, leading}
use Rattle.llrp_tree.specs.Private.Standing.{FailsFirst, Tells}
use Rattle.llrp_tree.proofs.ReadDigits.{length_covered}
use Rattle.llrp_tree.proofs.LastPart.{field_turn}
use Rattle.llrp_stream.specs.Calls.Front.{AreDeciding}
use Rattle.llrp_stream.specs.Private.Reading.{HeadFails}
use Rattle.llrp_stream.specs.Private.Front.{IsOfNoText, IsDecidedFor, TellsAll, TellsAt, TellsFor}

-- a check that fails at a reader's place is a fault of its open tree
pub tells_at : (ds : List Bool) (b : Begun) (outer : List Begun) (at : ℕ) (tn : NextPart) (e : FrameErr) → IsAt ds (b ∷ outer) at → next_part b at (drop at ds) ≡ tn
    → FailsFirst (checks tn (length (b ∷ outer)) b at (drop at ds)) e → TellsAt ds (b ∷ outer) e
unfolding next_fault
tells_at ds b outer at tn Memory st t f = tt
tells_at ds b outer at tn (Bad x) st t f =
    let long = length_covered (covers (b ∷ outer)) at ds st.covered st.within in
    let M : ℕ → Type 0 = λ n. first_failing (checks (next_part b n (drop at ds)) (length (b ∷ outer)) b n (drop at ds)) ≡ Some (x.bit, x.reason) in
    record { at = at; stands = st; fails = subst M (sym long) (ap (λ (u : NextPart). first_failing (checks u (length (b ∷ outer)) b at (drop at ds))) t ∙ f) }

-- a fault of an open tree is one of the digits
pub tells_of : (p : KindSet) (ds : List Bool) (t : List Begun) (e : FrameErr) → root_set t ≡ p → TellsAt ds t e → Tells p ds e
tells_of p ds t Memory own f = tt
tells_of p ds t (Bad x) own f = record { tree = t; at = f.at; stands = f.stands; fails = f.fails; root = own }

pub tells_all : (p : KindSet) (t : List Begun) (front : List ℕ) (n : ℕ) (e : FrameErr) → TellsFor p t front n e → TellsAll p front n e
tells_all p t front n e f = λ more long. tells_of p (digits_of_bytes (front ++ more)) f.tree e f.root (f.tells more long)

pub field_tells_at : (ds : List Bool) (kind : Kind) (h : Head) (stop : ℕ) (vs : List ℕ) (outer : List Begun) (at : ℕ) (r : FieldRule) (after : List FieldRule) (e : FrameErr)
    → kind_of_head h ≡ kind → drop (length vs) (fields_of kind) ≡ r ∷ after → IsAt ds (leading h stop vs ∷ outer) at → FailsFirst (field_checks r at stop (drop at ds)) e → TellsAt ds (leading h stop vs ∷ outer) e
unfolding checks
field_tells_at ds kind h stop vs outer at r after e k d st x =
    tells_at ds (leading h stop vs) outer at (ReadField r) e st (field_turn h stop vs 0 outer [] r after (ap (λ (j : Kind). drop (length vs) (fields_of j)) k ∙ d) at (drop at ds)) x

-- the head of a child
module _ (ds : List Bool) (b : Begun) (outer : List Begun) (at : ℕ) (parent : Kind)
    (k : kind_of_head b.head ≡ parent) (d : due b ≡ Rest) (st : IsAt ds (b ∷ outer) at) (over : has_ended b.head (nat_le b.stop at) ≡ false) where
  some_groups : (v : Bool) → has_none (groups_of parent) ≡ v → has_none (groups_of (kind_of_head b.head)) ≡ v
  some_groups v e = ap (λ (j : Kind). has_none (groups_of j)) k ∙ e

  extra_turn : has_none (groups_of parent) ≡ true → next_part b at (drop at ds) ≡ NoChild
  unfolding next_part
  extra_turn g = rw (d, over, some_groups true g) refl

  extra_first : first_failing (checks NoChild (length (b ∷ outer)) b at (drop at ds)) ≡ Some (at, Extra)
  unfolding checks
  extra_first = refl

  pub extra_tells_at : (e : FrameErr) → has_none (groups_of parent) ≡ true → e ≡ Bad (record { bit = at; reason = Extra }) → TellsAt ds (b ∷ outer) e
  extra_tells_at e g told = subst (TellsAt ds (b ∷ outer)) (sym told) (tells_at ds b outer at NoChild (Bad (record { bit = at; reason = Extra })) st (extra_turn g) extra_first)

  tv_turn : has_none (groups_of parent) ≡ false → first_digit (drop at ds) ≡ true → next_part b at (drop at ds) ≡ BeginTv
  unfolding next_part
  tv_turn g z = rw (d, over, some_groups false g, z) refl

  tlv_turn : has_none (groups_of parent) ≡ false → first_digit (drop at ds) ≡ false → next_part b at (drop at ds) ≡ BeginTlv
  unfolding next_part
  tlv_turn g z = rw (d, over, some_groups false g, z) refl

  at_level : length outer + 1 ≡ length (b ∷ outer)
  at_level = omega arith

  pub tv_tells_at : (e : FrameErr) → has_none (groups_of parent) ≡ false → first_digit (drop at ds) ≡ true → FailsFirst (kind_checks (tv_kind (set_of_kind parent) (drop at ds)) (groups_of parent) b.children (length outer + 1) at (at + 1)) e → TellsAt ds (b ∷ outer) e
  unfolding checks
  tv_tells_at e g z f =
      let P : Kind → Type 0 = λ j. FailsFirst (kind_checks (tv_kind (set_of_kind j) (drop at ds)) (groups_of j) b.children (length (b ∷ outer)) at (at + 1)) e in
      let Q : ℕ → Type 0 = λ n. FailsFirst (kind_checks (tv_kind (set_of_kind parent) (drop at ds)) (groups_of parent) b.children n at (at + 1)) e in
      tells_at ds b outer at BeginTv e st (tv_turn g z) (subst P (sym k) (subst Q at_level f))

  pub tlv_tells_at : (e : FrameErr) → has_none (groups_of parent) ≡ false → first_digit (drop at ds) ≡ false → FailsFirst (tlv_checks (set_of_kind parent) (groups_of parent) b.children (length outer + 1) at b.stop (drop at ds)) e → TellsAt ds (b ∷ outer) e
  unfolding checks
  tlv_tells_at e g z f =
      let P : Kind → Type 0 = λ j. FailsFirst (tlv_checks (set_of_kind j) (groups_of j) b.children (length (b ∷ outer)) at b.stop (drop at ds)) e in
      let Q : ℕ → Type 0 = λ n. FailsFirst (tlv_checks (set_of_kind parent) (groups_of parent) b.children n at b.stop (drop at ds)) e in
      tells_at ds b outer at BeginTlv e st (tlv_turn g z) (subst P (sym k) (subst Q at_level f))

-- the front decides a fault
pub decided_for : (t : List Begun) (front : List ℕ) (n : ℕ) (e : FrameErr) → AreDeciding (8 * length front) front n t → IsDecidedFor t front n e
decided_for t front n Memory d = tt
decided_for t front n (Bad x) d = inr d

-- ---- a child's head fails for no text

-- the reason that checks give
abbrev pub reason_in : Option (ℕ × Reason) → Reason
reason_in None = Short
reason_in (Some f) = f.1

pub no_kind_text : (found : Option ParamKind) (groups : List GroupRule) (children : Forest) (level at type_at : ℕ) (more : List Check) (bit : ℕ) (reason : Reason) → (first_failing more ≡ Some (bit, reason) → reason ≢ Utf8)
    → first_failing (kind_checks found groups children level at type_at ++ more) ≡ Some (bit, reason) → reason ≢ Utf8
no_kind_text None groups children level at type_at more bit reason f e = (let same : ParamType ≡ reason = ap reason_in e in λ z. let w : ParamType ≡ Utf8 = same ∙ z in cc)
no_kind_text (Some kind) groups children level at type_at more bit reason f e = by_tests (has_place groups kind) (takes_more groups kind children) (nat_le level MAX_DEPTH) e
  where
    by_tests : (has takes deep : Bool) → first_failing (check has at Misplaced ∷ check takes at TooMany ∷ check deep at TooDeep ∷ more) ≡ Some (bit, reason) → reason ≢ Utf8
    by_tests false takes deep e = (let same : Misplaced ≡ reason = ap reason_in e in λ z. let w : Misplaced ≡ Utf8 = same ∙ z in cc)
    by_tests true false deep e = (let same : TooMany ≡ reason = ap reason_in e in λ z. let w : TooMany ≡ Utf8 = same ∙ z in cc)
    by_tests true true false e = (let same : TooDeep ≡ reason = ap reason_in e in λ z. let w : TooDeep ≡ Utf8 = same ∙ z in cc)
    by_tests true true true e = f e

pub no_more_text : (bit : ℕ) (reason : Reason) → first_failing [] ≡ Some (bit, reason) → reason ≢ Utf8
no_more_text bit reason e = absurd cc

pub no_length_text : (long : Bool) (at bit : ℕ) (reason : Reason) → first_failing (check long at ParamLength ∷ []) ≡ Some (bit, reason) → reason ≢ Utf8
no_length_text true at bit reason e = absurd cc
no_length_text false at bit reason e = (let same : ParamLength ≡ reason = ap reason_in e in λ z. let w : ParamLength ≡ Utf8 = same ∙ z in cc)

pub no_head_text : (room zeros : Bool) (at : ℕ) (more : List Check) (bit : ℕ) (reason : Reason) → (first_failing more ≡ Some (bit, reason) → reason ≢ Utf8) → first_failing (check room at Short ∷ check zeros at Reserved ∷ more) ≡ Some (bit, reason) → reason ≢ Utf8
no_head_text false zeros at more bit reason f e = (let same : Short ≡ reason = ap reason_in e in λ z. let w : Short ≡ Utf8 = same ∙ z in cc)
no_head_text true false at more bit reason f e = (let same : Reserved ≡ reason = ap reason_in e in λ z. let w : Reserved ≡ Utf8 = same ∙ z in cc)
no_head_text true true at more bit reason f e = f e

pub head_no_text : (p : KindSet) (groups : List GroupRule) (children : Forest) (level at stop : ℕ) (rest : List Bool) (e : FrameErr) → HeadFails p groups children level at stop rest e → IsOfNoText e
head_no_text p groups children level at stop rest Memory f = tt
head_no_text p groups children level at stop rest (Bad x) (inl f) = (let same : x.reason ≡ Extra = cc (f.1) in λ z. let w : Extra ≡ Utf8 = sym same ∙ z in cc)
head_no_text p groups children level at stop rest (Bad x) (inr (inl f)) = no_kind_text (tv_kind p rest) groups children level at (at + 1) [] x.bit x.reason (no_more_text x.bit x.reason) (ap first_failing (append-nil (kind_checks (tv_kind p rest) groups children level at (at + 1))) ∙ f.2)
head_no_text p groups children level at stop rest (Bad x) (inr (inr f)) =
    let last : List Check = check (nat_le 4 (tlv_octets rest) && nat_le (at + 8 * tlv_octets rest) stop) (at + 16) ParamLength ∷ [] in
    no_head_text (nat_le (at + 32) stop) (number rest 0 6 == 0) at (kind_checks (tlv_kind p rest) groups children level at (at + 6) ++ last) x.bit x.reason
    (no_kind_text (tlv_kind p rest) groups children level at (at + 6) last x.bit x.reason (no_length_text (nat_le 4 (tlv_octets rest) && nat_le (at + 8 * tlv_octets rest) stop) (at + 16) x.bit x.reason)) f.2
