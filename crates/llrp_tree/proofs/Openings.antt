-- The last part of an open tree is the head of its innermost node.
use Rattle.std.proofs.Common.{◌≡◌, ℕ, ◌+◌, ◌*◌, ◌<◌, ◌≤◌, Bool, true, false, List, [], ◌∷◌, ◌++◌, length, Some, None, refl, sym, ap, subst, ◌∙◌, arith, append_assoc}
use Rattle.std.specs.Prelude.{nat_le, if◌then◌else◌}
use Rattle.std.proofs.lemmas.List.{append-nil}
use Rattle.std.proofs.lemmas.Bool.{le-leb, lt-leb}
use Rattle.tag_bits.specs.Digits.{digits}
use Rattle.llrp_schema.specs.declared.kinds.ParamKind.{ParamKind}
use Rattle.llrp_schema.specs.declared.kinds.Kind.TheVariants.{Parameter}
use Rattle.llrp_schema.specs.Schema.{GroupRule, groups_of, number_of, set_of_kind, is_tv, tlv_in, tv_in}
use Rattle.llrp_schema.proofs.TableLaws.{tlv_at_number, tv_at_number, tv_groups, param_number_fits}
use Rattle.llrp_schema.proofs.PlaceLemmas.{child_set}
use Rattle.llrp_tree.specs.declared.TheConstants.{MAX_DEPTH}
use Rattle.llrp_tree.specs.Lawful.{has_place}
use Rattle.llrp_tree.specs.Spelling.{Head, message, tlv, tv, head_digits, forest_digits}
use Rattle.llrp_tree.specs.OpenTree.{Begun, set, kind_of_head, leading_digits, part, covers, MayBegin, IsTlvHead, IsTvHead, IsHead, IsOpenTree}
use Rattle.llrp_tree.specs.Calls.OpenTree.{parts}
use Rattle.llrp_tree.specs.FirstFault.{number, tv_kind, tlv_kind, tlv_octets, first_digit, first_failing, checks, BeginTv, BeginTlv, next_part, has_ended, has_none}
use Rattle.llrp_tree.proofs.ReadDigits.{number_own, number_behind, length-more}
use Rattle.llrp_tree.proofs.LengthLemmas.{length-tv}
use Rattle.llrp_tree.proofs.SpellingLemmas.{tv_number}
use Rattle.llrp_tree.proofs.Steps.{begin}
use Rattle.llrp_tree.proofs.LastPart.{Before, next_is, inner_root}

starts_zero : (x : List Bool) → first_digit (digits 6 0 ++ x) ≡ false
unfolding digits
starts_zero x = refl

starts_one : (x : List Bool) → first_digit (digits 1 1 ++ x) ≡ true
unfolding digits
starts_one x = refl

-- what a reader finds in the head of a parameter with type, length and value
pub record ReadsTlv (k : ParamKind) (n : ℕ) (ds : List Bool) : Type 0 where
  pub zeros : number ds 0 6 ≡ 0
  pub type : tlv_kind (set_of_kind (Parameter k)) ds ≡ Some k
  pub octets : tlv_octets ds ≡ n
  pub first : first_digit ds ≡ false

pub reads_tlv : (k : ParamKind) (n : ℕ) (rest : List Bool) → is_tv k ≡ false → n < 65536 → ReadsTlv k n (head_digits (tlv k n) ++ rest)
unfolding head_digits
reads_tlv k n rest f ln =
    let t : ℕ = number_of (Parameter k) in
    let ds : List Bool = digits 6 0 ++ (digits 10 t ++ (digits 16 n ++ rest)) in
    let e : ((digits 6 0 ++ digits 10 t) ++ digits 16 n) ++ rest ≡ ds = simp append_assoc in
    let is_type : number ds 6 10 ≡ t = number_behind 6 0 0 10 (digits 10 t ++ (digits 16 n ++ rest)) ∙ number_own 10 t (digits 16 n ++ rest) (param_number_fits k) in
    subst (λ (x : List Bool). ReadsTlv k n x) (sym e) (record {
      zeros = number_own 6 0 (digits 10 t ++ (digits 16 n ++ rest)) (omega arith);
      type = ap (tlv_in (set_of_kind (Parameter k))) is_type ∙ tlv_at_number k ∙ (rw f refl);
      octets = number_behind 6 0 10 16 (digits 10 t ++ (digits 16 n ++ rest)) ∙ number_behind 10 t 0 16 (digits 16 n ++ rest) ∙ number_own 16 n rest ln;
      first = starts_zero (digits 10 t ++ (digits 16 n ++ rest));
    })

-- and in that of one with type and value
pub record ReadsTv (k : ParamKind) (ds : List Bool) : Type 0 where
  pub type : tv_kind (set_of_kind (Parameter k)) ds ≡ Some k
  pub first : first_digit ds ≡ true

pub reads_tv : (k : ParamKind) (rest : List Bool) → is_tv k ≡ true → ReadsTv k (head_digits (tv k) ++ rest)
unfolding head_digits
reads_tv k rest f =
    let t : ℕ = number_of (Parameter k) in
    let ds : List Bool = digits 1 1 ++ (digits 7 t ++ rest) in
    let is_type : number ds 1 7 ≡ t = number_behind 1 1 0 7 (digits 7 t ++ rest) ∙ number_own 7 t rest (tv_number k f) in
    subst (λ (x : List Bool). ReadsTv k x) (sym (append_assoc (digits 1 1) (digits 7 t) rest)) (record {
      type = ap (tv_in (set_of_kind (Parameter k))) is_type ∙ tv_at_number k ∙ (rw f refl);
      first = starts_one (digits 7 t ++ rest);
    })

-- a parameter with type and value has no groups
pub tv_has_none : (k : ParamKind) (stop : ℕ) (outer : List Begun) → IsHead (tv k) stop outer → groups_of (Parameter k) ≡ []
tv_has_none k stop [] h = absurd h
tv_has_none k stop (p ∷ outer) h = tv_groups k h.kind_is_tv

-- a node that has a group for a child isn't over before its stop
pub not_over : (h : Head) (k : ParamKind) (stop at : ℕ) (outer : List Begun) → IsHead h stop outer → has_place (groups_of (kind_of_head h)) k ≡ true → at < stop → has_ended h (nat_le stop at) ≡ false
not_over (message v m n id) k stop at outer i e lt = lt-leb stop at lt
not_over (tlv j n) k stop at outer i e lt = lt-leb stop at lt
not_over (tv j) k stop at outer i e lt = absurd (let f = ap (λ (gs : List GroupRule). has_place gs k) (tv_has_none j stop outer i) in cc)

pub has_one : (k : ParamKind) (gs : List GroupRule) → has_place gs k ≡ true → has_none gs ≡ false
has_one k [] e = absurd cc
has_one k (g ∷ gs) e = refl

-- a child that may begin in a node is looked for in the node's profile
tlv_there : (p : Begun) (k : ParamKind) (n : ℕ) (ds : List Bool) → ReadsTlv k n ds → MayBegin p k → tlv_kind (set p) ds ≡ Some k
tlv_there p k n ds r o = ap (λ q. tlv_kind q ds) (sym (child_set (kind_of_head p.head) k o.has)) ∙ r.type

tv_there : (p : Begun) (k : ParamKind) (ds : List Bool) → ReadsTv k ds → MayBegin p k → tv_kind (set p) ds ≡ Some k
tv_there p k ds r o = ap (λ q. tv_kind q ds) (sym (child_set (kind_of_head p.head) k o.has)) ∙ r.type

module _ (p : Begun) (outer : List Begun) (rest : List Bool) where
  pub begun_covered : (hb : Head) (stop_b : ℕ) → covers (begin hb stop_b ∷ p ∷ outer) ≡ covers (p ∷ outer) ++ head_digits hb
  unfolding covers part leading_digits forest_digits
  begun_covered hb stop_b = ap (λ (x : List Bool). covers (p ∷ outer) ++ x) (append-nil (head_digits hb))

  opening_turn : (k : ParamKind) (at : ℕ) (ds : List Bool) (digit : Bool) → IsHead p.head p.stop outer → MayBegin p k → at < p.stop → first_digit ds ≡ digit → next_part p at ds ≡ (if digit then BeginTv else BeginTlv)
  unfolding next_part
  opening_turn k at ds digit i o lt e = rw (o.ready, not_over p.head k p.stop at outer i o.has lt, has_one k (groups_of (kind_of_head p.head)) o.has, e) refl

  tlv_passes : (k : ParamKind) (n at : ℕ) (ds : List Bool) → ReadsTlv k n ds → MayBegin p k → 4 ≤ n → at + 8 * n ≤ p.stop → length (p ∷ outer) ≤ MAX_DEPTH
      → first_failing (checks BeginTlv (length (p ∷ outer)) p at ds) ≡ None
  unfolding checks
  tlv_passes k n at ds r o four fit deep =
      rw (le-leb (at + 32) p.stop (omega arith), r.zeros, tlv_there p k n ds r o, r.octets, o.has, o.more, le-leb (length (p ∷ outer)) MAX_DEPTH deep, le-leb 4 n four, le-leb (at + 8 * n) p.stop fit) refl

  tv_passes : (k : ParamKind) (at : ℕ) (ds : List Bool) → ReadsTv k ds → MayBegin p k → length (p ∷ outer) ≤ MAX_DEPTH
      → first_failing (checks BeginTv (length (p ∷ outer)) p at ds) ≡ None
  unfolding checks
  tv_passes k at ds r o deep = rw (tv_there p k ds r o, o.has, o.more, le-leb (length (p ∷ outer)) MAX_DEPTH deep) refl

  pub opened_tlv : (k : ParamKind) (n stop_b : ℕ) → IsTlvHead k n stop_b p outer → IsHead p.head p.stop outer → IsOpenTree (p ∷ outer) → Before (begin (tlv k n) stop_b ∷ p ∷ outer) rest (parts (p ∷ outer))
  opened_tlv k n stop_b f i outer_open =
      let at : ℕ = length (covers (p ∷ outer)) in
      let ds : List Bool = head_digits (tlv k n) ++ rest in
      let r = reads_tlv k n rest f.kind_is_tlv f.most in
      let c = begun_covered (tlv k n) stop_b in
      let four = f.least in
      let fit : at + 8 * n ≤ p.stop = omega (arith, f.stops, f.within) in
      record {
        tree = p ∷ outer;
        left = ds;
        is_open = outer_open;
        same = rw c (sym (append_assoc (covers (p ∷ outer)) (head_digits (tlv k n)) rest));
        step = next_is p outer ds BeginTlv (opening_turn k at ds false i f.may_begin (omega (arith, four)) r.first) (tlv_passes k n at ds r f.may_begin f.least fit f.deep)
            ∙ rw (tlv_there p k n ds r f.may_begin, r.octets, f.stops) refl;
        fewer = refl;
        root = sym (inner_root (begin (tlv k n) stop_b) p outer);
      }

  pub opened_tv : (k : ParamKind) (stop_b : ℕ) → IsTvHead k stop_b p outer → length (covers (begin (tv k) stop_b ∷ p ∷ outer)) ≤ stop_b → IsHead p.head p.stop outer → IsOpenTree (p ∷ outer) → Before (begin (tv k) stop_b ∷ p ∷ outer) rest (parts (p ∷ outer))
  opened_tv k stop_b f inside i outer_open =
      let at : ℕ = length (covers (p ∷ outer)) in
      let ds : List Bool = head_digits (tv k) ++ rest in
      let r = reads_tv k rest f.kind_is_tv in
      let c = begun_covered (tv k) stop_b in
      let long : length (covers (begin (tv k) stop_b ∷ p ∷ outer)) ≡ at + 8 = ap (λ (x : List Bool). length x) c ∙ length-more (covers (p ∷ outer)) (head_digits (tv k)) 8 (length-tv k) in
      record {
        tree = p ∷ outer;
        left = ds;
        is_open = outer_open;
        same = rw c (sym (append_assoc (covers (p ∷ outer)) (head_digits (tv k)) rest));
        step = next_is p outer ds BeginTv (opening_turn k at ds true i f.may_begin (omega (arith, f.stops, inside, long)) r.first) (tv_passes k at ds r f.may_begin f.deep)
            ∙ rw (tv_there p k ds r f.may_begin, f.stops) refl;
        fewer = refl;
        root = sym (inner_root (begin (tv k) stop_b) p outer);
      }
