-- Where the engine waits for octets, the front does not decide what comes next.
use Rattle.llrp_schema.specs.declared.kinds.KindSet.{KindSet}
use Rattle.std.proofs.Common.{◌≡◌, ◌≢◌, ◌⊎◌, inl, inr, ℕ, ◌+◌, ◌-◌, ◌*◌, ◌<◌, ◌≤◌, Bool, true, false, List, [], ◌∷◌, ◌++◌, length, drop, Option, Some, None, refl, sym, ap, subst, ◌∙◌, arith}
use Rattle.std.specs.Prelude.{nat_le, if◌then◌else◌}
use Rattle.std.specs.Str.{is_utf8}
use Rattle.std.specs.Str.Lossy.{utf8_valid_len}
use Rattle.std.proofs.lemmas.Bool.{leb-true, le-leb}
use Rattle.tag_bits.specs.Digits.{digits_of_bytes}
use Rattle.llrp_schema.specs.declared.kinds.Tail.{Tail}
use Rattle.llrp_schema.specs.declared.kinds.Tail.TheVariants.{Absent, Words, Text, Bits, Data}
use Rattle.llrp_schema.specs.Schema.{FieldRule, fields_of, tail_of}
use Rattle.llrp_tree.specs.Spelling.{Head}
use Rattle.llrp_tree.specs.OpenTree.{Begun, kind_of_head, groups, has_tail, plain_values, due, Rest}
use Rattle.llrp_tree.specs.declared.fault.Reason.{Reason}
use Rattle.llrp_tree.specs.declared.fault.Reason.TheVariants.{Reserved, Version, MessageType, MessageLength, Short, Value, Count, Utf8, ParamType, Misplaced, TooMany, TooDeep, ParamLength, Extra, Missing}
use Rattle.llrp_tree.specs.FirstFault.{Check, check, first_failing, tail_checks, tail_at, NextPart, ReadField, ReadTail, NoChild, BeginTv, BeginTlv, next_part, turn_of, tail_end, first_digit, has_none, has_ended}
use Rattle.llrp_tree.specs.Calls.Standing.{leading}
use Rattle.llrp_tree.proofs.LastPart.{field_turn, tail_turn}
use Rattle.llrp_tree.specs.Calls.Deciding.{deciding_tail, deciding_of, deciding}
use Rattle.llrp_stream.specs.Calls.Front.{AreDeciding, Reaches, IsUndecided}
use Rattle.llrp_stream.proofs.Bounds.{covered_length}
use Rattle.llrp_tree.proofs.Undecided.{deciding_is}

-- the front ends before the bit that decides, whatever comes after it
pub undecided : {p : KindSet} (front : List ℕ) (n : ℕ) (b : Begun) (outer : List Begun) (at : ℕ) → Reaches p front n (b ∷ outer) at
    → ((more : List ℕ) → length (front ++ more) ≡ n → (tn : NextPart) × (next_part b at (drop at (digits_of_bytes (front ++ more))) ≡ tn) × (8 * length front < deciding_of tn b at (drop at (digits_of_bytes (front ++ more)))))
    → IsUndecided front n (b ∷ outer)
undecided front n b outer at r f = λ more long.
    let c = covered_length front n (b ∷ outer) at r in
    let w = f more long in
    let P : ℕ → Type 0 = λ k. 8 * length front < deciding (b ∷ outer) (drop k (digits_of_bytes (front ++ more))) in
    subst P (sym c) (subst (λ (k : ℕ). 8 * length front < k) (sym (deciding_is b outer at (drop at (digits_of_bytes (front ++ more))) w.0 c w.1)) w.2)

pub field_waits : {p : KindSet} (front : List ℕ) (n : ℕ) (h : Head) (stop : ℕ) (vs : List ℕ) (outer : List Begun) (at : ℕ) (r : FieldRule) (after : List FieldRule) → Reaches p front n (leading h stop vs ∷ outer) at
    → drop (length vs) (fields_of (kind_of_head h)) ≡ r ∷ after → at + r.width ≤ stop → 8 * length front < at + r.width → IsUndecided front n (leading h stop vs ∷ outer)
field_waits front n h stop vs outer at r after reach nx room lt =
    undecided front n (leading h stop vs) outer at reach (λ more long.
    (ReadField r, field_turn h stop vs 0 outer [] r after nx at (drop at (digits_of_bytes (front ++ more))), rw (le-leb (at + r.width) stop room) lt))

count_bit : (form : Tail) (fields : List ℕ) (at stop : ℕ) (rest : List Bool) → has_tail form ≡ true → form ≢ Bits → form ≢ Data → at + 16 ≤ stop → at + 16 ≤ deciding_tail form fields at stop rest
count_bit Absent fields at stop rest h ne nd le = absurd cc
count_bit Words fields at stop rest h ne nd le =
    rw (le-leb (at + 16) stop le) (elim (nat_le (tail_end Words fields at stop rest) stop) as (λ b. at + 16 ≤ (if b then tail_end Words fields at stop rest else at + 16)) [ true ↦ omega arith | false ↦ omega arith ])
count_bit Text fields at stop rest h ne nd le =
    rw (le-leb (at + 16) stop le) (elim (nat_le (tail_end Text fields at stop rest) stop) as (λ b. at + 16 ≤ (if b then tail_end Text fields at stop rest else at + 16)) [ true ↦ omega arith | false ↦ omega arith ])
count_bit Bits fields at stop rest h ne nd le = absurd (ne refl)
count_bit Data fields at stop rest h ne nd le = absurd (nd refl)

end_bit : (form : Tail) (fields : List ℕ) (at stop : ℕ) (rest : List Bool) → has_tail form ≡ true → tail_end form fields at stop rest ≤ stop → deciding_tail form fields at stop rest ≡ tail_end form fields at stop rest
end_bit Absent fields at stop rest h le = absurd cc
end_bit Words fields at stop rest h le = let a : at + 16 ≤ stop = omega arith in rw (le-leb (at + 16) stop a, le-leb (tail_end Words fields at stop rest) stop le) refl
end_bit Text fields at stop rest h le = let a : at + 16 ≤ stop = omega arith in rw (le-leb (at + 16) stop a, le-leb (tail_end Text fields at stop rest) stop le) refl
end_bit Bits fields at stop rest h le = rw (le-leb (tail_end Bits fields at stop rest) stop le) refl
end_bit Data fields at stop rest h le = refl

module _ {p : KindSet} (front : List ℕ) (n : ℕ) (h : Head) (stop : ℕ) (vs : List ℕ) (outer : List Begun) (at : ℕ) (reach : Reaches p front n (leading h stop vs ∷ outer) at)
    (all : drop (length vs) (fields_of (kind_of_head h)) ≡ []) (has : has_tail (tail_of (kind_of_head h)) ≡ true) where
  pub count_waits : tail_of (kind_of_head h) ≢ Bits → tail_of (kind_of_head h) ≢ Data → at + 16 ≤ stop → 8 * length front < at + 16 → IsUndecided front n (leading h stop vs ∷ outer)
  count_waits ne nd room lt =
      undecided front n (leading h stop vs) outer at reach (λ more long.
      let rest : List Bool = drop at (digits_of_bytes (front ++ more)) in
      (ReadTail, tail_turn h stop vs [] outer [] at rest all has, (let a = count_bit (tail_of (kind_of_head h)) (plain_values (fields_of (kind_of_head h)) vs) at stop rest has ne nd room in omega arith)))

  pub tail_waits : ((more : List ℕ) → length (front ++ more) ≡ n → (tail_end (tail_of (kind_of_head h)) (plain_values (fields_of (kind_of_head h)) vs) at stop (drop at (digits_of_bytes (front ++ more))) ≤ stop) × (8 * length front < tail_end (tail_of (kind_of_head h)) (plain_values (fields_of (kind_of_head h)) vs) at stop (drop at (digits_of_bytes (front ++ more)))))
      → IsUndecided front n (leading h stop vs ∷ outer)
  tail_waits f =
      undecided front n (leading h stop vs) outer at reach (λ more long.
      let rest : List Bool = drop at (digits_of_bytes (front ++ more)) in
      let w = f more long in
      (ReadTail, tail_turn h stop vs [] outer [] at rest all has, subst (λ (k : ℕ). 8 * length front < k) (sym (end_bit (tail_of (kind_of_head h)) (plain_values (fields_of (kind_of_head h)) vs) at stop rest has w.0)) w.1))

child_turn : (b : Begun) (at : ℕ) (rest : List Bool) (digit : Bool) → due b ≡ Rest → has_ended b.head (nat_le b.stop at) ≡ false → has_none (groups b) ≡ false → first_digit rest ≡ digit → next_part b at rest ≡ turn_of Rest false false digit
unfolding next_part
child_turn b at rest digit d o g f = rw (d, o, g, f) refl

pub child_waits : {p : KindSet} (front : List ℕ) (n : ℕ) (b : Begun) (outer : List Begun) (at : ℕ) → Reaches p front n (b ∷ outer) at → due b ≡ Rest → has_ended b.head (nat_le b.stop at) ≡ false → has_none (groups b) ≡ false
    → 8 * length front < at + 32 → ((more : List ℕ) → length (front ++ more) ≡ n → (8 * length front ≡ at) ⊎ ((first_digit (drop at (digits_of_bytes (front ++ more))) ≡ false) × (at + 32 ≤ b.stop))) → IsUndecided front n (b ∷ outer)
child_waits front n b outer at r d o g lt f =
    undecided front n b outer at r (λ more long.
    let rest : List Bool = drop at (digits_of_bytes (front ++ more)) in
    elim (f more long) [
      | inl e ↦
          (elim (first_digit rest) as (λ x. first_digit rest ≡ x → (tn : NextPart) × (next_part b at rest ≡ tn) × (8 * length front < deciding_of tn b at rest)) [
            | true ↦ λ q. (BeginTv, child_turn b at rest true d o g q, omega (arith, e))
            | false ↦ λ q. (
              BeginTlv,
              child_turn b at rest false d o g q,
              elim (nat_le (at + 32) b.stop) as (λ x. 8 * length front < (if x then at + 32 else at + 8)) [ true ↦ omega (arith, e) | false ↦ omega (arith, e) ],
            )
          ]) refl
      | inr w ↦ (BeginTlv, child_turn b at rest false d o g w.0, rw (le-leb (at + 32) b.stop w.1) lt)
    ])

-- ---- where a fault is found, the front decides it

-- the bit that decides is in the front, whatever comes after it
pub decided : {p : KindSet} (front : List ℕ) (n : ℕ) (b : Begun) (outer : List Begun) (at : ℕ) → Reaches p front n (b ∷ outer) at
    → ((more : List ℕ) → length (front ++ more) ≡ n → (tn : NextPart) × (next_part b at (drop at (digits_of_bytes (front ++ more))) ≡ tn) × (deciding_of tn b at (drop at (digits_of_bytes (front ++ more))) ≤ 8 * length front))
    → AreDeciding (8 * length front) front n (b ∷ outer)
decided front n b outer at r f = λ more long.
    let c = covered_length front n (b ∷ outer) at r in
    let w = f more long in
    let P : ℕ → Type 0 = λ k. deciding (b ∷ outer) (drop k (digits_of_bytes (front ++ more))) ≤ 8 * length front in
    subst P (sym c) (subst (λ (k : ℕ). k ≤ 8 * length front) (sym (deciding_is b outer at (drop at (digits_of_bytes (front ++ more))) w.0 c w.1)) w.2)

if_most : (at w stop most other : ℕ) → (at + w ≤ stop → at + w ≤ most) → other ≤ most → (if nat_le (at + w) stop then at + w else other) ≤ most
if_most at w stop most other f le = (elim (nat_le (at + w) stop) as (λ v. nat_le (at + w) stop ≡ v → (if v then at + w else other) ≤ most) [ true ↦ λ e. f (leb-true (at + w) stop e) | false ↦ λ e. le ]) refl

pub field_decided : {p : KindSet} (front : List ℕ) (n : ℕ) (h : Head) (stop : ℕ) (vs : List ℕ) (outer : List Begun) (at : ℕ) (r : FieldRule) (after : List FieldRule) → Reaches p front n (leading h stop vs ∷ outer) at
    → drop (length vs) (fields_of (kind_of_head h)) ≡ r ∷ after → (at + r.width ≤ stop → at + r.width ≤ 8 * length front) → AreDeciding (8 * length front) front n (leading h stop vs ∷ outer)
field_decided front n h stop vs outer at r after reach nx fits =
    decided front n (leading h stop vs) outer at reach (λ more long.
    (ReadField r, field_turn h stop vs 0 outer [] r after nx at (drop at (digits_of_bytes (front ++ more))), if_most at r.width stop (8 * length front) at fits reach.within))

none_turn : (b : Begun) (at : ℕ) (rest : List Bool) → due b ≡ Rest → has_ended b.head (nat_le b.stop at) ≡ false → has_none (groups b) ≡ true → next_part b at rest ≡ NoChild
unfolding next_part
none_turn b at rest d o g = rw (d, o, g) refl

pub child_decided : {p : KindSet} (front : List ℕ) (n : ℕ) (b : Begun) (outer : List Begun) (at : ℕ) → Reaches p front n (b ∷ outer) at → due b ≡ Rest → has_ended b.head (nat_le b.stop at) ≡ false
    → (has_none (groups b) ≡ true) ⊎ ((at + 8 ≤ 8 * length front) × ((at + 32 ≤ 8 * length front) ⊎ ((b.stop < at + 32) ⊎ ((more : List ℕ) → length (front ++ more) ≡ n → first_digit (drop at (digits_of_bytes (front ++ more))) ≡ true))))
    → AreDeciding (8 * length front) front n (b ∷ outer)
child_decided front n b outer at r d o x =
    decided front n b outer at r (λ more long.
    let rest : List Bool = drop at (digits_of_bytes (front ++ more)) in
    let most : ℕ = 8 * length front in
    (elim (has_none (groups b)) as (λ v. has_none (groups b) ≡ v → (tn : NextPart) × (next_part b at rest ≡ tn) × (deciding_of tn b at rest ≤ most)) [
      | true ↦ λ g. (NoChild, none_turn b at rest d o g, r.within)
      | false ↦ λ g. elim x [
        | inl z ↦ absurd (let y : false ≡ true = sym g ∙ z in cc)
        | inr w ↦ (elim (first_digit rest) as (λ v. first_digit rest ≡ v → (tn : NextPart) × (next_part b at rest ≡ tn) × (deciding_of tn b at rest ≤ most)) [
          | true ↦ λ q. (BeginTv, child_turn b at rest true d o g q, w.0)
          | false ↦ λ q. (
            BeginTlv,
            child_turn b at rest false d o g q,
            if_most at 32 b.stop most (at + 8) (λ room. elim w.1 [
              | inl four ↦ four
              | inr y ↦ elim y [
                | inl lt ↦ absurd (omega (arith, lt, room))
                | inr one ↦ absurd (let z : false ≡ true = sym q ∙ one more long in cc)
              ]
            ]) w.0,
          )
        ]) refl
      ]
    ]) refl)

-- a text's fault or another
pub of_text : (reason : Reason) → (reason ≡ Utf8) ⊎ (reason ≡ Utf8 → ⊥)
of_text Reserved = inr (λ e. cc)
of_text Version = inr (λ e. cc)
of_text MessageType = inr (λ e. cc)
of_text MessageLength = inr (λ e. cc)
of_text Short = inr (λ e. cc)
of_text Value = inr (λ e. cc)
of_text Count = inr (λ e. cc)
of_text Utf8 = inl refl
of_text ParamType = inr (λ e. cc)
of_text Misplaced = inr (λ e. cc)
of_text TooMany = inr (λ e. cc)
of_text TooDeep = inr (λ e. cc)
of_text ParamLength = inr (λ e. cc)
of_text Extra = inr (λ e. cc)
of_text Missing = inr (λ e. cc)

abbrev reason_in : Option (ℕ × Reason) → Reason
reason_in None = Utf8
reason_in (Some f) = f.1

reason_is : (b c : ℕ) (r s : Reason) → ◌≡◌ {A = Option (ℕ × Reason)} (Some (b, r)) (Some (c, s)) → s ≡ r
reason_is b c r s e = sym (ap reason_in e)

tail_most : (form : Tail) (fields : List ℕ) (at stop : ℕ) (rest : List Bool) (bit : ℕ) (reason : Reason) (most : ℕ) → (reason ≡ Utf8 → ⊥) → first_failing (tail_checks form fields at stop rest) ≡ Some (bit, reason)
    → (form ≢ Bits → at + 16 ≤ stop → at + 16 ≤ most) → at ≤ most → deciding_tail form fields at stop rest ≤ most
tail_most Absent fields at stop rest bit reason most other e two le = le
tail_most Words fields at stop rest bit reason most other e two le =
    (elim (nat_le (at + 16) stop) as (λ v. nat_le (at + 16) stop ≡ v → first_failing (check v at Short ∷ check (nat_le (tail_end Words fields at stop rest) stop) at Count ∷ []) ≡ Some (bit, reason) → (if v then (if nat_le (tail_end Words fields at stop rest) stop then tail_end Words fields at stop rest else at + 16) else at) ≤ most) [
      | true ↦ λ room.
          elim (nat_le (tail_end Words fields at stop rest) stop) as (λ v. first_failing (check v at Count ∷ []) ≡ Some (bit, reason) → (if v then tail_end Words fields at stop rest else at + 16) ≤ most) [
            | true ↦ λ z. absurd cc
            | false ↦ λ z. two (λ y. cc) (leb-true (at + 16) stop room)
          ]
      | false ↦ λ room z. le
    ]) refl e
tail_most Text fields at stop rest bit reason most other e two le =
    let x : Check = check (is_utf8 (tail_at Text fields (stop - at) rest)) (at + 16 + 8 * utf8_valid_len (tail_at Text fields (stop - at) rest)) Utf8 in
    (elim (nat_le (at + 16) stop) as (λ v. nat_le (at + 16) stop ≡ v → first_failing (check v at Short ∷ check (nat_le (tail_end Text fields at stop rest) stop) at Count ∷ x ∷ []) ≡ Some (bit, reason) → (if v then (if nat_le (tail_end Text fields at stop rest) stop then tail_end Text fields at stop rest else at + 16) else at) ≤ most) [
      | true ↦ λ room.
          elim (nat_le (tail_end Text fields at stop rest) stop) as (λ v. first_failing (check v at Count ∷ x ∷ []) ≡ Some (bit, reason) → (if v then tail_end Text fields at stop rest else at + 16) ≤ most) [
            | true ↦ elim (is_utf8 (tail_at Text fields (stop - at) rest)) as (λ v. first_failing (check v (at + 16 + 8 * utf8_valid_len (tail_at Text fields (stop - at) rest)) Utf8 ∷ []) ≡ Some (bit, reason) → tail_end Text fields at stop rest ≤ most) [
              | true ↦ λ z. absurd cc
              | false ↦ λ z. absurd (other (reason_is _ bit Utf8 reason z))
            ]
            | false ↦ λ z. two (λ y. cc) (leb-true (at + 16) stop room)
          ]
      | false ↦ λ room z. le
    ]) refl e
tail_most Bits fields at stop rest bit reason most other e two le =
    (elim (nat_le (tail_end Bits fields at stop rest) stop) as (λ v. first_failing (check v (at - 16) Count ∷ []) ≡ Some (bit, reason) → (if v then tail_end Bits fields at stop rest else at) ≤ most) [ true ↦ λ z. absurd cc | false ↦ λ z. le ]) e
tail_most Data fields at stop rest bit reason most other e two le = absurd cc

pub count_decided : {p : KindSet} (front : List ℕ) (n : ℕ) (h : Head) (stop : ℕ) (vs : List ℕ) (outer : List Begun) (at : ℕ) → Reaches p front n (leading h stop vs ∷ outer) at → drop (length vs) (fields_of (kind_of_head h)) ≡ [] → has_tail (tail_of (kind_of_head h)) ≡ true
    → (bit : ℕ) (reason : Reason) → ((more : List ℕ) → length (front ++ more) ≡ n → first_failing (tail_checks (tail_of (kind_of_head h)) (plain_values (fields_of (kind_of_head h)) vs) at stop (drop at (digits_of_bytes (front ++ more)))) ≡ Some (bit, reason))
    → (tail_of (kind_of_head h) ≢ Bits → at + 16 ≤ stop → at + 16 ≤ 8 * length front) → (reason ≡ Utf8) ⊎ AreDeciding (8 * length front) front n (leading h stop vs ∷ outer)
count_decided front n h stop vs outer at reach all has bit reason fails two = elim (of_text reason) [
  | inl e ↦ inl e
  | inr other ↦
      inr (decided front n (leading h stop vs) outer at reach (λ more long.
      let rest : List Bool = drop at (digits_of_bytes (front ++ more)) in
      (ReadTail, tail_turn h stop vs [] outer [] at rest all has, tail_most (tail_of (kind_of_head h)) (plain_values (fields_of (kind_of_head h)) vs) at stop rest bit reason (8 * length front) other (fails more long) two reach.within)))
]
