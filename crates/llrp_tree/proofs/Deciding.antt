-- A fault is decided at the end of the failing part.
use Rattle.std.proofs.Common.{◌≡◌, ℕ, ◌+◌, ◌-◌, ◌*◌, ◌≤◌, Bool, true, false, List, [], ◌∷◌, ◌++◌, length, Option, Some, None, refl, sym, ap, subst, arith}
use Rattle.std.specs.Prelude.{nat_le, if◌then◌else◌, ◌&&◌}
use Rattle.std.specs.Str.{is_utf8}
use Rattle.std.specs.Str.Lossy.{utf8_valid_len}
use Rattle.std.proofs.lemmas.Bool.{leb-true}
use Rattle.llrp_schema.specs.declared.kinds.ParamKind.{ParamKind}
use Rattle.llrp_schema.specs.declared.kinds.Tail.{Tail}
use Rattle.llrp_schema.specs.declared.kinds.Tail.TheVariants.{Absent, Words, Text, Bits, Data}
use Rattle.llrp_schema.specs.Schema.{FieldRule, GroupRule}
use Rattle.llrp_tree.specs.declared.TheConstants.{MAX_DEPTH}
use Rattle.llrp_tree.specs.declared.fault.Reason.{Reason}
use Rattle.llrp_tree.specs.declared.fault.Reason.TheVariants.{Reserved, Short, Value, Count, Utf8, ParamType, Misplaced, TooMany, TooDeep, ParamLength, Missing}
use Rattle.llrp_tree.specs.Tree.{Forest}
use Rattle.llrp_tree.specs.Lawful.{has_place}
use Rattle.llrp_tree.specs.Spelling.{Head, message, tlv, tv}
use Rattle.llrp_tree.specs.OpenTree.{set, Begun, kind_of_head, groups, covers, Due, AField, ATail, Rest, due, takes_more, is_enough, IsHead, IsOpenTree}
use Rattle.llrp_tree.specs.FirstFault.{check, Check, first_failing, tail_at, tail_end, tlv_kind, tlv_octets, tail_checks, kind_checks, checks, ReadField, BeginTlv, turn_of, next_part, has_ended, has_none, first_digit, next_fault}
use Rattle.llrp_tree.specs.Calls.Deciding.{deciding_tail, deciding_of, deciding, failing_tail, failing_part, failing_end, FaultsAreDecided}
use Rattle.llrp_tree.proofs.Openings.{tv_has_none}

-- the reason that checks give
abbrev reason_in : Option (ℕ × Reason) → Reason
reason_in None = Short
reason_in (Some f) = f.1

-- ---- fields

field_decided : (r : FieldRule) (b : Begun) (at : ℕ) (rest : List Bool) (short fit reserved : Bool) (bit : ℕ) (reason : Reason)
    → first_failing (check short at Short ∷ check fit at (if reserved then Reserved else Value) ∷ []) ≡ Some (bit, reason)
    → (if short then at + r.width else at) ≡ failing_part (ReadField r) reason b at rest
field_decided r b at rest false fit reserved bit reason e = (let same : Short ≡ reason = ap reason_in e in subst (λ (x : Reason). at ≡ failing_part (ReadField r) x b at rest) same refl)
field_decided r b at rest true true reserved bit reason e = absurd cc
field_decided r b at rest true false true bit reason e = (let same : Reserved ≡ reason = ap reason_in e in subst (λ (x : Reason). at + r.width ≡ failing_part (ReadField r) x b at rest) same refl)
field_decided r b at rest true false false bit reason e = (let same : Value ≡ reason = ap reason_in e in subst (λ (x : Reason). at + r.width ≡ failing_part (ReadField r) x b at rest) same refl)

-- ---- tails

counted_decided : (form : Tail) (fields : List ℕ) (at stop : ℕ) (rest : List Bool) (more : List Check) (short fits : Bool) (bit : ℕ) (reason : Reason)
    → at + 16 ≡ failing_tail Count form fields at stop rest → (first_failing more ≡ Some (bit, reason) → reason ≡ Utf8)
    → first_failing (check short at Short ∷ check fits at Count ∷ more) ≡ Some (bit, reason)
    → (if short then (if fits then tail_end form fields at stop rest else at + 16) else at) ≡ failing_tail reason form fields at stop rest
counted_decided form fields at stop rest more false fits bit reason c u e = (let same : Short ≡ reason = ap reason_in e in subst (λ (x : Reason). at ≡ failing_tail x form fields at stop rest) same refl)
counted_decided form fields at stop rest more true false bit reason c u e = (let same : Count ≡ reason = ap reason_in e in subst (λ (x : Reason). at + 16 ≡ failing_tail x form fields at stop rest) same c)
counted_decided form fields at stop rest more true true bit reason c u e = subst (λ (x : Reason). tail_end form fields at stop rest ≡ failing_tail x form fields at stop rest) (sym (u e)) refl

not_text : (holds : Bool) (at bit : ℕ) (reason : Reason) → first_failing (check holds at Utf8 ∷ []) ≡ Some (bit, reason) → reason ≡ Utf8
not_text true at bit reason e = absurd cc
not_text false at bit reason e = sym (ap reason_in e)

bits_decided : (fields : List ℕ) (at stop : ℕ) (rest : List Bool) (fits : Bool) (bit : ℕ) (reason : Reason)
    → first_failing (check fits (at - 16) Count ∷ []) ≡ Some (bit, reason) → (if fits then tail_end Bits fields at stop rest else at) ≡ failing_tail reason Bits fields at stop rest
bits_decided fields at stop rest true bit reason e = absurd cc
bits_decided fields at stop rest false bit reason e = (let same : Count ≡ reason = ap reason_in e in subst (λ (x : Reason). at ≡ failing_tail x Bits fields at stop rest) same (omega arith))

tail_decided : (form : Tail) (fields : List ℕ) (at stop : ℕ) (rest : List Bool) (bit : ℕ) (reason : Reason) → first_failing (tail_checks form fields at stop rest) ≡ Some (bit, reason)
    → deciding_tail form fields at stop rest ≡ failing_tail reason form fields at stop rest
tail_decided Absent fields at stop rest bit reason e = absurd cc
tail_decided Words fields at stop rest bit reason e = counted_decided Words fields at stop rest [] _ _ bit reason refl (λ f. absurd cc) e
tail_decided Text fields at stop rest bit reason e =
    let text : List ℕ = tail_at Text fields (stop - at) rest in
    let found : ℕ = at + 16 + 8 * utf8_valid_len text in
    counted_decided Text fields at stop rest (check (is_utf8 text) found Utf8 ∷ []) _ _ bit reason refl (not_text (is_utf8 text) found bit reason) e
tail_decided Bits fields at stop rest bit reason e = bits_decided fields at stop rest _ bit reason e
tail_decided Data fields at stop rest bit reason e = absurd cc

-- ---- the head of a child

-- these reasons are given for a whole head
abbrev IsOfHead : Reason → Type 0
IsOfHead reason = (b : Begun) (at : ℕ) (rest : List Bool) → at + 32 ≡ failing_part BeginTlv reason b at rest

kind_reason : (found : Option ParamKind) (gs : List GroupRule) (children : Forest) (level at type_at : ℕ) (long : Bool) (bit : ℕ) (reason : Reason)
    → first_failing (kind_checks found gs children level at type_at ++ check long (at + 16) ParamLength ∷ []) ≡ Some (bit, reason) → IsOfHead reason
kind_reason None gs children level at type_at long bit reason e = (let same : ParamType ≡ reason = ap reason_in e in subst IsOfHead same (λ b n rest. refl))
kind_reason (Some kind) gs children level at type_at long bit reason e =
    by_tests (has_place gs kind) (takes_more gs kind children) (nat_le level MAX_DEPTH) long at bit reason e
  where
    by_tests : (has more deep long : Bool) (at bit : ℕ) (reason : Reason)
        → first_failing (check has at Misplaced ∷ check more at TooMany ∷ check deep at TooDeep ∷ check long (at + 16) ParamLength ∷ []) ≡ Some (bit, reason) → IsOfHead reason
    by_tests false more deep long at bit reason e = (let same : Misplaced ≡ reason = ap reason_in e in subst IsOfHead same (λ b n rest. refl))
    by_tests true false deep long at bit reason e = (let same : TooMany ≡ reason = ap reason_in e in subst IsOfHead same (λ b n rest. refl))
    by_tests true true false long at bit reason e = (let same : TooDeep ≡ reason = ap reason_in e in subst IsOfHead same (λ b n rest. refl))
    by_tests true true true false at bit reason e = (let same : ParamLength ≡ reason = ap reason_in e in subst IsOfHead same (λ b n rest. refl))
    by_tests true true true true at bit reason e = absurd cc

head_decided : (b : Begun) (at : ℕ) (rest : List Bool) (room zeros : Bool) (more : List Check) (bit : ℕ) (reason : Reason) → (first_failing more ≡ Some (bit, reason) → IsOfHead reason)
    → first_failing (check room at Short ∷ check zeros at Reserved ∷ more) ≡ Some (bit, reason) → (if room then at + 32 else at + 8) ≡ failing_part BeginTlv reason b at rest
head_decided b at rest false zeros more bit reason f e = (let same : Short ≡ reason = ap reason_in e in subst (λ (x : Reason). at + 8 ≡ failing_part BeginTlv x b at rest) same refl)
head_decided b at rest true false more bit reason f e = (let same : Reserved ≡ reason = ap reason_in e in subst (λ (x : Reason). at + 32 ≡ failing_part BeginTlv x b at rest) same refl)
head_decided b at rest true true more bit reason f e = f e b at rest

-- ---- a closing

-- a node in which something is missing is at its stop
none_missing : (gs : List GroupRule) (children : Forest) → gs ≡ [] → is_enough gs children ≡ true
unfolding is_enough
none_missing gs children e = rw e refl

missing_at_stop : (b : Begun) (outer : List Begun) → IsHead b.head b.stop outer → length (covers (b ∷ outer)) ≤ b.stop → has_ended b.head (nat_le b.stop (length (covers (b ∷ outer)))) ≡ true → is_enough (groups b) b.children ≡ false → length (covers (b ∷ outer)) ≡ b.stop
missing_at_stop b outer i inside o few = by_head b.head b.stop (length (covers (b ∷ outer))) (b.children) outer i inside o few
  where
    by_head : (h : Head) (stop at : ℕ) (children : Forest) (outer : List Begun) → IsHead h stop outer → at ≤ stop → has_ended h (nat_le stop at) ≡ true → is_enough (Rattle.llrp_schema.specs.Schema.groups_of (kind_of_head h)) children ≡ false → at ≡ stop
    by_head (message v k n id) stop at children outer i inside o few = (let le = leb-true stop at o in omega arith)
    by_head (tlv k n) stop at children outer i inside o few = (let le = leb-true stop at o in omega arith)
    by_head (tv k) stop at children outer i inside o few = absurd (let all = none_missing _ children (tv_has_none k stop outer i) in cc)

few_of : (enough : Bool) (stop bit : ℕ) (reason : Reason) → first_failing (check enough stop Missing ∷ []) ≡ Some (bit, reason) → enough ≡ false
few_of true stop bit reason e = absurd cc
few_of false stop bit reason e = refl

-- ---- each fault

module _ (b : Begun) (outer : List Begun) (rest : List Bool) (bit : ℕ) (reason : Reason) (s : IsOpenTree (b ∷ outer)) where
  abbrev at : ℕ
  at = length (covers (b ∷ outer))

  by_turn : (d : Due) (o n z : Bool) → has_ended b.head (nat_le b.stop at) ≡ o → first_failing (checks (turn_of d o n z) (length (b ∷ outer)) b at rest) ≡ Some (bit, reason)
      → deciding_of (turn_of d o n z) b at rest ≡ failing_part (turn_of d o n z) reason b at rest
  unfolding checks IsOpenTree
  by_turn (AField r) o n z eo e = field_decided r b at rest _ _ r.reserved bit reason e
  by_turn ATail o n z eo e = tail_decided _ _ at b.stop rest bit reason e
  by_turn Rest true n z eo e = missing_at_stop b outer s.0.head s.0.inside eo (few_of _ b.stop bit reason e)
  by_turn Rest false true z eo e = refl
  by_turn Rest false false true eo e = refl
  by_turn Rest false false false eo e = (let fits : Bool = nat_le 4 (tlv_octets rest) && nat_le (at + 8 * tlv_octets rest) b.stop in
      let more : List Check = kind_checks (tlv_kind (set b) rest) (groups b) b.children (length (b ∷ outer)) at (at + 6) ++ check fits (at + 16) ParamLength ∷ [] in
      head_decided b at rest _ _ more bit reason (kind_reason (tlv_kind (set b) rest) (groups b) b.children (length (b ∷ outer)) at (at + 6) fits bit reason) e)

pub faults_are_decided : FaultsAreDecided
unfolding next_fault deciding failing_end next_part
faults_are_decided [] rest bit reason s e = absurd cc
faults_are_decided (b ∷ outer) rest bit reason s e = by_turn b outer rest bit reason s (due b) (has_ended b.head (nat_le b.stop (length (covers (b ∷ outer))))) (has_none (groups b)) (first_digit rest) refl e
