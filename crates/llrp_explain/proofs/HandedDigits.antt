-- The lines of what is refused stand in the digits that decide the fault.
use Rattle.std.proofs.Common.{◌≡◌, ℕ, ◌+◌, ◌≤◌, List, [], ◌∷◌, ◌++◌, length, take, drop, Bool, true, false, Some, refl, ap, ◌∙◌, arith, length-drop}
use Rattle.std.specs.Prelude.{nat_le}
use Rattle.std.proofs.lemmas.List.{take-append-le, drop-append-le}
use Rattle.tag_bits.specs.Digits.{value}
use Rattle.llrp_schema.specs.declared.kinds.Tail.{Tail}
use Rattle.llrp_schema.specs.declared.kinds.Tail.TheVariants.{Absent, Words, Text, Bits, Data}
use Rattle.llrp_schema.specs.Schema.{FieldRule}
use Rattle.llrp_tree.specs.declared.fault.Reason.{Reason}
use Rattle.llrp_tree.specs.declared.fault.Reason.TheVariants.{Reserved, Version, MessageType, MessageLength, Short, Value, Count, Utf8, ParamType, Misplaced, TooMany, TooDeep, ParamLength, Extra, Missing}
use Rattle.llrp_tree.specs.OpenTree.{Begun, form, groups, rules, plain_values, covers, Due, AField, ATail, Rest, due, IsOpenTree}
use Rattle.llrp_tree.specs.FirstFault.{number, NextPart, ReadField, ReadTail, Close, NoChild, BeginTv, BeginTlv, turn_of, next_part, next_fault, first_digit, has_none, has_ended}
use Rattle.llrp_tree.specs.Calls.Deciding.{deciding, failing_tail, failing_part, failing_end}
use Rattle.llrp_tree.proofs.Deciding.{faults_are_decided}
use Rattle.llrp_explain.specs.Calls.ExplainLines.{ExplainLine, line}
use Rattle.llrp_explain.specs.Private.FieldBits.{bits_of_fields}
use Rattle.llrp_explain.specs.Calls.FaultLines.{NamedBits, taken_lines, field_fields, count_fields, tlv_fields, part_fields, part_level, refused_lines}
use Rattle.llrp_explain.proofs.FaultDigits.{tlv_most, short_tlv}

number_same : (rest more : List Bool) (place width : ℕ) → place + width ≤ length rest → number (rest ++ more) place width ≡ number rest place width
number_same rest more place width le =
    let back : drop place (rest ++ more) ≡ drop place rest ++ more = drop-append-le place rest more (omega (arith, le)) in
    ap (λ (x : List Bool). value (take width x)) back ∙ ap value (take-append-le width (drop place rest) more (omega (arith, le, length-drop place rest)))

-- fields that lie in the first digits are read there
taken_same : (level : ℕ) (fields : List NamedBits) (place : ℕ) (rest more : List Bool) → place + bits_of_fields fields ≤ length rest → taken_lines level fields place (rest ++ more) ≡ taken_lines level fields place rest
unfolding taken_lines bits_of_fields
taken_same level [] place rest more le = refl
taken_same level (f ∷ fields) place rest more le =
    ap (λ (n : ℕ). line level f.name f.bits n ∷ taken_lines level fields (place + f.bits) (rest ++ more)) (number_same rest more place f.bits (omega (arith, le)))
    ∙ ap (λ (x : List ExplainLine). line level f.name f.bits (number rest place f.bits) ∷ x) (taken_same level fields (place + f.bits) rest more (omega (arith, le)))

-- ---- they end where the failing part does, or before

module _ (b : Begun) (at : ℕ) (rest : List Bool) where
  field_end : (reason : Reason) (r : FieldRule) → at + bits_of_fields (field_fields reason r) ≤ failing_part (ReadField r) reason b at rest
  unfolding bits_of_fields field_fields
  field_end Reserved r = omega arith
  field_end Version r = omega arith
  field_end MessageType r = omega arith
  field_end MessageLength r = omega arith
  field_end Short r = omega arith
  field_end Value r = omega arith
  field_end Count r = omega arith
  field_end Utf8 r = omega arith
  field_end ParamType r = omega arith
  field_end Misplaced r = omega arith
  field_end TooMany r = omega arith
  field_end TooDeep r = omega arith
  field_end ParamLength r = omega arith
  field_end Extra r = omega arith
  field_end Missing r = omega arith

  count_end : (reason : Reason) (f : Tail) (fields : List ℕ) → at + bits_of_fields (count_fields reason f) ≤ failing_tail reason f fields at b.stop rest
  unfolding bits_of_fields count_fields
  count_end Count Words fields = omega arith
  count_end Count Text fields = omega arith
  count_end Count Absent fields = omega arith
  count_end Count Bits fields = omega arith
  count_end Count Data fields = omega arith
  count_end Reserved f fields = omega arith
  count_end Version f fields = omega arith
  count_end MessageType f fields = omega arith
  count_end MessageLength f fields = omega arith
  count_end Short f fields = omega arith
  count_end Value f fields = omega arith
  count_end Utf8 f fields = omega arith
  count_end ParamType f fields = omega arith
  count_end Misplaced f fields = omega arith
  count_end TooMany f fields = omega arith
  count_end TooDeep f fields = omega arith
  count_end ParamLength f fields = omega arith
  count_end Extra f fields = omega arith
  count_end Missing f fields = omega arith

  tlv_end : (reason : Reason) → at + bits_of_fields (tlv_fields reason) ≤ failing_part BeginTlv reason b at rest
  tlv_end Reserved = omega (arith, tlv_most Reserved)
  tlv_end Version = omega (arith, tlv_most Version)
  tlv_end MessageType = omega (arith, tlv_most MessageType)
  tlv_end MessageLength = omega (arith, tlv_most MessageLength)
  tlv_end Short = omega (arith, short_tlv)
  tlv_end Value = omega (arith, tlv_most Value)
  tlv_end Count = omega (arith, tlv_most Count)
  tlv_end Utf8 = omega (arith, tlv_most Utf8)
  tlv_end ParamType = omega (arith, tlv_most ParamType)
  tlv_end Misplaced = omega (arith, tlv_most Misplaced)
  tlv_end TooMany = omega (arith, tlv_most TooMany)
  tlv_end TooDeep = omega (arith, tlv_most TooDeep)
  tlv_end ParamLength = omega (arith, tlv_most ParamLength)
  tlv_end Extra = omega (arith, tlv_most Extra)
  tlv_end Missing = omega (arith, tlv_most Missing)

  part_end : (next : NextPart) (reason : Reason) → at ≤ b.stop → at + bits_of_fields (part_fields next reason b) ≤ failing_part next reason b at rest
  unfolding bits_of_fields
  part_end (ReadField r) reason le = field_end reason r
  part_end ReadTail reason le = count_end reason (form b) (plain_values (rules b) b.fields)
  part_end Close reason le = omega (arith, le)
  part_end NoChild reason le = omega arith
  part_end BeginTv reason le = omega arith
  part_end BeginTlv reason le = tlv_end reason

-- ---- what comes next is known by them

-- a child with type and value has an octet at least
turn_same : (b : Begun) (at : ℕ) (rest : List Bool) (reason : Reason) (d : Due) (o n z : Bool) → failing_part (turn_of d o n z) reason b at rest ≤ at → turn_of d o n z ≡ turn_of d o n false
turn_same b at rest reason (AField r) o n z le = refl
turn_same b at rest reason ATail o n z le = refl
turn_same b at rest reason Rest true n z le = refl
turn_same b at rest reason Rest false true z le = refl
turn_same b at rest reason Rest false false false le = refl
turn_same b at rest reason Rest false false true le = absurd (omega (arith, le))

next_same : (b : Begun) (at : ℕ) (reason : Reason) (rest more : List Bool) → failing_part (next_part b at (rest ++ more)) reason b at (rest ++ more) ≤ at + length rest → next_part b at (rest ++ more) ≡ next_part b at rest
unfolding next_part
next_same b at reason [] more le = turn_same b at more reason (due b) (has_ended b.head (nat_le b.stop at)) (has_none (groups b)) (first_digit more) (omega (arith, le))
next_same b at reason (x ∷ rest) more le = refl

inside_of : (b : Begun) (outer : List Begun) → IsOpenTree (b ∷ outer) → length (covers (b ∷ outer)) ≤ b.stop
unfolding IsOpenTree
inside_of b outer s = s.0.inside

-- the digits that decide a fault have the lines of what is refused
pub refused_same : (tree : List Begun) (rest more : List Bool) (bit : ℕ) (reason : Reason) → IsOpenTree tree → next_fault tree (rest ++ more) ≡ Some (bit, reason) → deciding tree (rest ++ more) ≤ length (covers tree) + length rest
    → refused_lines tree reason (rest ++ more) ≡ refused_lines tree reason rest
unfolding refused_lines failing_end next_fault
refused_same [] rest more bit reason s e le = absurd cc
refused_same (b ∷ outer) rest more bit reason s e le =
    let at : ℕ = length (covers (b ∷ outer)) in
    let next : NextPart = next_part b at (rest ++ more) in
    let decides = faults_are_decided (b ∷ outer) (rest ++ more) bit reason s e in
    let ends : failing_part next reason b at (rest ++ more) ≤ at + length rest = omega (arith, decides, le) in
    let fits : bits_of_fields (part_fields next reason b) ≤ length rest = (let x = part_end b at (rest ++ more) next reason (inside_of b outer s) in omega (arith, x, ends)) in
    taken_same (part_level next (length outer)) (part_fields next reason b) 0 rest more (omega (arith, fits))
    ∙ ap (λ (n : NextPart). taken_lines (part_level n (length outer)) (part_fields n reason b) 0 rest) (next_same b at reason rest more ends)
