-- What comes next at a node that is refused, and the text of it.
use Rattle.std.proofs.Common.{◌≡◌, ◌≢◌, ◌⊎◌, inl, inr, ℕ, suc, ◌+◌, ◌*◌, ◌-◌, ◌%◌, ◌^◌, ◌<◌, All, ◌≤◌, List, [], ◌∷◌, ◌++◌, length, drop, Bool, true, false, Option, Some, None, refl, sym, ap, subst, ◌∙◌, arith}
use Rattle.std.specs.Prelude.{nat_le, if◌then◌else◌, ◌&&◌, codes, not}
use Rattle.std.specs.List.{list_all}
use Rattle.std.proofs.Math.Pow.{pow_mono}
use Rattle.tag_bits.specs.Digits.{digits_of_bytes}
use Rattle.llrp_schema.specs.declared.kinds.ParamKind.{ParamKind}
use Rattle.llrp_schema.specs.declared.kinds.Kind.{Kind}
use Rattle.llrp_schema.specs.declared.kinds.Tail.{Tail}
use Rattle.llrp_schema.specs.declared.kinds.Tail.TheVariants.{Absent, Words, Text, Bits, Data}
use Rattle.llrp_schema.specs.Schema.{FieldRule, GroupRule, fields_of, groups_of, set_of_kind, tail_of}
use Rattle.llrp_schema.proofs.TableLaws.{field_widths}
use Rattle.llrp_tree.specs.declared.fault.Fault.{Fault}
use Rattle.llrp_tree.specs.declared.fault.Reason.{Reason}
use Rattle.llrp_tree.specs.declared.fault.Reason.TheVariants.{Reserved, Version, MessageType, MessageLength, Short, Value, Count, Utf8, ParamType, Misplaced, TooMany, TooDeep, ParamLength, Extra, Missing}
use Rattle.llrp_tree.specs.Tree.{Forest}
use Rattle.llrp_tree.specs.Lawful.{count_octets, first}
use Rattle.llrp_tree.specs.OpenTree.{Begun, AreLeading, IsOpenTree, kind_of_head, form, groups, set, is_enough, covers, Due, AField, ATail, Rest, has_tail, tail_due, field_due, due}
use Rattle.llrp_tree.specs.FirstFault.{number, Check, check, checks, first_failing, kind_checks, tv_checks, tv_kind, tlv_checks, tlv_kind, tlv_octets, NextPart, ReadField, ReadTail, Close, NoChild, BeginTv, BeginTlv, turn_of, next_part, next_fault, first_digit, has_none, has_ended}
use Rattle.llrp_tree.specs.Calls.Deciding.{failing_part, failing_end}
use Rattle.llrp_tree.proofs.ChildLemmas.{digit_is_zero, digit_is_one}
use Rattle.llrp_tree.proofs.Deciding.{faults_are_decided}
use Rattle.llrp_tree.proofs.LawLemmas.{both}
use Rattle.llrp_tree.proofs.Totality.{covered_octets}
use Rattle.llrp_stream.specs.declared.engine.stack.StackNode.{StackNode}
use Rattle.llrp_stream.proofs.FaultTrees.{reason_in}
use Rattle.llrp_explain.specs.Calls.FaultLines.{NamedBits, taken_lines, part_level, part_fields, field_fields, count_fields, tv_fields, tlv_fields, refused_lines}
use Rattle.llrp_explain.specs.Calls.FaultSentences.{counted, missing_sentence, first_missing, extra_sentence, kind_sentence, tlv_sentence, field_sentence, tail_sentence, part_sentence, refusal_text}
use Rattle.llrp_explain.specs.Private.RefusedHeads.{is_counted}
use Rattle.llrp_explain.specs.Calls.HeaderFaults.{fault_line, refused_text}
use Rattle.llrp_explain.specs.Private.RefusedNodes.{IsRefusedNode}
use Rattle.llrp_explain.proofs.RefusedParts.{counted_number}
use Rattle.llrp_explain.proofs.TextFaults.{by_turn}

-- ---- what comes next by the reason

-- the reasons for which a child fails
abbrev is_child : Reason → Bool
is_child Utf8 = false
is_child Extra = false
is_child Missing = false
is_child _ = true

abbrev turn_by : Reason → Bool → NextPart
turn_by Extra digit = NoChild
turn_by Missing digit = Close
turn_by _ digit = if digit then BeginTv else BeginTlv

-- a check that fails has a reason that all of them have
failing_in : (ok : Reason → Bool) (cs : List Check) (bit : ℕ) (reason : Reason) → list_all (λ (c : Check). ok c.reason) cs ≡ true → first_failing cs ≡ Some (bit, reason) → ok reason ≡ true
failing_in ok [] bit reason a e = absurd cc
failing_in ok (c ∷ cs) bit reason a e =
    let p = both (ok c.reason) (list_all (λ (x : Check). ok x.reason) cs) a in
    (elim c.holds as (λ h. (if h then first_failing cs else Some (c.bit, c.reason)) ≡ Some (bit, reason) → ok reason ≡ true) [
      | true ↦ λ f. failing_in ok cs bit reason p.1 f
      | false ↦ λ f. (let same : c.reason ≡ reason = ap reason_in f in ap ok (sym same) ∙ p.0)
    ]) e

kind_only : (found : Option ParamKind) (gs : List GroupRule) (cs : Forest) (level at type_at : ℕ) → list_all (λ (c : Check). is_child c.reason) (kind_checks found gs cs level at type_at) ≡ true
kind_only None gs cs level at type_at = refl
kind_only (Some k) gs cs level at type_at = refl

kind_and : (found : Option ParamKind) (gs : List GroupRule) (cs : Forest) (level at type_at : ℕ) (more : List Check) → list_all (λ (c : Check). is_child c.reason) more ≡ true → list_all (λ (c : Check). is_child c.reason) (kind_checks found gs cs level at type_at ++ more) ≡ true
kind_and None gs cs level at type_at more m = m
kind_and (Some k) gs cs level at type_at more m = m

child_turn : (reason : Reason) (digit : Bool) → is_child reason ≡ true → (if digit then BeginTv else BeginTlv) ≡ turn_by reason digit
child_turn Reserved digit e = refl
child_turn Version digit e = refl
child_turn MessageType digit e = refl
child_turn MessageLength digit e = refl
child_turn Short digit e = refl
child_turn Value digit e = refl
child_turn Count digit e = refl
child_turn Utf8 digit e = absurd (let z : false ≡ true = e in cc)
child_turn ParamType digit e = refl
child_turn Misplaced digit e = refl
child_turn TooMany digit e = refl
child_turn TooDeep digit e = refl
child_turn ParamLength digit e = refl
child_turn Extra digit e = absurd (let z : false ≡ true = e in cc)
child_turn Missing digit e = absurd (let z : false ≡ true = e in cc)

missing_reason : (enough : Bool) (stop bit : ℕ) (reason : Reason) → first_failing (check enough stop Missing ∷ []) ≡ Some (bit, reason) → Missing ≡ reason
missing_reason true stop bit reason e = absurd cc
missing_reason false stop bit reason e = ap reason_in e

next_by : (over none digit : Bool) (level at : ℕ) (b : Begun) (rest : List Bool) (bit : ℕ) (reason : Reason) → first_failing (checks (turn_of Rest over none digit) level b at rest) ≡ Some (bit, reason) → turn_of Rest over none digit ≡ turn_by reason digit
unfolding checks
next_by true none digit level at b rest bit reason e = (let same = missing_reason (is_enough (groups b) b.children) b.stop bit reason e in ap (λ (r : Reason). turn_by r digit) same)
next_by false true digit level at b rest bit reason e = (let same : Extra ≡ reason = ap reason_in e in ap (λ (r : Reason). turn_by r digit) same)
next_by false false true level at b rest bit reason e = child_turn reason true (failing_in is_child (tv_checks (set b) (groups b) b.children level at rest) bit reason (kind_only (tv_kind (set b) rest) (groups b) b.children level at (at + 1)) e)
next_by false false false level at b rest bit reason e = child_turn reason false (failing_in is_child (tlv_checks (set b) (groups b) b.children level at b.stop rest) bit reason (kind_and (tlv_kind (set b) rest) (groups b) b.children level at (at + 6) (check (nat_le 4 (tlv_octets rest) && nat_le (at + 8 * tlv_octets rest) b.stop) (at + 16) ParamLength ∷ []) refl) e)

rest_next : (b : Begun) (outer : List Begun) (rest : List Bool) (bit : ℕ) (reason : Reason) → due b ≡ Rest → next_fault (b ∷ outer) rest ≡ Some (bit, reason) → next_part b (length (covers (b ∷ outer))) rest ≡ turn_by reason (first_digit rest)
unfolding next_fault next_part
rest_next b outer rest bit reason d e =
    let at : ℕ = length (covers (b ∷ outer)) in
    let o : Bool = has_ended b.head (nat_le b.stop at) in
    let n : Bool = has_none (groups b) in
    let z : Bool = first_digit rest in
    ap (λ (x : Due). turn_of x o n z) d ∙ next_by o n z (length (b ∷ outer)) at b rest bit reason (subst (λ (x : Due). first_failing (checks (turn_of x o n z) (length (b ∷ outer)) b at rest) ≡ Some (bit, reason)) d e)

turn_child : (reason : Reason) (digit : Bool) → reason ≢ Missing → reason ≢ Extra → turn_by reason digit ≡ (if digit then BeginTv else BeginTlv)
turn_child Reserved digit missing extra = refl
turn_child Version digit missing extra = refl
turn_child MessageType digit missing extra = refl
turn_child MessageLength digit missing extra = refl
turn_child Short digit missing extra = refl
turn_child Value digit missing extra = refl
turn_child Count digit missing extra = refl
turn_child Utf8 digit missing extra = refl
turn_child ParamType digit missing extra = refl
turn_child Misplaced digit missing extra = refl
turn_child TooMany digit missing extra = refl
turn_child TooDeep digit missing extra = refl
turn_child ParamLength digit missing extra = refl
turn_child Extra digit missing extra = absurd (extra refl)
turn_child Missing digit missing extra = absurd (missing refl)

field_next : (b : Begun) (at : ℕ) (rest : List Bool) (r : FieldRule) → due b ≡ AField r → next_part b at rest ≡ ReadField r
unfolding next_part
field_next b at rest r d = ap (λ (x : Due). turn_of x (has_ended b.head (nat_le b.stop at)) (has_none (groups b)) (first_digit rest)) d

tail_next : (b : Begun) (at : ℕ) (rest : List Bool) → due b ≡ ATail → next_part b at rest ≡ ReadTail
unfolding next_part
tail_next b at rest d = ap (λ (x : Due). turn_of x (has_ended b.head (nat_le b.stop at)) (has_none (groups b)) (first_digit rest)) d

-- ---- the text by what comes next

part_text : (b : Begun) (outer : List Begun) (bit : ℕ) (reason : Reason) (rest : List Bool) (n : NextPart) → next_part b (length (covers (b ∷ outer))) rest ≡ n
    → refused_text (length (covers (b ∷ outer))) (taken_lines (part_level n (length outer)) (part_fields n reason b) 0 rest) ++ fault_line bit (part_sentence n b (length (covers (b ∷ outer))) (length (b ∷ outer)) reason rest) ≡ refusal_text (b ∷ outer) bit reason rest
unfolding refusal_text refused_lines
part_text b outer bit reason rest n e =
    let at : ℕ = length (covers (b ∷ outer)) in
    ap (λ (m : NextPart). refused_text at (taken_lines (part_level m (length outer)) (part_fields m reason b) 0 rest) ++ fault_line bit (part_sentence m b at (length (b ∷ outer)) reason rest)) (sym e)

close_text : (b : Begun) (outer : List Begun) (bit : ℕ) (reason : Reason) (rest : List Bool) → next_part b (length (covers (b ∷ outer))) rest ≡ Close → fault_line bit (missing_sentence (kind_of_head b.head) (first_missing (groups b) b.children)) ≡ refusal_text (b ∷ outer) bit reason rest
unfolding taken_lines
close_text b outer bit reason rest e = part_text b outer bit reason rest Close e

no_child_text : (b : Begun) (outer : List Begun) (bit : ℕ) (reason : Reason) (rest : List Bool) → next_part b (length (covers (b ∷ outer))) rest ≡ NoChild → fault_line bit (extra_sentence (kind_of_head b.head) b.stop) ≡ refusal_text (b ∷ outer) bit reason rest
unfolding taken_lines
no_child_text b outer bit reason rest e = part_text b outer bit reason rest NoChild e

no_count : (reason : Reason) (b : Begun) → reason ≡ Utf8 → count_fields reason (form b) ≡ []
unfolding count_fields
no_count reason b e = rw e refl

utf8_sentence : (f : Tail) (k : Kind) (stop at n : ℕ) → tail_sentence f k stop at Utf8 n ≡ codes "Utf8: no character begins here"
unfolding tail_sentence
utf8_sentence f k stop at n = refl

no_lines : (at level : ℕ) (rest : List Bool) → refused_text at (taken_lines level [] 0 rest) ≡ []
unfolding taken_lines
no_lines at level rest = refl

-- text that is no UTF-8
pub utf8_text : (b : Begun) (outer : List Begun) (bit : ℕ) (reason : Reason) (rest : List Bool) → reason ≡ Utf8 → next_fault (b ∷ outer) rest ≡ Some (bit, reason) → fault_line bit (codes "Utf8: no character begins here") ≡ refusal_text (b ∷ outer) bit reason rest
unfolding next_fault next_part
utf8_text b outer bit reason rest is e =
    let at : ℕ = length (covers (b ∷ outer)) in
    let d = by_turn b outer at rest bit reason (due b) (has_ended b.head (nat_le b.stop at)) (has_none (groups b)) (first_digit rest) e is in
    let sentence : part_sentence ReadTail b at (length (b ∷ outer)) reason rest ≡ codes "Utf8: no character begins here" = ap (λ (r : Reason). part_sentence ReadTail b at (length (b ∷ outer)) r rest) is ∙ utf8_sentence (form b) (kind_of_head b.head) b.stop at (counted (form b) b.fields rest) in
    let none : refused_text at (taken_lines (length outer) (count_fields reason (form b)) 0 rest) ≡ [] = ap (λ (fs : List NamedBits). refused_text at (taken_lines (length outer) fs 0 rest)) (no_count reason b is) ∙ no_lines at (length outer) rest in
    ap (λ (s : List ℕ). fault_line bit s) (sym sentence) ∙ ap (λ (x : List ℕ). x ++ fault_line bit (part_sentence ReadTail b at (length (b ∷ outer)) reason rest)) (sym none) ∙ part_text b outer bit reason rest ReadTail (tail_next b at rest d)

-- ---- what is due

pub due_field : (b : Begun) (kind : Kind) (next : ℕ) (r : FieldRule) (others : List FieldRule) → kind_of_head b.head ≡ kind → length b.fields ≡ next → drop next (fields_of kind) ≡ r ∷ others → due b ≡ AField r
unfolding due
due_field b kind next r others k l e =
    ap (λ (j : Kind). field_due (drop (length b.fields) (fields_of j)) (tail_due (form b) b.tail)) k ∙ ap (λ (m : ℕ). field_due (drop m (fields_of kind)) (tail_due (form b) b.tail)) l ∙ ap (λ (x : List FieldRule). field_due x (tail_due (form b) b.tail)) e

after_fields : (b : Begun) (kind : Kind) (next : ℕ) (f : Tail) → kind_of_head b.head ≡ kind → length b.fields ≡ next → b.tail ≡ None → drop next (fields_of kind) ≡ [] → f ≡ tail_of kind → due b ≡ (if has_tail f then ATail else Rest)
unfolding due
after_fields b kind next f k l t e ef =
    ap (λ (j : Kind). field_due (drop (length b.fields) (fields_of j)) (tail_due (tail_of j) b.tail)) k ∙ ap (λ (m : ℕ). field_due (drop m (fields_of kind)) (tail_due (tail_of kind) b.tail)) l ∙ ap (λ (x : List FieldRule). field_due x (tail_due (tail_of kind) b.tail)) e
    ∙ ap (λ (x : Option (List ℕ)). tail_due (tail_of kind) x) t ∙ ap (λ (g : Tail). tail_due g None) (sym ef)

not_true : (x : Bool) → not x ≡ true → x ≡ false
not_true true e = absurd (let z : false ≡ true = e in cc)
not_true false e = refl

not_false : (x : Bool) → not x ≡ false → x ≡ true
not_false true e = refl
not_false false e = absurd (let z : true ≡ false = e in cc)

pub due_tail : (b : Begun) (kind : Kind) (next : ℕ) (f : Tail) → kind_of_head b.head ≡ kind → length b.fields ≡ next → b.tail ≡ None → drop next (fields_of kind) ≡ [] → f ≡ tail_of kind → not (has_tail f) ≡ false → due b ≡ ATail
due_tail b kind next f k l t e ef h = after_fields b kind next f k l t e ef ∙ ap (λ (x : Bool). if x then ATail else Rest) (not_false (has_tail f) h)

pub due_rest : (b : Begun) (kind : Kind) (next : ℕ) (f : Tail) → kind_of_head b.head ≡ kind → length b.fields ≡ next → b.tail ≡ None → drop next (fields_of kind) ≡ [] → f ≡ tail_of kind → not (has_tail f) ≡ true → due b ≡ Rest
due_rest b kind next f k l t e ef h = after_fields b kind next f k l t e ef ∙ ap (λ (x : Bool). if x then ATail else Rest) (not_true (has_tail f) h)

-- a first field has 96 bits at most
first_fits : (rs : List FieldRule) (vs : List ℕ) → AreLeading rs vs → All (λ (r : FieldRule). (1 ≤ r.width) × (r.width ≤ 96)) rs → first vs < 2 ^ 100
first_fits rs [] l w = omega arith
first_fits [] (v ∷ vs) l w = absurd l
first_fits (r ∷ rs) (v ∷ vs) l w =
    let narrow = (w 0 r (omega arith)).1 in
    let below = l.0 in
    let most : 2 ^ r.width ≤ 2 ^ 100 = pow_mono {i = r.width} {j = 100} (omega (arith, narrow)) in
    omega (arith, below, most)

first_below : (kind : Kind) (vs : List ℕ) → AreLeading (fields_of kind) vs → first vs < 2 ^ 100
first_below kind vs l = first_fits (fields_of kind) vs l (field_widths kind)

-- ---- at a node that is refused

module _ (node : StackNode) (depth at : ℕ) (octets : List ℕ) (fault : Fault) (b : Begun) (outer : List Begun) (rest : List Bool) (n : IsRefusedNode node depth at octets fault b outer rest) where
  abbrev here : ℕ
  here = length (covers (b ∷ outer))

  level_is : depth - 1 ≡ length outer
  level_is = (let d = n.depth_is in omega (arith, d))

  -- the failing part ends in the octets
  decided : (p : NextPart) → next_part b here rest ≡ p → failing_part p fault.reason b here rest + here % 8 ≤ here + 8 * length octets
  unfolding failing_end
  decided p e =
      let d = faults_are_decided (b ∷ outer) rest fault.bit fault.reason n.is_open n.fails in
      let le = n.handed.decide in
      subst (λ (m : NextPart). failing_part m fault.reason b here rest + here % 8 ≤ here + 8 * length octets) e (omega (arith, d, le))

  -- ---- a field

  field_room : (reason : Reason) (r : FieldRule) → (reason ≡ Short) ⊎ (failing_part (ReadField r) reason b here rest ≡ here + r.width)
  field_room Reserved r = inr refl
  field_room Version r = inr refl
  field_room MessageType r = inr refl
  field_room MessageLength r = inr refl
  field_room Short r = inl refl
  field_room Value r = inr refl
  field_room Count r = inr refl
  field_room Utf8 r = inr refl
  field_room ParamType r = inr refl
  field_room Misplaced r = inr refl
  field_room TooMany r = inr refl
  field_room TooDeep r = inr refl
  field_room ParamLength r = inr refl
  field_room Extra r = inr refl
  field_room Missing r = inr refl

  pub field_value : (r : FieldRule) (v : ℕ) → due b ≡ AField r → (at % 8 + r.width ≤ 8 * length octets → (later : List Bool) → v ≡ number (digits_of_bytes octets ++ later) (at % 8) r.width) → (fault.reason ≡ Short) ⊎ (v ≡ number rest 0 r.width)
  field_value r v d is = elim (field_room fault.reason r) [
    | inl s ↦ inl s
    | inr room ↦ inr (
        let le = decided (ReadField r) (field_next b here rest r d) in
        let a = n.at_is in
        let fits : at % 8 + r.width ≤ 8 * length octets = omega (arith, le, room, a) in
        is fits n.handed.later ∙ ap (λ (k : ℕ). number (digits_of_bytes octets ++ n.handed.later) (k % 8) r.width) a ∙ sym (ap (λ (x : List Bool). number x 0 r.width) n.handed.are))
  ]

  pub field_text : (r : FieldRule) → due b ≡ AField r
      → refused_text at (taken_lines (depth - 1) (field_fields fault.reason r) 0 rest) ++ fault_line fault.bit (field_sentence r node.kind (8 * node.stop) at fault.reason (number rest 0 r.width)) ≡ refusal_text (b ∷ outer) fault.bit fault.reason rest
  field_text r d =
      ap (λ (a : ℕ). refused_text a (taken_lines (depth - 1) (field_fields fault.reason r) 0 rest) ++ fault_line fault.bit (field_sentence r node.kind (8 * node.stop) a fault.reason (number rest 0 r.width))) n.at_is
      ∙ ap (λ (l : ℕ). refused_text here (taken_lines l (field_fields fault.reason r) 0 rest) ++ fault_line fault.bit (field_sentence r node.kind (8 * node.stop) here fault.reason (number rest 0 r.width))) level_is
      ∙ ap (λ (k : Kind). refused_text here (taken_lines (length outer) (field_fields fault.reason r) 0 rest) ++ fault_line fault.bit (field_sentence r k (8 * node.stop) here fault.reason (number rest 0 r.width))) (sym n.level.kind)
      ∙ ap (λ (s : ℕ). refused_text here (taken_lines (length outer) (field_fields fault.reason r) 0 rest) ++ fault_line fault.bit (field_sentence r (kind_of_head b.head) s here fault.reason (number rest 0 r.width))) (sym n.level.stop)
      ∙ part_text b outer fault.bit fault.reason rest (ReadField r) (field_next b here rest r d)

  -- ---- a tail

  counted_16 : (f : Tail) → is_counted f ≡ true → count_octets f ≡ 2
  counted_16 Absent c = absurd (let z : false ≡ true = c in cc)
  counted_16 Words c = refl
  counted_16 Text c = refl
  counted_16 Bits c = absurd (let z : false ≡ true = c in cc)
  counted_16 Data c = absurd (let z : false ≡ true = c in cc)

  pub tail_room : (f : Tail) → form b ≡ f → due b ≡ ATail → is_counted f ≡ true → fault.reason ≡ Count → at % 8 + 16 ≤ 8 * length octets
  tail_room f ef d c is =
      let le = decided ReadTail (tail_next b here rest d) in
      let a = n.at_is in
      let end : failing_part ReadTail fault.reason b here rest ≡ here + 8 * count_octets (form b) = ap (λ (r : Reason). failing_part ReadTail r b here rest) is in
      let two : count_octets (form b) ≡ 2 = ap count_octets ef ∙ counted_16 f c in
      omega (arith, le, end, two, a)

  pub tail_text : (f : Tail) → form b ≡ f → due b ≡ ATail
      → refused_text at (taken_lines (depth - 1) (count_fields fault.reason f) 0 rest) ++ fault_line fault.bit (tail_sentence f node.kind (8 * node.stop) at fault.reason (counted f b.fields rest)) ≡ refusal_text (b ∷ outer) fault.bit fault.reason rest
  tail_text f ef d =
      ap (λ (a : ℕ). refused_text a (taken_lines (depth - 1) (count_fields fault.reason f) 0 rest) ++ fault_line fault.bit (tail_sentence f node.kind (8 * node.stop) a fault.reason (counted f b.fields rest))) n.at_is
      ∙ ap (λ (l : ℕ). refused_text here (taken_lines l (count_fields fault.reason f) 0 rest) ++ fault_line fault.bit (tail_sentence f node.kind (8 * node.stop) here fault.reason (counted f b.fields rest))) level_is
      ∙ ap (λ (k : Kind). refused_text here (taken_lines (length outer) (count_fields fault.reason f) 0 rest) ++ fault_line fault.bit (tail_sentence f k (8 * node.stop) here fault.reason (counted f b.fields rest))) (sym n.level.kind)
      ∙ ap (λ (s : ℕ). refused_text here (taken_lines (length outer) (count_fields fault.reason f) 0 rest) ++ fault_line fault.bit (tail_sentence f (kind_of_head b.head) s here fault.reason (counted f b.fields rest))) (sym n.level.stop)
      ∙ ap (λ (g : Tail). refused_text here (taken_lines (length outer) (count_fields fault.reason g) 0 rest) ++ fault_line fault.bit (tail_sentence g (kind_of_head b.head) b.stop here fault.reason (counted g b.fields rest))) (sym ef)
      ∙ part_text b outer fault.bit fault.reason rest ReadTail (tail_next b here rest d)

  counted_bits : (f : Tail) → is_counted f ≡ false → counted f b.fields rest ≡ first b.fields
  counted_bits Absent c = refl
  counted_bits Words c = absurd (let z : true ≡ false = c in cc)
  counted_bits Text c = absurd (let z : true ≡ false = c in cc)
  counted_bits Bits c = refl
  counted_bits Data c = refl

  pub tail_value : (f : Tail) (v known : ℕ) → form b ≡ f → due b ≡ ATail → (is_counted f ≡ true → at % 8 + 16 ≤ 8 * length octets → (later : List Bool) → v ≡ number (digits_of_bytes octets ++ later) (at % 8) 16) → (is_counted f ≡ false → v ≡ known) → known ≡ first b.fields
      → fault.reason ≡ Count → v ≡ counted f b.fields rest
  tail_value f v known ef d read field k is =
      elim (is_counted f) as (λ c. is_counted f ≡ c → v ≡ counted f b.fields rest) [
        | true ↦ λ c. (let a = n.at_is in read c (tail_room f ef d c is) n.handed.later ∙ ap (λ (m : ℕ). number (digits_of_bytes octets ++ n.handed.later) (m % 8) 16) a ∙ sym (ap (λ (x : List Bool). number x 0 16) n.handed.are) ∙ sym (counted_number f b.fields rest c))
        | false ↦ λ c. field c ∙ k ∙ sym (counted_bits f c)
      ] refl

  pub first_small : first b.fields < 2 ^ 100
  unfolding IsOpenTree
  first_small = first_below (kind_of_head b.head) b.fields (let s = n.is_open in s.0.fields)

  -- ---- the end of the node

  pub missing_text : due b ≡ Rest → fault.reason ≡ Missing → fault_line fault.bit (missing_sentence node.kind (first_missing (groups_of node.kind) b.children)) ≡ refusal_text (b ∷ outer) fault.bit fault.reason rest
  missing_text d is =
      ap (λ (k : Kind). fault_line fault.bit (missing_sentence k (first_missing (groups_of k) b.children))) (sym n.level.kind)
      ∙ close_text b outer fault.bit fault.reason rest (rest_next b outer rest fault.bit fault.reason d n.fails ∙ ap (λ (r : Reason). turn_by r (first_digit rest)) is)

  pub extra_text : due b ≡ Rest → fault.reason ≡ Extra → fault_line fault.bit (extra_sentence node.kind (8 * node.stop)) ≡ refusal_text (b ∷ outer) fault.bit fault.reason rest
  extra_text d is =
      ap (λ (k : Kind). fault_line fault.bit (extra_sentence k (8 * node.stop))) (sym n.level.kind)
      ∙ ap (λ (s : ℕ). fault_line fault.bit (extra_sentence (kind_of_head b.head) s)) (sym n.level.stop)
      ∙ no_child_text b outer fault.bit fault.reason rest (rest_next b outer rest fault.bit fault.reason d n.fails ∙ ap (λ (r : Reason). turn_by r (first_digit rest)) is)

  -- ---- a child

  module _ (d : due b ≡ Rest) (missing : fault.reason ≢ Missing) (extra : fault.reason ≢ Extra) where
    child_next : next_part b here rest ≡ (if first_digit rest then BeginTv else BeginTlv)
    child_next = rest_next b outer rest fault.bit fault.reason d n.fails ∙ turn_child fault.reason (first_digit rest) missing extra

    least_room : (digit : Bool) (reason : Reason) → here + 8 ≤ failing_part (if digit then BeginTv else BeginTlv) reason b here rest
    least_room true reason = omega arith
    least_room false Reserved = omega arith
    least_room false Version = omega arith
    least_room false MessageType = omega arith
    least_room false MessageLength = omega arith
    least_room false Short = omega arith
    least_room false Value = omega arith
    least_room false Count = omega arith
    least_room false Utf8 = omega arith
    least_room false ParamType = omega arith
    least_room false Misplaced = omega arith
    least_room false TooMany = omega arith
    least_room false TooDeep = omega arith
    least_room false ParamLength = omega arith
    least_room false Extra = omega arith
    least_room false Missing = omega arith

    aligned : here % 8 ≡ 0
    aligned = (let c = covered_octets b outer n.is_open d in let e = c.1 in omega (arith, e))

    pub first_there : 1 ≤ length octets
    first_there =
        let le = decided (if first_digit rest then BeginTv else BeginTlv) child_next in
        let least = least_room (first_digit rest) fault.reason in
        let z = aligned in
        omega (arith, le, least, z)

    pub rest_is : rest ≡ digits_of_bytes octets ++ n.handed.later
    rest_is = n.handed.are ∙ ap (λ (k : ℕ). drop k (digits_of_bytes octets ++ n.handed.later)) aligned

    pub digit_zero : (v : ℕ) → ((later : List Bool) → v ≡ number (digits_of_bytes octets ++ later) 0 1) → v ≡ 0 → first_digit rest ≡ false
    digit_zero v is z = digit_is_zero rest (sym z ∙ is n.handed.later ∙ ap (λ (x : List Bool). number x 0 1) (sym rest_is))

    pub digit_one : (v : ℕ) → ((later : List Bool) → v ≡ number (digits_of_bytes octets ++ later) 0 1) → v ≢ 0 → first_digit rest ≡ true
    digit_one v is z = digit_is_one rest (λ e. z (is n.handed.later ∙ ap (λ (x : List Bool). number x 0 1) (sym rest_is) ∙ sym e))

    tlv_end : (reason : Reason) → (reason ≡ Short) ⊎ (failing_part BeginTlv reason b here rest ≡ here + 32)
    tlv_end Reserved = inr refl
    tlv_end Version = inr refl
    tlv_end MessageType = inr refl
    tlv_end MessageLength = inr refl
    tlv_end Short = inl refl
    tlv_end Value = inr refl
    tlv_end Count = inr refl
    tlv_end Utf8 = inr refl
    tlv_end ParamType = inr refl
    tlv_end Misplaced = inr refl
    tlv_end TooMany = inr refl
    tlv_end TooDeep = inr refl
    tlv_end ParamLength = inr refl
    tlv_end Extra = inr refl
    tlv_end Missing = inr refl

    tlv_next : first_digit rest ≡ false → next_part b here rest ≡ BeginTlv
    tlv_next z = child_next ∙ ap (λ (x : Bool). if x then BeginTv else BeginTlv) z

    tv_next : first_digit rest ≡ true → next_part b here rest ≡ BeginTv
    tv_next z = child_next ∙ ap (λ (x : Bool). if x then BeginTv else BeginTlv) z

    pub head_there : first_digit rest ≡ false → (fault.reason ≡ Short) ⊎ (4 ≤ length octets)
    head_there z = elim (tlv_end fault.reason) [
      | inl s ↦ inl s
      | inr end ↦ inr (let le = decided BeginTlv (tlv_next z) in let al = aligned in omega (arith, le, end, al))
    ]

    pub tv_text : first_digit rest ≡ true
        → refused_text at (taken_lines depth tv_fields 0 rest) ++ fault_line fault.bit (kind_sentence (tv_kind (set_of_kind node.kind) rest) (number rest 1 7) depth node.kind fault.reason) ≡ refusal_text (b ∷ outer) fault.bit fault.reason rest
    tv_text z =
        ap (λ (a : ℕ). refused_text a (taken_lines depth tv_fields 0 rest) ++ fault_line fault.bit (kind_sentence (tv_kind (set_of_kind node.kind) rest) (number rest 1 7) depth node.kind fault.reason)) n.at_is
        ∙ ap (λ (l : ℕ). refused_text here (taken_lines l tv_fields 0 rest) ++ fault_line fault.bit (kind_sentence (tv_kind (set_of_kind node.kind) rest) (number rest 1 7) l node.kind fault.reason)) n.depth_is
        ∙ ap (λ (k : Kind). refused_text here (taken_lines (suc (length outer)) tv_fields 0 rest) ++ fault_line fault.bit (kind_sentence (tv_kind (set_of_kind k) rest) (number rest 1 7) (suc (length outer)) k fault.reason)) (sym n.level.kind)
        ∙ part_text b outer fault.bit fault.reason rest BeginTv (tv_next z)

    pub tlv_text : first_digit rest ≡ false
        → refused_text at (taken_lines depth (tlv_fields fault.reason) 0 rest) ++ fault_line fault.bit (tlv_sentence (tlv_kind (set_of_kind node.kind) rest) node.kind (8 * node.stop) at depth fault.reason (number rest 0 6) (number rest 6 10) (number rest 16 16)) ≡ refusal_text (b ∷ outer) fault.bit fault.reason rest
    tlv_text z =
        ap (λ (a : ℕ). refused_text a (taken_lines depth (tlv_fields fault.reason) 0 rest) ++ fault_line fault.bit (tlv_sentence (tlv_kind (set_of_kind node.kind) rest) node.kind (8 * node.stop) a depth fault.reason (number rest 0 6) (number rest 6 10) (number rest 16 16))) n.at_is
        ∙ ap (λ (l : ℕ). refused_text here (taken_lines l (tlv_fields fault.reason) 0 rest) ++ fault_line fault.bit (tlv_sentence (tlv_kind (set_of_kind node.kind) rest) node.kind (8 * node.stop) here l fault.reason (number rest 0 6) (number rest 6 10) (number rest 16 16))) n.depth_is
        ∙ ap (λ (k : Kind). refused_text here (taken_lines (suc (length outer)) (tlv_fields fault.reason) 0 rest) ++ fault_line fault.bit (tlv_sentence (tlv_kind (set_of_kind k) rest) k (8 * node.stop) here (suc (length outer)) fault.reason (number rest 0 6) (number rest 6 10) (number rest 16 16))) (sym n.level.kind)
        ∙ ap (λ (s : ℕ). refused_text here (taken_lines (suc (length outer)) (tlv_fields fault.reason) 0 rest) ++ fault_line fault.bit (tlv_sentence (tlv_kind (set_of_kind (kind_of_head b.head)) rest) (kind_of_head b.head) s here (suc (length outer)) fault.reason (number rest 0 6) (number rest 6 10) (number rest 16 16))) (sym n.level.stop)
        ∙ part_text b outer fault.bit fault.reason rest BeginTlv (tlv_next z)
