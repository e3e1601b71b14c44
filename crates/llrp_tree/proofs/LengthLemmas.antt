-- How many digits messages and parameters spell.
use Rattle.std.proofs.Common.{◌≡◌, ℕ, ◌+◌, ◌*◌, ◌/◌, ◌≤◌, List, [], ◌∷◌, ◌++◌, Bool, true, false, refl, ap, ◌∙◌, sym, arith, length, length-append}
use Rattle.std.proofs.lemmas.List.Sums.{sum_by-cons}
use Rattle.std.specs.Prelude.{if◌then◌else◌}
use Rattle.tag_bits.specs.Digits.{digits, digits_of_bytes}
use Rattle.tag_bits.proofs.DigitLemmas.{length-digits}
use Rattle.tag_bits.proofs.ByteLemmas.{length-bytes}
use Rattle.llrp_schema.specs.declared.kinds.ParamKind.{ParamKind}
use Rattle.llrp_schema.specs.declared.kinds.MsgKind.{MsgKind}
use Rattle.llrp_schema.specs.declared.kinds.Kind.{Kind}
use Rattle.llrp_schema.specs.declared.kinds.Kind.TheVariants.{Message, Parameter}
use Rattle.llrp_schema.specs.declared.kinds.Tail.{Tail}
use Rattle.llrp_schema.specs.declared.kinds.Tail.TheVariants.{Absent, Words, Text, Bits, Data}
use Rattle.llrp_schema.specs.Schema.{FieldRule, fields_of, tail_of, number_of, bits_of, is_tv}
use Rattle.llrp_schema.proofs.TableLaws.{whole_octets}
use Rattle.llrp_tree.specs.Tree.{Forest, none, and, Tree, MessageTree}
use Rattle.llrp_tree.specs.Lawful.{head_octets, count_octets, body_octets, octets, tree_octets, message_octets, first, others}
use Rattle.llrp_tree.specs.Frame.{Frame}
use Rattle.llrp_tree.specs.Spelling.{message, tlv, tv, head_of, head_digits, spread, field_digits, tail_digits, body_digits, forest_digits, message_digits}
use Rattle.llrp_tree.specs.Calls.Spelling.{tree_digits}

length-step : (r : FieldRule) (rules : List FieldRule) (v : ℕ) (ds : List Bool) → length ds ≡ bits_of rules → length (digits r.width v ++ ds) ≡ bits_of (r ∷ rules)
length-step r rules v ds h =
    let step : length (digits r.width v) + length ds ≡ r.width + bits_of rules = omega (arith, length-digits r.width v) in
    length-append (digits r.width v) ds ∙ step ∙ sym (sum_by-cons (λ x. x.width) r rules)

length-field_digits : (rules : List FieldRule) (values : List ℕ) → length (field_digits rules (spread rules values)) ≡ bits_of rules
length-field_digits [] values = refl
length-field_digits (r ∷ rules) values =
    elim r.reserved as (λ b. length (field_digits (r ∷ rules) (if b then 0 ∷ spread rules values else first values ∷ spread rules (others values))) ≡ bits_of (r ∷ rules)) [
      | true ↦ length-step r rules 0 (field_digits rules (spread rules values)) (length-field_digits rules values)
      | false ↦ length-step r rules (first values) (field_digits rules (spread rules (others values))) (length-field_digits rules (others values))
    ]

pub length-tail_digits : (form : Tail) (tail : List ℕ) → length (tail_digits form tail) ≡ 8 * (count_octets form + length tail)
length-tail_digits Absent tail = length-bytes tail ∙ omega arith
length-tail_digits Words tail = length-append (digits 16 (length tail / 2)) (digits_of_bytes tail) ∙ omega (arith, length-digits 16 (length tail / 2), length-bytes tail)
length-tail_digits Text tail = length-append (digits 16 (length tail)) (digits_of_bytes tail) ∙ omega (arith, length-digits 16 (length tail), length-bytes tail)
length-tail_digits Bits tail = length-bytes tail ∙ omega arith
length-tail_digits Data tail = length-bytes tail ∙ omega arith

pub length-body_digits : (kind : Kind) (values tail : List ℕ) → length (body_digits kind values tail) ≡ 8 * body_octets kind tail
unfolding body_digits body_octets
length-body_digits kind values tail =
    length-append (field_digits (fields_of kind) (spread (fields_of kind) values)) (tail_digits (tail_of kind) tail)
    ∙ omega (arith, length-field_digits (fields_of kind) values, length-tail_digits (tail_of kind) tail, whole_octets kind)

pub length-tlv : (kind : ParamKind) (n : ℕ) → length (head_digits (tlv kind n)) ≡ 32
unfolding head_digits
length-tlv kind n =
    let t : ℕ = number_of (Parameter kind) in
    length-append (digits 6 0 ++ digits 10 t) (digits 16 n) ∙ omega (arith, length-append (digits 6 0) (digits 10 t), length-digits 6 0, length-digits 10 t, length-digits 16 n)

pub length-tv : (kind : ParamKind) → length (head_digits (tv kind)) ≡ 8
unfolding head_digits
length-tv kind = let t : ℕ = number_of (Parameter kind) in length-append (digits 1 1) (digits 7 t) ∙ omega (arith, length-digits 1 1, length-digits 7 t)

pub length-head : (kind : ParamKind) (n : ℕ) → length (head_digits (head_of kind n)) ≡ 8 * head_octets kind
length-head kind n =
    elim (is_tv kind) as (λ b. length (head_digits (if b then tv kind else tlv kind n)) ≡ 8 * (if b then 1 else 4)) [ true ↦ length-tv kind | false ↦ length-tlv kind n ]

pub length-message_head : (v : ℕ) (kind : MsgKind) (n id : ℕ) → length (head_digits (message v kind n id)) ≡ 80
unfolding head_digits
length-message_head v kind n id =
    let t : ℕ = number_of (Message kind) in
    length-append (((digits 3 0 ++ digits 3 v) ++ digits 10 t) ++ digits 32 n) (digits 32 id)
    ∙ omega (arith, length-append ((digits 3 0 ++ digits 3 v) ++ digits 10 t) (digits 32 n), length-append (digits 3 0 ++ digits 3 v) (digits 10 t), length-append (digits 3 0) (digits 3 v), length-digits 3 0, length-digits 3 v, length-digits 10 t, length-digits 32 n, length-digits 32 id)

-- a node's digits: head, body, children
whole : (head body children : List Bool) (h b c : ℕ) → length head ≡ 8 * h → length body ≡ 8 * b → length children ≡ 8 * c → length (head ++ (body ++ children)) ≡ 8 * (h + b + c)
whole head body children h b c e f g = length-append head (body ++ children) ∙ omega (arith, length-append body children)

pub length-spell : (f : Forest) → length (forest_digits f) ≡ 8 * octets f
unfolding forest_digits
length-spell none = refl
length-spell (and before kind fields tail children) =
    let n : ℕ = head_octets kind + body_octets (Parameter kind) tail + octets children in
    let own = whole (head_digits (head_of kind n)) (body_digits (Parameter kind) fields tail) (forest_digits children) (head_octets kind) (body_octets (Parameter kind) tail) (octets children) (length-head kind n) (length-body_digits (Parameter kind) fields tail) (length-spell children) in
    length-append (forest_digits before) (head_digits (head_of kind n) ++ (body_digits (Parameter kind) fields tail ++ forest_digits children)) ∙ omega (arith, own, length-spell before)

pub tree_length : (t : Tree) → length (tree_digits t) ≡ 8 * tree_octets t
tree_length t =
    whole (head_digits (head_of t.kind (tree_octets t))) (body_digits (Parameter t.kind) t.fields t.tail) (forest_digits t.children) (head_octets t.kind) (body_octets (Parameter t.kind) t.tail) (octets t.children) (length-head t.kind (tree_octets t)) (length-body_digits (Parameter t.kind) t.fields t.tail) (length-spell t.children)

pub length-message_digits : (m : MessageTree) → length (message_digits m) ≡ 8 * message_octets m
length-message_digits m =
    whole (head_digits (message m.version m.kind (message_octets m) m.id)) (body_digits (Message m.kind) m.fields m.tail) (forest_digits m.children) 10 (body_octets (Message m.kind) m.tail) (octets m.children) (length-message_head m.version m.kind (message_octets m) m.id ∙ refl) (length-body_digits (Message m.kind) m.fields m.tail) (length-spell m.children)

-- octets that spell a message are as many as its length says
pub spelled_length : (m : MessageTree) (bytes : List ℕ) → digits_of_bytes bytes ≡ message_digits m → length bytes ≡ message_octets m
spelled_length m bytes e = omega (arith, length-bytes bytes, ap (λ (x : List Bool). length x) e, length-message_digits m)

-- a tail is no longer than the node
pub tail_within : (kind : Kind) (tail : List ℕ) → length tail ≤ body_octets kind tail
unfolding body_octets
tail_within kind tail = omega arith

pub frame_length : (m : MessageTree) (bytes : List ℕ) (limit : ℕ) → Frame m bytes limit → length bytes ≡ message_octets m
frame_length m bytes limit f = spelled_length m bytes f.spelled
