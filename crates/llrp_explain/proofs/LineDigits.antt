-- The digits of lines are those of the parts.
use Rattle.std.proofs.Common.{◌≡◌, ℕ, suc, ◌+◌, ◌*◌, ◌/◌, List, [], ◌∷◌, ◌++◌, length, Bool, Option, Some, None, refl, sym, ap, ◌∙◌, arith, append_assoc, length-append}
use Rattle.std.proofs.lemmas.Grind.{flat_map-append}
use Rattle.std.proofs.lemmas.List.{append-nil}
use Rattle.tag_bits.specs.Digits.{digits, digits_of_bytes}
use Rattle.tag_bits.proofs.DigitLemmas.{length-digits}
use Rattle.tag_bits.proofs.ByteLemmas.{length-bytes}
use Rattle.llrp_schema.specs.declared.kinds.Kind.TheVariants.{Message, Parameter}
use Rattle.llrp_schema.specs.declared.kinds.Tail.{Tail}
use Rattle.llrp_schema.specs.declared.kinds.Tail.TheVariants.{Absent, Words, Text, Bits, Data}
use Rattle.llrp_schema.specs.Schema.{FieldRule, fields_of, tail_of, number_of}
use Rattle.llrp_tree.specs.Tree.{Forest, none, and, MessageTree}
use Rattle.llrp_tree.specs.Frame.{Frame}
use Rattle.llrp_tree.specs.Lawful.{head_octets, body_octets, octets, message_octets}
use Rattle.llrp_tree.specs.Spelling.{Head, message, tlv, tv, head_of, head_digits, field_digits, tail_digits, body_digits, forest_digits, message_digits, spread}
use Rattle.llrp_tree.specs.OpenTree.{Begun, kind_of_head, covers, part, leading_digits, read_digits}
use Rattle.llrp_explain.specs.Calls.ExplainLines.{Standing, ANumber, Octets, ExplainLine, line_digits, standing_digits, digits_of_lines, bits_of_lines, standing_bits, head_lines, field_lines, tail_lines, forest_lines, message_lines, read_lines, begun_lines, open_lines}

joined : (a b : List ExplainLine) → digits_of_lines (a ++ b) ≡ digits_of_lines a ++ digits_of_lines b
unfolding digits_of_lines
joined a b = flat_map-append line_digits a b

five : (a b c d e : List Bool) → a ++ (b ++ (c ++ (d ++ (e ++ [])))) ≡ (((a ++ b) ++ c) ++ d) ++ e
five a b c d e = ap (λ (x : List Bool). a ++ (b ++ (c ++ (d ++ x)))) (append-nil e) ∙ sym (append_assoc ((a ++ b) ++ c) d e ∙ append_assoc (a ++ b) c (d ++ e) ∙ append_assoc a b (c ++ (d ++ e)))

head_is : (level : ℕ) (h : Head) → digits_of_lines (head_lines level h) ≡ head_digits h
unfolding digits_of_lines head_lines head_digits
head_is level (message version kind count id) = five (digits 3 0) (digits 3 version) (digits 10 (number_of (Message kind))) (digits 32 count) (digits 32 id)
head_is level (tlv kind count) = ap (λ (x : List Bool). digits 6 0 ++ (digits 10 (number_of (Parameter kind)) ++ x)) (append-nil (digits 16 count)) ∙ sym (append_assoc (digits 6 0) (digits 10 (number_of (Parameter kind))) (digits 16 count))
head_is level (tv kind) = ap (λ (x : List Bool). digits 1 1 ++ x) (append-nil (digits 7 (number_of (Parameter kind))))

fields_are : (level : ℕ) (rules : List FieldRule) (values : List ℕ) → digits_of_lines (field_lines level rules values) ≡ field_digits rules values
unfolding digits_of_lines field_lines
fields_are level [] [] = refl
fields_are level (r ∷ rules) [] = refl
fields_are level [] (v ∷ values) = refl
fields_are level (r ∷ rules) (v ∷ values) = ap (λ (x : List Bool). digits r.width v ++ x) (fields_are level rules values)

tail_is : (level : ℕ) (form : Tail) (tail : List ℕ) → digits_of_lines (tail_lines level form tail) ≡ tail_digits form tail
unfolding digits_of_lines tail_lines
tail_is level Absent tail = append-nil (digits_of_bytes tail)
tail_is level Words tail = ap (λ (x : List Bool). digits 16 (length tail / 2) ++ x) (append-nil (digits_of_bytes tail))
tail_is level Text tail = ap (λ (x : List Bool). digits 16 (length tail) ++ x) (append-nil (digits_of_bytes tail))
tail_is level Bits tail = append-nil (digits_of_bytes tail)
tail_is level Data tail = append-nil (digits_of_bytes tail)

read_is : (level : ℕ) (form : Tail) (tail : Option (List ℕ)) → digits_of_lines (read_lines level form tail) ≡ read_digits form tail
unfolding digits_of_lines
read_is level form None = refl
read_is level form (Some octets) = tail_is level form octets

three : (a b c d : List ExplainLine) (x y z w : List Bool) → digits_of_lines a ≡ x → digits_of_lines b ≡ y → digits_of_lines c ≡ z → digits_of_lines d ≡ w → digits_of_lines (a ++ ((b ++ c) ++ d)) ≡ x ++ ((y ++ z) ++ w)
three a b c d x y z w ea eb ec ed = rw (joined a ((b ++ c) ++ d), joined (b ++ c) d, joined b c, ea, eb, ec, ed) refl

forest_is : (level : ℕ) (f : Forest) → digits_of_lines (forest_lines level f) ≡ forest_digits f
unfolding digits_of_lines forest_lines forest_digits body_digits
forest_is level none = refl
forest_is level (and before kind fields tail children) =
    let h : Head = head_of kind (head_octets kind + body_octets (Parameter kind) tail + octets children) in
    let fs : List ExplainLine = field_lines level (fields_of (Parameter kind)) (spread (fields_of (Parameter kind)) fields) in
    let ts : List ExplainLine = tail_lines level (tail_of (Parameter kind)) tail in
    let own = three (head_lines level h) fs ts (forest_lines (suc level) children) (head_digits h) (field_digits (fields_of (Parameter kind)) (spread (fields_of (Parameter kind)) fields)) (tail_digits (tail_of (Parameter kind)) tail) (forest_digits children)
    (head_is level h) (fields_are level (fields_of (Parameter kind)) (spread (fields_of (Parameter kind)) fields)) (tail_is level (tail_of (Parameter kind)) tail) (forest_is (suc level) children) in
    joined (forest_lines level before) (head_lines level h ++ ((fs ++ ts) ++ forest_lines (suc level) children))
    ∙ ap (λ (x : List Bool). x ++ digits_of_lines (head_lines level h ++ ((fs ++ ts) ++ forest_lines (suc level) children))) (forest_is level before)
    ∙ ap (λ (x : List Bool). forest_digits before ++ x) own

pub message_is : (m : MessageTree) → digits_of_lines (message_lines m) ≡ message_digits m
unfolding message_lines body_digits
message_is m =
    three (head_lines 0 (message m.version m.kind (message_octets m) m.id)) (field_lines 0 (fields_of (Message m.kind)) (spread (fields_of (Message m.kind)) m.fields)) (tail_lines 0 (tail_of (Message m.kind)) m.tail) (forest_lines 1 m.children)
    (head_digits (message m.version m.kind (message_octets m) m.id)) (field_digits (fields_of (Message m.kind)) (spread (fields_of (Message m.kind)) m.fields)) (tail_digits (tail_of (Message m.kind)) m.tail) (forest_digits m.children)
    (head_is 0 (message m.version m.kind (message_octets m) m.id)) (fields_are 0 (fields_of (Message m.kind)) (spread (fields_of (Message m.kind)) m.fields)) (tail_is 0 (tail_of (Message m.kind)) m.tail) (forest_is 1 m.children)

begun_is : (level : ℕ) (b : Begun) → digits_of_lines (begun_lines level b) ≡ part b
unfolding begun_lines part leading_digits
begun_is level b =
    three (head_lines level b.head) (field_lines level (fields_of (kind_of_head b.head)) b.fields) (read_lines level (tail_of (kind_of_head b.head)) b.tail) (forest_lines (suc level) b.children)
    (head_digits b.head) (field_digits (fields_of (kind_of_head b.head)) b.fields) (read_digits (tail_of (kind_of_head b.head)) b.tail) (forest_digits b.children)
    (head_is level b.head) (fields_are level (fields_of (kind_of_head b.head)) b.fields) (read_is level (tail_of (kind_of_head b.head)) b.tail) (forest_is (suc level) b.children)

pub open_is : (t : List Begun) → digits_of_lines (open_lines t) ≡ covers t
unfolding digits_of_lines open_lines covers
open_is [] = refl
open_is (b ∷ outer) = joined (open_lines outer) (begun_lines (length outer) b) ∙ ap (λ (x : List Bool). x ++ digits_of_lines (begun_lines (length outer) b)) (open_is outer) ∙ ap (λ (x : List Bool). covers outer ++ x) (begun_is (length outer) b)

standing_long : (width : ℕ) (s : Standing) → standing_bits width s ≡ length (standing_digits width s)
standing_long width (ANumber value) = sym (length-digits width value)
standing_long width (Octets octets) = sym (length-bytes octets)

pub bits_are : (lines : List ExplainLine) → bits_of_lines lines ≡ length (digits_of_lines lines)
unfolding bits_of_lines digits_of_lines
bits_are [] = refl
bits_are (l ∷ lines) = let a = standing_long l.bits l.standing in let b = bits_are lines in let c = length-append (line_digits l) (digits_of_lines lines) in omega arith

pub frame_digits : (m : MessageTree) (bytes : List ℕ) (limit : ℕ) → Frame m bytes limit → digits_of_lines (message_lines m) ≡ digits_of_bytes bytes
frame_digits m bytes limit f = message_is m ∙ sym f.spelled

pub frame_bits : (m : MessageTree) (bytes : List ℕ) (limit : ℕ) → Frame m bytes limit → bits_of_lines (message_lines m) ≡ 8 * length bytes
frame_bits m bytes limit f = bits_are (message_lines m) ∙ ap (λ (x : List Bool). length x) (frame_digits m bytes limit f) ∙ length-bytes bytes
