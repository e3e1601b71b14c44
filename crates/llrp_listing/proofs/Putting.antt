-- A line that was read, as what is kept of it and its octets.
use Rattle.std.proofs.Common.{◌≡◌, ℕ, suc, ◌+◌, ◌/◌, ◌<◌, ◌≤◌, min, Bool, true, false, List, [], ◌∷◌, ◌++◌, length, map, filter, not, Option, Some, None, refl, sym, ap, ◌∙◌, subst, arith, inl, inr, append_assoc, eq-eqb}
use Rattle.std.specs.Prelude.{nat_le, ◌&&◌, ◌||◌, ◌==◌, is_none}
use Rattle.std.proofs.lemmas.Bool.{le-leb, leb-true}
use Rattle.std.proofs.lemmas.List.{append-nil, length-map}
use Rattle.std.proofs.lemmas.Nat.Bits.{bit_at-zero}
use Rattle.tag_bits.specs.Digits.{digits_of_bytes}
use Rattle.tag_bits.proofs.ByteLemmas.{bytes-append}
use Rattle.llrp_schema.specs.declared.kinds.ParamKind.{ParamKind}
use Rattle.llrp_schema.specs.declared.kinds.MsgKind.{MsgKind}
use Rattle.llrp_schema.specs.declared.kinds.Kind.{Kind}
use Rattle.llrp_schema.specs.declared.kinds.Kind.TheVariants.{Message, Parameter}
use Rattle.llrp_schema.specs.declared.kinds.Tail.{Tail}
use Rattle.llrp_schema.specs.declared.kinds.Tail.TheVariants as form
use Rattle.llrp_schema.specs.declared.kinds.KindSet.TheVariants.{Profile}
use Rattle.llrp_schema.specs.Schema.{GroupRule, FieldRule, bits_of, fields_of, groups_of, set_of_kind, tail_of}
use Rattle.llrp_tree.specs.declared.node.NodeFault.{NodeFault}
use Rattle.llrp_tree.specs.declared.node.NodeFault.TheVariants.{FieldCount, Value, Tail as BadTail, Misplaced, TooMany}
use Rattle.llrp_tree.specs.Checks.{all_placed, count_fits, first_failed, members, none_too_many, tail_fits, values_fit}
use Rattle.llrp_tree.specs.Lawful.{at_most}
use Rattle.llrp_tree.proofs.MessageTails.{no_count, uncounted}
use Rattle.llrp_tree.specs.Lawful.{AreOctets, body_octets, count, count_octets}
use Rattle.llrp_tree.specs.Calls.Lawful.{own_octets}
use Rattle.llrp_tree.specs.Calls.HeadOctets.{all_fields, message_start, parameter_start}
use Rattle.llrp_tree.specs.Spelling.{body_digits, count_digits, head_digits, head_of, message}
use Rattle.llrp_tree.specs.Tree as tree
use Rattle.llrp_tree.specs.Calls.Writing.{Appends}
use Rattle.llrp_tree.proofs.LawLemmas.{both}
use Rattle.llrp_tree.proofs.OwnLemmas.{short_message, short_parameter}
use Rattle.llrp_listing.specs.LineChecks.{AreInForm, IsInForm}
use Rattle.llrp_listing.specs.NodeLine.{NodeLine, NumberForm, field_form, number_forms}
use Rattle.llrp_listing.specs.declared.encode.line_octets.PutLine.{PutLine}
use Rattle.llrp_listing.specs.Private.EncodeBuffer.{CanBegin}
use Rattle.llrp_listing.specs.Private.OpenNodes.{IsPut, IsSaid, MOST, early_fault, line_digits, own_fault, own_tests, values_of, version_fits}
use Rattle.llrp_stream.specs.Calls.Reading.{AreSeen}
use Rattle.llrp_listing.specs.Private.LineOctets.{Puts}
use Rattle.llrp_tree.proofs.OctetLemmas.{octets-append as octets_append}
use Rattle.llrp_listing.proofs.NodeFaults.{tail_octets}

-- ---- a line with nothing below it

many_none : (gs : List GroupRule) → none_too_many gs [] ≡ true
unfolding none_too_many
many_none [] = refl
many_none (g ∷ gs) = rw (zero_fits g.most) (many_none gs)
  where
    zero_fits : (most : Option ℕ) → at_most most (members g []) ≡ true
    zero_fits None = refl
    zero_fits (Some most) = le-leb 0 most (omega arith)

three : (a b c : Bool) → first_failed ((a, FieldCount) ∷ (b, Value) ∷ (c, BadTail) ∷ (true, Misplaced) ∷ (true, TooMany) ∷ []) ≡ first_failed ((a, FieldCount) ∷ (b, Value) ∷ (c, BadTail) ∷ [])
three false b c = refl
three true false c = refl
three true true false = refl
three true true true = refl

early_none : (line : NodeLine) → early_fault line tree.none ≡ own_fault line
unfolding early_fault own_fault all_placed
early_none line =
    ap (λ (b : Bool). first_failed (own_tests line ++ ((true, Misplaced) ∷ (b, TooMany) ∷ []))) (many_none (groups_of line.kind))
    ∙ three (count_fits (fields_of line.kind) (values_of line.kind line.numbers)) (version_fits line.kind line.numbers && values_fit (fields_of line.kind) (values_of line.kind line.numbers)) (tail_fits (tail_of line.kind) (values_of line.kind line.numbers) line.tail)

none_seen : (gs : List GroupRule) → AreSeen gs tree.none 0
unfolding count
none_seen gs k d lt = bit_at-zero k

-- what is kept of it
can_begin : (line : NodeLine) (number : ℕ) (fault : Option NodeFault) (octets : ℕ) (begun : PutLine) (more : List ℕ) → IsSaid line → fault ≡ own_fault line → octets ≡ min (own_octets line.kind line.tail) MOST
    → begun ≡ record { held = record { kind = line.kind; number = number; fault = fault; seen = 0; levels = 0; octets = octets }; put = is_none fault }
    → AreOctets more → (fault ≡ None → digits_of_bytes more ≡ line_digits line.kind line.numbers line.tail) → CanBegin begun.held begun.put more line number
can_begin line number fault octets begun more said f o b os d =
    subst (λ (x : PutLine). CanBegin x.held x.put more line number) (sym b) (record {
      is = record {
        kind = refl;
        number = refl;
        fault = f ∙ sym (early_none line);
        seen = none_seen (groups_of line.kind);
        levels = refl;
        octets = o ∙ omega arith;
        said = said;
        lawful = tt;
      };
      octets = os;
      put_is = on fault f d;
    })
  where
    on : (fault : Option NodeFault) → fault ≡ own_fault line → (fault ≡ None → digits_of_bytes more ≡ line_digits line.kind line.numbers line.tail) → IsPut (is_none fault) line more
    on None f d = d refl
    on (Some x) f d = (x, sym f)

-- ---- the line's own tests

abbrev two_tests : Kind → List ℕ → List ℕ → Option NodeFault
two_tests kind values tail = first_failed ((values_fit (fields_of kind) values, Value) ∷ (tail_fits (tail_of kind) values tail, BadTail) ∷ [])

form_length : (forms : List NumberForm) (numbers : List ℕ) → AreInForm forms numbers → length numbers ≡ length forms
form_length [] [] h = refl
form_length [] (n ∷ ns) h = absurd h
form_length (f ∷ fs) [] h = absurd h
form_length (f ∷ fs) (n ∷ ns) h = ap suc (form_length fs ns h.1)

plain_count : (rules : List FieldRule) (values : List ℕ) → AreInForm (map field_form (filter (λ (field : FieldRule). not field.reserved) rules)) values → count_fits rules values ≡ true
plain_count rules values h = eq-eqb (length values) (length (filter (λ (field : FieldRule). not field.reserved) rules)) (form_length (map field_form (filter (λ (field : FieldRule). not field.reserved) rules)) values h ∙ length-map (filter (λ (field : FieldRule). not field.reserved) rules) field_form)

pub own_parameter : (kind : ParamKind) (values tail : List ℕ) → IsSaid (record { kind = Parameter kind; numbers = values; tail = tail }) → two_tests (Parameter kind) values tail ≡ own_fault (record { kind = Parameter kind; numbers = values; tail = tail })
unfolding own_fault number_forms
own_parameter kind values tail s =
    sym (ap (λ (b : Bool). first_failed ((b, FieldCount) ∷ (values_fit (fields_of (Parameter kind)) values, Value) ∷ (tail_fits (tail_of (Parameter kind)) values tail, BadTail) ∷ [])) (plain_count (fields_of (Parameter kind)) values s.numbers))

known : (v : ℕ) → IsInForm NumberForm.Version v → ((v == 1) || (v == 2)) ≡ true
known v (inl e) = rw e refl
known v (inr e) = rw e refl

pub own_message : (kind : MsgKind) (version id : ℕ) (values tail : List ℕ) → IsSaid (record { kind = Message kind; numbers = version ∷ id ∷ values; tail = tail }) → two_tests (Message kind) values tail ≡ own_fault (record { kind = Message kind; numbers = version ∷ id ∷ values; tail = tail })
unfolding own_fault number_forms
own_message kind version id values tail s =
    sym (ap (λ (b : Bool). first_failed ((b, FieldCount) ∷ (((version == 1) || (version == 2)) && values_fit (fields_of (Message kind)) values, Value) ∷ (tail_fits (tail_of (Message kind)) values tail, BadTail) ∷ [])) (plain_count (fields_of (Message kind)) values s.numbers.1.1)
    ∙ ap (λ (b : Bool). first_failed ((b && values_fit (fields_of (Message kind)) values, Value) ∷ (tail_fits (tail_of (Message kind)) values tail, BadTail) ∷ [])) (known version s.numbers.0))

pub small_version : (kind : MsgKind) (version id : ℕ) (values tail : List ℕ) → IsSaid (record { kind = Message kind; numbers = version ∷ id ∷ values; tail = tail }) → version < 8
unfolding number_forms
small_version kind version id values tail s = elim s.numbers.0 [ inl e ↦ omega (arith, e) | inr e ↦ omega (arith, e) ]

both_pass : (a b : Bool) → first_failed ((a, Value) ∷ (b, BadTail) ∷ []) ≡ None → (a ≡ true) × (b ≡ true)
both_pass true true e = (refl, refl)
both_pass true false e = absurd cc
both_pass false b e = absurd cc

-- what passed, once there is no fault
pub passed : (kind : Kind) (values tail : List ℕ) (fault : Option NodeFault) → fault ≡ two_tests kind values tail → fault ≡ None → (values_fit (fields_of kind) values ≡ true) × (tail_fits (tail_of kind) values tail ≡ true)
passed kind values tail fault f none = both_pass (values_fit (fields_of kind) values) (tail_fits (tail_of kind) values tail) (sym f ∙ none)

-- a kind without fields and tail has nothing that can fail
pub bare_passes : (kind : Kind) → fields_of kind ≡ [] → tail_of kind ≡ form.Absent → None ≡ two_tests kind [] []
bare_passes kind e f =
    sym (ap (λ (rules : List FieldRule). first_failed ((values_fit rules [], Value) ∷ (tail_fits (tail_of kind) [] [], BadTail) ∷ [])) e
    ∙ ap (λ (t : Tail). first_failed ((values_fit [] [], Value) ∷ (tail_fits t [] [], BadTail) ∷ [])) f)

-- a message without fields is its header
pub bare_message : (kind : MsgKind) → fields_of (Message kind) ≡ [] → own_octets (Message kind) [] ≡ 10
unfolding body_octets
bare_message kind e =
    ap (λ (rules : List FieldRule). 10 + (bits_of rules / 8 + count_octets (tail_of (Message kind)) + 0)) e
    ∙ ap (λ (n : ℕ). 10 + (0 + n + 0)) (uncounted kind)

pub words_fit : (f : Tail) (values tail : List ℕ) → tail_fits f values tail ≡ true → f ≡ form.Words → length tail / 2 ≤ 65535
words_fit f values tail e is = let p = both _ (nat_le (length tail / 2) 65535) (sym (ap (λ (x : Tail). tail_fits x values tail) is) ∙ e) in leb-true (length tail / 2) 65535 p.1

pub text_fits : (f : Tail) (values tail : List ℕ) → tail_fits f values tail ≡ true → f ≡ form.Text → length tail ≤ 65535
text_fits f values tail e is = let p = both (nat_le (length tail) 65535) _ (sym (ap (λ (x : Tail). tail_fits x values tail) is) ∙ e) in leb-true (length tail) 65535 p.0

-- ---- its octets

-- those before the tail are sixteen at most in the profile
pub own_short : (kind : Kind) → set_of_kind kind ≡ Profile → own_octets kind [] ≤ 16
own_short (Message kind) own = short_message kind own
own_short (Parameter kind) own = short_parameter kind own

parameter_spelled : (kind : ParamKind) (values tail start : List ℕ) → digits_of_bytes start ≡ parameter_start kind 0 values tail → digits_of_bytes (start ++ tail) ≡ line_digits (Parameter kind) values tail
unfolding line_digits body_digits
parameter_spelled kind values tail start e =
    let h = head_digits (head_of kind 0) in
    let f = all_fields (fields_of (Parameter kind)) values in
    let c = count_digits (tail_of (Parameter kind)) tail in
    let t = digits_of_bytes tail in
    bytes-append start tail ∙ ap (λ (z : List Bool). z ++ t) e ∙ append_assoc h (f ++ c) t ∙ ap (λ (z : List Bool). h ++ z) (append_assoc f c t)

message_spelled : (kind : MsgKind) (version id : ℕ) (values tail start : List ℕ) → digits_of_bytes start ≡ message_start version kind 0 id values → digits_of_bytes (start ++ tail) ≡ line_digits (Message kind) (version ∷ id ∷ values) tail
unfolding line_digits body_digits
message_spelled kind version id values tail start e =
    let h = head_digits (message version kind 0 id) in
    let f = all_fields (fields_of (Message kind)) values in
    let c = count_digits (tail_of (Message kind)) [] in
    let t = digits_of_bytes tail in
    bytes-append start tail ∙ ap (λ (z : List Bool). z ++ t) e ∙ append_assoc h (f ++ c) t ∙ ap (λ (z : List Bool). h ++ z) (append_assoc f c t)
    ∙ ap (λ (z : List Bool). h ++ (f ++ (z ++ t))) (no_count kind [] ∙ sym (no_count kind tail))

start_octets : (start : List ℕ) (ds : List Bool) → Appends [] start ds → AreOctets start × (digits_of_bytes start ≡ ds)
start_octets start ds a = (subst AreOctets (sym a.whole) a.octets, ap digits_of_bytes a.whole ∙ a.spelled)

-- ---- the line can begin

pub puts_parameter : (kind : ParamKind) (values tail start old new : List ℕ) (number : ℕ) (fault : Option NodeFault) (octets : ℕ) (begun : PutLine) → IsSaid (record { kind = Parameter kind; numbers = values; tail = tail }) → fault ≡ two_tests (Parameter kind) values tail → octets ≡ min (own_octets (Parameter kind) tail) MOST
    → begun ≡ record { held = record { kind = Parameter kind; number = number; fault = fault; seen = 0; levels = 0; octets = octets }; put = is_none fault }
    → Appends [] start (parameter_start kind 0 values tail) → new ≡ (old ++ start) ++ tail → Puts old new begun (record { kind = Parameter kind; numbers = values; tail = tail }) number
puts_parameter kind values tail start old new number fault octets begun said f o b a e =
    let s = start_octets start (parameter_start kind 0 values tail) a in
    let line : NodeLine = record { kind = Parameter kind; numbers = values; tail = tail } in
    record {
      more = start ++ tail;
      appended = e ∙ append_assoc old start tail;
      can = can_begin line number fault octets begun (start ++ tail) said (f ∙ own_parameter kind values tail said) o b (octets_append start tail s.0 (tail_octets (tail_of (Parameter kind)) tail said.tail)) (λ none. parameter_spelled kind values tail start s.1);
    }

pub puts_message : (kind : MsgKind) (version id : ℕ) (values tail start old new : List ℕ) (number : ℕ) (fault : Option NodeFault) (octets : ℕ) (begun : PutLine) → IsSaid (record { kind = Message kind; numbers = version ∷ id ∷ values; tail = tail }) → fault ≡ two_tests (Message kind) values tail → octets ≡ min (own_octets (Message kind) tail) MOST
    → begun ≡ record { held = record { kind = Message kind; number = number; fault = fault; seen = 0; levels = 0; octets = octets }; put = is_none fault }
    → Appends [] start (message_start version kind 0 id values) → new ≡ (old ++ start) ++ tail → Puts old new begun (record { kind = Message kind; numbers = version ∷ id ∷ values; tail = tail }) number
puts_message kind version id values tail start old new number fault octets begun said f o b a e =
    let s = start_octets start (message_start version kind 0 id values) a in
    let line : NodeLine = record { kind = Message kind; numbers = version ∷ id ∷ values; tail = tail } in
    record {
      more = start ++ tail;
      appended = e ∙ append_assoc old start tail;
      can = can_begin line number fault octets begun (start ++ tail) said (f ∙ own_message kind version id values tail said) o b (octets_append start tail s.0 (tail_octets (tail_of (Message kind)) tail said.tail)) (λ none. message_spelled kind version id values tail start s.1);
    }

-- nothing was put
pub puts_nothing : (line : NodeLine) (old : List ℕ) (number : ℕ) (fault : Option NodeFault) (octets : ℕ) (begun : PutLine) → IsSaid line → fault ≡ own_fault line → octets ≡ min (own_octets line.kind line.tail) MOST
    → begun ≡ record { held = record { kind = line.kind; number = number; fault = fault; seen = 0; levels = 0; octets = octets }; put = is_none fault }
    → begun.put ≡ false → Puts old old begun line number
puts_nothing line old number fault octets begun said f o b unput = record {
  more = [];
  appended = sym (append-nil old);
  can = can_begin line number fault octets begun [] said f o b tt (λ none. absurd (let x : true ≡ false = sym (ap is_none none) ∙ sym (ap (λ (y : PutLine). y.put) b) ∙ unput in cc));
}
