-- The text of what is refused of a frame, by the numbers that stand there.
use Rattle.std.proofs.Common.{◌≡◌, ◌≢◌, ◌⊎◌, inl, inr, ℕ, zero, suc, ◌<◌, ◌≤◌, List, [], ◌∷◌, ◌++◌, take, Bool, true, false, refl, sym, ap, subst, ◌∙◌, arith, append_assoc}
use Rattle.std.specs.Prelude.{codes, Option}
use Rattle.std.proofs.lemmas.List.{append-nil}
use Rattle.llrp_schema.specs.declared.kinds.ParamKind.{ParamKind}
use Rattle.llrp_schema.specs.declared.kinds.Kind.{Kind}
use Rattle.llrp_schema.specs.declared.kinds.KindSet.{KindSet}
use Rattle.llrp_schema.specs.declared.kinds.Tail.{Tail}
use Rattle.llrp_schema.specs.declared.kinds.Tail.TheVariants.{Absent, Words, Text, Bits, Data}
use Rattle.llrp_schema.specs.Schema.{FieldRule, set_of_kind, tlv_in, tv_in}
use Rattle.llrp_tree.specs.declared.fault.Reason.{Reason}
use Rattle.llrp_tree.specs.declared.fault.Reason.TheVariants.{Reserved, Version, MessageType, MessageLength, Short, Value, Count, Utf8, ParamType, Misplaced, TooMany, TooDeep, ParamLength, Extra, Missing}
use Rattle.llrp_tree.specs.FirstFault.{number, tlv_kind, tv_kind}
use Rattle.llrp_explain.specs.Calls.ExplainLines.{ExplainLine, line}
use Rattle.llrp_explain.specs.Calls.ExplainText.{line_text, lines_text}
use Rattle.llrp_explain.specs.Calls.FaultLines.{NamedBits, named, taken_lines, field_fields, count_fields, tv_fields, tlv_fields}
use Rattle.llrp_explain.specs.Calls.FaultSentences.{counted, field_sentence, tail_sentence, kind_sentence, tlv_sentence}
use Rattle.llrp_explain.specs.Private.RefusedHeads.{is_counted, tlv_head}
use Rattle.llrp_explain.specs.Calls.HeaderFaults.{refused_text}
use Rattle.llrp_explain.proofs.PrintedLemmas.{one_text, some_of}

-- ---- one field

pub one_refused : (at level width value : ℕ) (name t0 t1 t2 : List ℕ) → 1 ≤ width → t1 ≡ t0 ++ codes "then, refused:\n" → t2 ≡ t1 ++ line_text at (line level name width value) → t2 ≡ t0 ++ refused_text at (line level name width value ∷ [])
one_refused at level width value name t0 t1 t2 some a b =
    let l : ExplainLine = line level name width value in
    let heading : List ℕ = codes "then, refused:\n" in
    b ∙ ap (λ (x : List ℕ). x ++ line_text at l) a ∙ append_assoc t0 heading (line_text at l) ∙ ap (λ (x : List ℕ). t0 ++ (heading ++ x)) (sym (one_text at l (some_of width (omega (arith, some)))))

pub none_refused : (at level : ℕ) (fields : List NamedBits) (rest : List Bool) (t : List ℕ) → fields ≡ [] → t ≡ t ++ refused_text at (taken_lines level fields 0 rest)
unfolding taken_lines
none_refused at level fields rest t e = subst (λ (fs : List NamedBits). t ≡ t ++ refused_text at (taken_lines level fs 0 rest)) (sym e) (sym (append-nil t))

-- one field that has a number
taken_one : (at level width value : ℕ) (name : List ℕ) (fields : List NamedBits) (rest : List Bool) (t0 t2 : List ℕ) → fields ≡ named name width ∷ [] → value ≡ number rest 0 width → t2 ≡ t0 ++ refused_text at (line level name width value ∷ []) → t2 ≡ t0 ++ refused_text at (taken_lines level fields 0 rest)
unfolding taken_lines
taken_one at level width value name fields rest t0 t2 e v t =
    subst (λ (fs : List NamedBits). t2 ≡ t0 ++ refused_text at (taken_lines level fs 0 rest)) (sym e) (subst (λ (n : ℕ). t2 ≡ t0 ++ refused_text at (line level name width n ∷ [])) v t)

field_short : (reason : Reason) (rule : FieldRule) → reason ≡ Short → field_fields reason rule ≡ []
unfolding field_fields
field_short reason rule e = rw e refl

field_named : (reason : Reason) (rule : FieldRule) → reason ≢ Short → field_fields reason rule ≡ named rule.name rule.width ∷ []
unfolding field_fields
field_named Reserved rule not = refl
field_named Version rule not = refl
field_named MessageType rule not = refl
field_named MessageLength rule not = refl
field_named Short rule not = absurd (not refl)
field_named Value rule not = refl
field_named Count rule not = refl
field_named Utf8 rule not = refl
field_named ParamType rule not = refl
field_named Misplaced rule not = refl
field_named TooMany rule not = refl
field_named TooDeep rule not = refl
field_named ParamLength rule not = refl
field_named Extra rule not = refl
field_named Missing rule not = refl

pub short_refused : (reason : Reason) (rule : FieldRule) (at level : ℕ) (rest : List Bool) (t : List ℕ) → reason ≡ Short → t ≡ t ++ refused_text at (taken_lines level (field_fields reason rule) 0 rest)
short_refused reason rule at level rest t e = none_refused at level (field_fields reason rule) rest t (field_short reason rule e)

value_of : {A : Type 0} (reason : Reason) → reason ≢ Short → (reason ≡ Short) ⊎ A → A
value_of reason not (inl e) = absurd (not e)
value_of reason not (inr a) = a

pub field_refused : (reason : Reason) (rule : FieldRule) (at level value : ℕ) (name : List ℕ) (rest : List Bool) (t0 t2 : List ℕ) → reason ≢ Short → name ≡ rule.name → (reason ≡ Short) ⊎ (value ≡ number rest 0 rule.width) → t2 ≡ t0 ++ refused_text at (line level name rule.width value ∷ [])
    → t2 ≡ t0 ++ refused_text at (taken_lines level (field_fields reason rule) 0 rest)
field_refused reason rule at level value name rest t0 t2 not n v t =
    taken_one at level rule.width value rule.name (field_fields reason rule) rest t0 t2 (field_named reason rule not) (value_of reason not v) (subst (λ (w : List ℕ). t2 ≡ t0 ++ refused_text at (line level w rule.width value ∷ [])) n t)

-- a field that ends after its node has no number in its sentence
pub same_field : (reason : Reason) (rule : FieldRule) (kind : Kind) (stop at value n : ℕ) → (reason ≡ Short) ⊎ (value ≡ n) → field_sentence rule kind stop at reason value ≡ field_sentence rule kind stop at reason n
unfolding field_sentence
same_field reason rule kind stop at value n (inl e) = rw e refl
same_field reason rule kind stop at value n (inr e) = ap (λ (m : ℕ). field_sentence rule kind stop at reason m) e

-- ---- a tail

count_none : (reason : Reason) (form : Tail) → reason ≢ Count → count_fields reason form ≡ []
unfolding count_fields
count_none Reserved form not = refl
count_none Version form not = refl
count_none MessageType form not = refl
count_none MessageLength form not = refl
count_none Short form not = refl
count_none Value form not = refl
count_none Count form not = absurd (not refl)
count_none Utf8 form not = refl
count_none ParamType form not = refl
count_none Misplaced form not = refl
count_none TooMany form not = refl
count_none TooDeep form not = refl
count_none ParamLength form not = refl
count_none Extra form not = refl
count_none Missing form not = refl

count_bits : (reason : Reason) (form : Tail) → reason ≡ Count → is_counted form ≡ false → count_fields reason form ≡ []
unfolding count_fields
count_bits reason Absent e c = rw e refl
count_bits reason Words e c = absurd (let z : true ≡ false = c in cc)
count_bits reason Text e c = absurd (let z : true ≡ false = c in cc)
count_bits reason Bits e c = rw e refl
count_bits reason Data e c = rw e refl

count_named : (reason : Reason) (form : Tail) → reason ≡ Count → is_counted form ≡ true → count_fields reason form ≡ named (codes "count") 16 ∷ []
unfolding count_fields
count_named reason Absent e c = absurd (let z : false ≡ true = c in cc)
count_named reason Words e c = rw e refl
count_named reason Text e c = rw e refl
count_named reason Bits e c = absurd (let z : false ≡ true = c in cc)
count_named reason Data e c = absurd (let z : false ≡ true = c in cc)

pub counted_number : (form : Tail) (fields : List ℕ) (rest : List Bool) → is_counted form ≡ true → counted form fields rest ≡ number rest 0 16
counted_number Absent fields rest c = absurd (let z : false ≡ true = c in cc)
counted_number Words fields rest c = refl
counted_number Text fields rest c = refl
counted_number Bits fields rest c = absurd (let z : false ≡ true = c in cc)
counted_number Data fields rest c = absurd (let z : false ≡ true = c in cc)

pub count_refused : (reason : Reason) (form : Tail) (at level count : ℕ) (fields : List ℕ) (rest : List Bool) (t0 t2 : List ℕ) → reason ≡ Count → is_counted form ≡ true → (reason ≡ Count → count ≡ counted form fields rest) → t2 ≡ t0 ++ refused_text at (line level (codes "count") 16 count ∷ [])
    → t2 ≡ t0 ++ refused_text at (taken_lines level (count_fields reason form) 0 rest)
count_refused reason form at level count fields rest t0 t2 e c v t = taken_one at level 16 count (codes "count") (count_fields reason form) rest t0 t2 (count_named reason form e c) (v e ∙ counted_number form fields rest c) t

pub bits_refused : (reason : Reason) (form : Tail) (at level : ℕ) (rest : List Bool) (t : List ℕ) → reason ≡ Count → is_counted form ≡ false → t ≡ t ++ refused_text at (taken_lines level (count_fields reason form) 0 rest)
bits_refused reason form at level rest t e c = none_refused at level (count_fields reason form) rest t (count_bits reason form e c)

pub no_count_refused : (reason : Reason) (form : Tail) (at level : ℕ) (rest : List Bool) (t : List ℕ) → reason ≢ Count → t ≡ t ++ refused_text at (taken_lines level (count_fields reason form) 0 rest)
no_count_refused reason form at level rest t not = none_refused at level (count_fields reason form) rest t (count_none reason form not)

-- what a tail counts is in the sentence of a count alone
pub same_tail : (reason : Reason) (form : Tail) (kind : Kind) (stop at count n : ℕ) → (reason ≡ Count → count ≡ n) → tail_sentence form kind stop at reason count ≡ tail_sentence form kind stop at reason n
unfolding tail_sentence
same_tail Reserved form kind stop at count n e = refl
same_tail Version form kind stop at count n e = refl
same_tail MessageType form kind stop at count n e = refl
same_tail MessageLength form kind stop at count n e = refl
same_tail Short form kind stop at count n e = refl
same_tail Value form kind stop at count n e = refl
same_tail Count form kind stop at count n e = ap (λ (m : ℕ). tail_sentence form kind stop at Count m) (e refl)
same_tail Utf8 form kind stop at count n e = refl
same_tail ParamType form kind stop at count n e = refl
same_tail Misplaced form kind stop at count n e = refl
same_tail TooMany form kind stop at count n e = refl
same_tail TooDeep form kind stop at count n e = refl
same_tail ParamLength form kind stop at count n e = refl
same_tail Extra form kind stop at count n e = refl
same_tail Missing form kind stop at count n e = refl

pub tail_default : (reason : Reason) (form : Tail) (kind : Kind) (stop at n : ℕ) → reason ≢ Short → reason ≢ Count → codes "Utf8: no character begins here" ≡ tail_sentence form kind stop at reason n
unfolding tail_sentence
tail_default Reserved form kind stop at n short count = refl
tail_default Version form kind stop at n short count = refl
tail_default MessageType form kind stop at n short count = refl
tail_default MessageLength form kind stop at n short count = refl
tail_default Short form kind stop at n short count = absurd (short refl)
tail_default Value form kind stop at n short count = refl
tail_default Count form kind stop at n short count = absurd (count refl)
tail_default Utf8 form kind stop at n short count = refl
tail_default ParamType form kind stop at n short count = refl
tail_default Misplaced form kind stop at n short count = refl
tail_default TooMany form kind stop at n short count = refl
tail_default TooDeep form kind stop at n short count = refl
tail_default ParamLength form kind stop at n short count = refl
tail_default Extra form kind stop at n short count = refl
tail_default Missing form kind stop at n short count = refl

-- ---- a child

pub tv_refused : (at level : ℕ) (rest : List Bool) (t0 t1 t2 : List ℕ) → t1 ≡ t0 ++ codes "then, refused:\n" → t2 ≡ t1 ++ lines_text at (taken_lines level tv_fields 0 rest) → t2 ≡ t0 ++ refused_text at (taken_lines level tv_fields 0 rest)
unfolding taken_lines
tv_refused at level rest t0 t1 t2 a b = b ∙ ap (λ (x : List ℕ). x ++ lines_text at (taken_lines level tv_fields 0 rest)) a ∙ append_assoc t0 (codes "then, refused:\n") (lines_text at (taken_lines level tv_fields 0 rest))

pub tlv_none_refused : (reason : Reason) (count at level : ℕ) (rest : List Bool) (t : List ℕ) → count ≡ 0 → take count tlv_head ≡ tlv_fields reason → t ≡ t ++ refused_text at (taken_lines level (tlv_fields reason) 0 rest)
tlv_none_refused reason count at level rest t z e = none_refused at level (tlv_fields reason) rest t (sym e ∙ ap (λ (n : ℕ). take n tlv_head) z)

short_tlv : (reason : Reason) → reason ≡ Short → tlv_fields reason ≡ []
unfolding tlv_fields
short_tlv reason e = rw e refl

-- a head of which there are fields is whole
pub tlv_whole : {Q : Type 0} (reason : Reason) (count octets : ℕ) → 1 ≤ count → take count tlv_head ≡ tlv_fields reason → octets < 4 → (reason ≡ Short) ⊎ (4 ≤ octets) → Q
tlv_whole reason zero octets some e few w = absurd (omega (arith, some))
tlv_whole reason (suc n) octets some e few (inl s) = absurd (let z : named (codes "reserved") 6 ∷ take n (named (codes "ParameterType") 10 ∷ named (codes "ParameterLength") 16 ∷ []) ≡ [] = e ∙ short_tlv reason s in cc)
tlv_whole reason (suc n) octets some e few (inr w) = absurd (omega (arith, few, w))

first_head : (count at level : ℕ) (rest : List Bool) → 1 ≤ count → codes "then, refused:\n" ++ lines_text at (taken_lines level (take count tlv_head) 0 rest) ≡ refused_text at (taken_lines level (take count tlv_head) 0 rest)
unfolding taken_lines
first_head zero at level rest some = absurd (omega (arith, some))
first_head (suc n) at level rest some = refl

pub tlv_refused : (reason : Reason) (count at level : ℕ) (rest : List Bool) (t0 t1 t2 : List ℕ) → 1 ≤ count → take count tlv_head ≡ tlv_fields reason → t1 ≡ t0 ++ codes "then, refused:\n" → t2 ≡ t1 ++ lines_text at (taken_lines level (take count tlv_head) 0 rest)
    → t2 ≡ t0 ++ refused_text at (taken_lines level (tlv_fields reason) 0 rest)
tlv_refused reason count at level rest t0 t1 t2 some e a b =
    let lines : List ℕ = lines_text at (taken_lines level (take count tlv_head) 0 rest) in
    b ∙ ap (λ (x : List ℕ). x ++ lines) a ∙ append_assoc t0 (codes "then, refused:\n") lines ∙ ap (λ (x : List ℕ). t0 ++ x) (first_head count at level rest some ∙ ap (λ (fs : List NamedBits). refused_text at (taken_lines level fs 0 rest)) e)

pub same_tv : (kind : Kind) (p : KindSet) (found : Option ParamKind) (v : ℕ) (rest : List Bool) (level : ℕ) (reason : Reason) → found ≡ tv_in p v → p ≡ set_of_kind kind → v ≡ number rest 1 7 → kind_sentence found v level kind reason ≡ kind_sentence (tv_kind (set_of_kind kind) rest) (number rest 1 7) level kind reason
same_tv kind p found v rest level reason ef ep ev =
    ap (λ (f : Option ParamKind). kind_sentence f v level kind reason) ef ∙ ap (λ (q : KindSet). kind_sentence (tv_in q v) v level kind reason) ep ∙ ap (λ (n : ℕ). kind_sentence (tv_in (set_of_kind kind) n) n level kind reason) ev

-- a head that ends after its node has no number in its sentence
pub same_tlv : (reason : Reason) (kind : Kind) (p : KindSet) (stop at level : ℕ) (found : Option ParamKind) (reserved type octets : ℕ) (rest : List Bool) → found ≡ tlv_in p type → p ≡ set_of_kind kind
    → (reason ≡ Short) ⊎ ((reserved ≡ number rest 0 6) × (type ≡ number rest 6 10) × (octets ≡ number rest 16 16))
    → tlv_sentence found kind stop at level reason reserved type octets ≡ tlv_sentence (tlv_kind (set_of_kind kind) rest) kind stop at level reason (number rest 0 6) (number rest 6 10) (number rest 16 16)
unfolding tlv_sentence
same_tlv reason kind p stop at level found reserved type octets rest ef ep (inl s) = rw s refl
same_tlv reason kind p stop at level found reserved type octets rest ef ep (inr e) =
    ap (λ (f : Option ParamKind). tlv_sentence f kind stop at level reason reserved type octets) ef
    ∙ ap (λ (q : KindSet). tlv_sentence (tlv_in q type) kind stop at level reason reserved type octets) ep
    ∙ ap (λ (n : ℕ). tlv_sentence (tlv_in (set_of_kind kind) type) kind stop at level reason n type octets) e.0
    ∙ ap (λ (n : ℕ). tlv_sentence (tlv_in (set_of_kind kind) n) kind stop at level reason (number rest 0 6) n octets) e.1
    ∙ ap (λ (n : ℕ). tlv_sentence (tlv_kind (set_of_kind kind) rest) kind stop at level reason (number rest 0 6) (number rest 6 10) n) e.2
