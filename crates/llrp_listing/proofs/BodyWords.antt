-- The words after a name.
use Rattle.std.proofs.Common.{◌≡◌, ℕ, suc, ◌+◌, ◌-◌, ◌<◌, ◌≤◌, inl, inr, true, false, List, [], ◌∷◌, ◌++◌, map, length, get_or, take, drop, Option, Result, Ok, Err, refl, sym, ap, subst, ◌∙◌, arith, append_assoc, length-append}
use Rattle.std.specs.Borrow.{Bor}
use Rattle.std.proofs.lemmas.List.{take_all}
use Rattle.std.specs.Prelude.{MatchResult}
use Rattle.llrp_schema.specs.declared.kinds.Field.{Field}
use Rattle.llrp_schema.specs.declared.kinds.MsgKind.{MsgKind}
use Rattle.llrp_schema.specs.declared.kinds.ParamKind.{ParamKind}
use Rattle.llrp_schema.specs.declared.kinds.Kind.TheVariants.{Message, Parameter}
use Rattle.llrp_schema.specs.declared.kinds.Tail.{Tail}
use Rattle.llrp_schema.specs.declared.kinds.Tail.TheVariants.{Absent, Words, Text, Bits, Data}
use Rattle.llrp_schema.specs.Schema.{FieldRule, fields_of, tail_of}
use Rattle.llrp_schema.specs.Calls.Schema.{field_rule}
use Rattle.llrp_listing.specs.declared.outcome.Refusal.{Refusal}
use Rattle.llrp_listing.specs.declared.parse_line.LineErr.{LineErr}
use Rattle.llrp_listing.specs.declared.parse_line.LineErr.TheVariants.{Refused, Memory}
use Rattle.llrp_listing.specs.declared.parse_line.MessageLine.{MessageLine}
use Rattle.llrp_listing.specs.declared.parse_line.ParameterLine.{ParameterLine}
use Rattle.llrp_listing.specs.OrderedChecks.{FirstFailing}
use Rattle.llrp_listing.specs.LineChecks.{IsInForm, AreInForm, body_checks, tail_word_checks, tail_count}
use Rattle.llrp_listing.specs.Private.LineChecks.{ReadsNumber}
use Rattle.llrp_listing.specs.Private.LineReading.{AreRead, IsMessageRead, IsNoTail, IsParameterRead, IsTailWord, ReadsFields, ReadsMessage, ReadsParameter, ReadsRest, forms_of}
use Rattle.llrp_listing.specs.NodeLine.{NumberForm, Version, Id, field_form, number_forms, IsNumberText, AreNumberTexts}
use Rattle.llrp_listing.specs.Lines.{words}
use Rattle.llrp_listing.specs.Private.Splits.{words_in}
use Rattle.llrp_listing.proofs.WordLemmas.{only_word, some_word}

-- one number more is read
read_one : (f : NumberForm) (fs : List NumberForm) (w : List ℕ) (ws : List (List ℕ)) (n : ℕ) (ns : List ℕ) (rest : List (List ℕ)) → IsInForm f n → IsNumberText f n w → AreRead fs ws ns rest → AreRead (f ∷ fs) (w ∷ ws) (n ∷ ns) rest
read_one f fs w ws n ns rest p q r = record { texts = w ∷ r.texts; in_form = (p, r.in_form); are = (q, r.are); words = ap (λ (z : List (List ℕ)). w ∷ z) r.words }

pub read_none : (ws : List (List ℕ)) → AreRead [] ws [] ws
read_none ws = record { texts = []; in_form = tt; are = tt; words = refl }

form_more : (f : NumberForm) (fs : List NumberForm) (w : List ℕ) (ws : List (List ℕ)) (n : ℕ) (old mid new : List ℕ) (r : Result (Option (Bor (List ℕ))) Refusal) → IsInForm f n × IsNumberText f n w → mid ≡ old ++ (n ∷ [])
    → ReadsFields fs ws mid new r → ReadsFields (f ∷ fs) (w ∷ ws) old new r
form_more f fs w ws n old mid new (Ok rest) is push h = (n ∷ h.0, read_one f fs w ws n h.0 (words_in rest) is.0 is.1 h.1, h.2 ∙ ap (λ (z : List ℕ). z ++ h.0) push ∙ append_assoc old (n ∷ []) h.0)
form_more f fs w ws n old mid new (Err reason) is push h = λ tail. inr ((n, is.0, is.1), h tail)

-- the forms of some fields, whose first is reserved
pub forms_reserved : (rules : List Field) (d : Field) → 1 ≤ length rules → (get_or rules 0 d).reserved ≡ true → forms_of (map field_rule rules) ≡ forms_of (map field_rule (take (length rules - 1) (drop 1 rules)))
forms_reserved [] d some reserved = absurd (omega arith)
forms_reserved (rule ∷ rules) d some reserved =
    let rest : take (length (rule ∷ rules) - 1) rules ≡ rules = take_all (length (rule ∷ rules) - 1) rules (omega arith) in
    rw (reserved, rest) refl

-- and plain
pub forms_plain : (rules : List Field) (d : Field) → 1 ≤ length rules → (get_or rules 0 d).reserved ≡ false
    → forms_of (map field_rule rules) ≡ field_form (field_rule (get_or rules 0 d)) ∷ forms_of (map field_rule (take (length rules - 1) (drop 1 rules)))
forms_plain [] d some plain = absurd (omega arith)
forms_plain (rule ∷ rules) d some plain =
    let rest : take (length (rule ∷ rules) - 1) rules ≡ rules = take_all (length (rule ∷ rules) - 1) rules (omega arith) in
    rw (plain, rest) refl

-- where there are no fields
pub forms_none : (rules : List Field) → length rules < 1 → forms_of (map field_rule rules) ≡ []
forms_none [] few = refl
forms_none (rule ∷ rules) few = absurd (omega arith)

-- fewer are left after the first
pub fewer_fields : (rules : List Field) → 1 ≤ length rules → length (take (length rules - 1) (drop 1 rules)) < length rules
fewer_fields [] some = absurd (omega arith)
fewer_fields (rule ∷ rules) some =
    let rest : take (length (rule ∷ rules) - 1) rules ≡ rules = take_all (length (rule ∷ rules) - 1) rules (omega arith) in
    omega (arith, ap length rest)

-- the first of the words is no number of the first form
pub field_bad : (rules : List Field) (d : Field) (w : List ℕ) (ws all : List (List ℕ)) (old new : List ℕ) (reason : Refusal) → 1 ≤ length rules → (get_or rules 0 d).reserved ≡ false → all ≡ w ∷ ws
    → ReadsNumber (field_form (field_rule (get_or rules 0 d))) w (Err reason) → ReadsFields (forms_of (map field_rule rules)) all old new (Err reason)
field_bad rules d w ws all old new reason some plain e bad = λ tail. rw (forms_plain rules d some plain, e) (inl bad)

pub fields_more : (rules : List Field) (d : Field) (w : List ℕ) (ws all : List (List ℕ)) (n : ℕ) (old mid new : List ℕ) (r : Result (Option (Bor (List ℕ))) Refusal) → 1 ≤ length rules → (get_or rules 0 d).reserved ≡ false
    → IsInForm (field_form (field_rule (get_or rules 0 d))) n × IsNumberText (field_form (field_rule (get_or rules 0 d))) n w → mid ≡ old ++ (n ∷ []) → all ≡ w ∷ ws
    → ReadsFields (forms_of (map field_rule (take (length rules - 1) (drop 1 rules)))) ws mid new r → ReadsFields (forms_of (map field_rule rules)) all old new r
fields_more [] d w ws all n old mid new r some plain is push e h = absurd (omega arith)
fields_more (rule ∷ rules) d w ws all n old mid new r some plain is push e h =
    let rest : take (length (rule ∷ rules) - 1) rules ≡ rules = take_all (length (rule ∷ rules) - 1) rules (omega arith) in
    let h2 : ReadsFields (forms_of (map field_rule rules)) ws mid new r = subst (λ (z : List Field). ReadsFields (forms_of (map field_rule z)) ws mid new r) rest h in
    rw (plain, e) (form_more (field_form (field_rule rule)) (forms_of (map field_rule rules)) w ws n old mid new r is push h2)

pub texts_length : (fs : List NumberForm) (ns : List ℕ) (ws : List (List ℕ)) → AreNumberTexts fs ns ws → length ws ≡ length fs
texts_length [] [] [] h = refl
texts_length [] [] (w ∷ ws) h = absurd h
texts_length [] (n ∷ ns) ws h = absurd h
texts_length (f ∷ fs) [] ws h = absurd h
texts_length (f ∷ fs) (n ∷ ns) [] h = absurd h
texts_length (f ∷ fs) (n ∷ ns) (w ∷ ws) h = ap suc (texts_length fs ns ws h.1)

pub read_length : (fs : List NumberForm) (ws : List (List ℕ)) (ns : List ℕ) (rest : List (List ℕ)) → AreRead fs ws ns rest → length ws ≡ length fs + length rest
read_length fs ws ns rest r = ap length r.words ∙ length-append r.texts rest ∙ ap (λ (n : ℕ). n + length rest) (texts_length fs ns r.texts r.are)

-- a check that fails after numbers that are read
after_read : (fs : List NumberForm) (form : Tail) (ws : List (List ℕ)) (ns : List ℕ) (rest : List (List ℕ)) (reason : Refusal) → AreRead fs ws ns rest → FirstFailing (tail_word_checks form rest) reason → FirstFailing (body_checks fs form ws) reason
after_read fs form ws ns rest reason r bad = rw r.words (on fs ns r.texts r.in_form r.are)
  where
    on : (fs : List NumberForm) (ns : List ℕ) (texts : List (List ℕ)) → AreInForm fs ns → AreNumberTexts fs ns texts → FirstFailing (body_checks fs form (texts ++ rest)) reason
    on [] [] [] p q = bad
    on [] [] (w ∷ texts) p q = absurd q
    on [] (n ∷ ns) texts p q = absurd q
    on (f ∷ fs) [] texts p q = absurd q
    on (f ∷ fs) (n ∷ ns) [] p q = absurd q
    on (f ∷ fs) (n ∷ ns) (w ∷ texts) p q = inr ((n, p.0, q.0), on fs ns texts p.1 q.1)

-- ---- messages

pub version_bad : (kind : MsgKind) (v : List ℕ) (ws all : List (List ℕ)) (reason : Refusal) → all ≡ v ∷ ws → ReadsNumber Version v (Err reason) → ReadsMessage kind all (Err (Refused reason))
unfolding number_forms
version_bad kind v ws all reason e bad = rw e (inl bad)

pub id_bad : (kind : MsgKind) (v i : List ℕ) (ws all : List (List ℕ)) (n : ℕ) (reason : Refusal) → all ≡ v ∷ i ∷ ws → ReadsNumber Version v (Ok n) → ReadsNumber Id i (Err reason) → ReadsMessage kind all (Err (Refused reason))
unfolding number_forms
id_bad kind v i ws all n reason e good bad = rw e (inr ((n, good.0, good.1), inl bad))

pub fields_bad : (kind : MsgKind) (v i : List ℕ) (ws all : List (List ℕ)) (n m : ℕ) (old new : List ℕ) (rules : List FieldRule) (reason : Refusal) → all ≡ v ∷ i ∷ ws → ReadsNumber Version v (Ok n) → ReadsNumber Id i (Ok m) → rules ≡ fields_of (Message kind)
    → ReadsFields (forms_of rules) ws old new (Err reason) → ReadsMessage kind all (Err (Refused reason))
unfolding number_forms
fields_bad kind v i ws all n m old new rules reason e good fine are bad =
    rw e (inr ((n, good.0, good.1), inr ((m, fine.0, fine.1), subst (λ (r : List FieldRule). FirstFailing (body_checks (forms_of r) (tail_of (Message kind)) ws) reason) are (bad (tail_of (Message kind))))))

-- the numbers of a message's line are read, and these words are left
pub message_numbers : (kind : MsgKind) (v i : List ℕ) (ws all : List (List ℕ)) (n m : ℕ) (old new : List ℕ) (rules : List FieldRule) (rest : Option (Bor (List ℕ))) → all ≡ v ∷ i ∷ ws → ReadsNumber Version v (Ok n) → ReadsNumber Id i (Ok m) → rules ≡ fields_of (Message kind)
    → old ≡ [] → ReadsFields (forms_of rules) ws old new (Ok rest) → AreRead (number_forms (Message kind)) all (n ∷ m ∷ new) (words_in rest)
unfolding number_forms
message_numbers kind v i ws all n m old new rules rest e good fine are empty h =
    let r : AreRead (forms_of (fields_of (Message kind))) ws h.0 (words_in rest) = subst (λ (x : List FieldRule). AreRead (forms_of x) ws h.0 (words_in rest)) are h.1 in
    let numbers : new ≡ h.0 = h.2 ∙ ap (λ (z : List ℕ). z ++ h.0) empty in
    rw (e, numbers) (read_one Version (Id ∷ forms_of (fields_of (Message kind))) v (i ∷ ws) n (m ∷ h.0) (words_in rest) good.0 good.1 (read_one Id (forms_of (fields_of (Message kind))) i ws m h.0 (words_in rest) fine.0 fine.1 r))

-- as many words are left as the tail has
pub message_rest : (kind : MsgKind) (all : List (List ℕ)) (ns : List ℕ) (rest : Option (Bor (List ℕ))) (form : Tail) → AreRead (number_forms (Message kind)) all ns (words_in rest) → length all ≡ length (number_forms (Message kind)) + tail_count (tail_of (Message kind)) → form ≡ tail_of (Message kind)
    → length (words_in rest) ≡ tail_count form
message_rest kind all ns rest form r count is =
    let n : length (words_in rest) ≡ tail_count (tail_of (Message kind)) = omega (arith, count, read_length (number_forms (Message kind)) all ns (words_in rest) r) in
    n ∙ ap tail_count (sym is)

pub message_tail_bad : (kind : MsgKind) (all : List (List ℕ)) (ns : List ℕ) (rest : Option (Bor (List ℕ))) (form : Tail) (e : LineErr) → AreRead (number_forms (Message kind)) all ns (words_in rest) → form ≡ tail_of (Message kind) → ReadsRest form (words_in rest) (Err e) → ReadsMessage kind all (Err e)
message_tail_bad kind all ns rest form Memory r is bad = tt
message_tail_bad kind all ns rest form (Refused reason) r is bad = after_read (number_forms (Message kind)) (tail_of (Message kind)) all ns (words_in rest) reason r (subst (λ (f : Tail). FirstFailing (tail_word_checks f (words_in rest)) reason) is bad)

pub message_read : (kind : MsgKind) (all : List (List ℕ)) (line : MessageLine) (rest : Option (Bor (List ℕ))) (form : Tail) → line.kind ≡ kind → AreRead (number_forms (Message kind)) all (line.version ∷ line.id ∷ line.fields.items) (words_in rest) → form ≡ tail_of (Message kind)
    → ReadsRest form (words_in rest) (Ok line.tail) → IsMessageRead kind all line
message_read kind all line rest form k r is t =
    let t2 : ReadsRest (tail_of (Message kind)) (words_in rest) (Ok line.tail) = subst (λ (f : Tail). ReadsRest f (words_in rest) (Ok line.tail)) is t in
    record { kind_is = k; tail = t2.0; numbers = subst (AreRead (number_forms (Message kind)) all (line.version ∷ line.id ∷ line.fields.items)) t2.1 r }

-- ---- parameters

pub parameter_fields_bad : (level : ℕ) (kind : ParamKind) (ws : List (List ℕ)) (old new : List ℕ) (rules : List FieldRule) (reason : Refusal) → rules ≡ fields_of (Parameter kind) → ReadsFields (forms_of rules) ws old new (Err reason) → ReadsParameter level kind ws (Err (Refused reason))
unfolding number_forms
parameter_fields_bad level kind ws old new rules reason are bad = subst (λ (r : List FieldRule). FirstFailing (body_checks (forms_of r) (tail_of (Parameter kind)) ws) reason) are (bad (tail_of (Parameter kind)))

parameter_numbers : (kind : ParamKind) (ws : List (List ℕ)) (old new : List ℕ) (rules : List FieldRule) (rest : Option (Bor (List ℕ))) → rules ≡ fields_of (Parameter kind) → old ≡ [] → ReadsFields (forms_of rules) ws old new (Ok rest) → AreRead (number_forms (Parameter kind)) ws new (words_in rest)
unfolding number_forms
parameter_numbers kind ws old new rules rest are empty h =
    let numbers : new ≡ h.0 = h.2 ∙ ap (λ (z : List ℕ). z ++ h.0) empty in
    rw numbers (subst (λ (x : List FieldRule). AreRead (forms_of x) ws h.0 (words_in rest)) are h.1)

-- as many words are left as the tail has
pub rest_count : (kind : ParamKind) (ws : List (List ℕ)) (old new : List ℕ) (rules : List FieldRule) (rest : Option (Bor (List ℕ))) (form : Tail) → rules ≡ fields_of (Parameter kind) → old ≡ [] → ReadsFields (forms_of rules) ws old new (Ok rest)
    → length ws ≡ length (number_forms (Parameter kind)) + tail_count (tail_of (Parameter kind)) → form ≡ tail_of (Parameter kind) → length (words_in rest) ≡ tail_count form
rest_count kind ws old new rules rest form are empty h count is =
    let r = parameter_numbers kind ws old new rules rest are empty h in
    let n : length (words_in rest) ≡ tail_count (tail_of (Parameter kind)) = omega (arith, count, read_length (number_forms (Parameter kind)) ws new (words_in rest) r) in
    n ∙ ap tail_count (sym is)

pub parameter_tail_bad : (level : ℕ) (kind : ParamKind) (ws : List (List ℕ)) (old new : List ℕ) (rules : List FieldRule) (rest : Option (Bor (List ℕ))) (form : Tail) (e : LineErr) → rules ≡ fields_of (Parameter kind) → old ≡ [] → ReadsFields (forms_of rules) ws old new (Ok rest) → form ≡ tail_of (Parameter kind)
    → ReadsRest form (words_in rest) (Err e) → ReadsParameter level kind ws (Err e)
parameter_tail_bad level kind ws old new rules rest form Memory are empty h is bad = tt
parameter_tail_bad level kind ws old new rules rest form (Refused reason) are empty h is bad =
    after_read (number_forms (Parameter kind)) (tail_of (Parameter kind)) ws new (words_in rest) reason (parameter_numbers kind ws old new rules rest are empty h) (subst (λ (f : Tail). FirstFailing (tail_word_checks f (words_in rest)) reason) is bad)

pub parameter_read : (level : ℕ) (kind : ParamKind) (ws : List (List ℕ)) (old : List ℕ) (line : ParameterLine) (rules : List FieldRule) (rest : Option (Bor (List ℕ))) (form : Tail) → rules ≡ fields_of (Parameter kind) → old ≡ [] → ReadsFields (forms_of rules) ws old line.fields.items (Ok rest) → form ≡ tail_of (Parameter kind)
    → ReadsRest form (words_in rest) (Ok line.tail) → line.level ≡ level → line.kind ≡ kind → IsParameterRead level kind ws line
parameter_read level kind ws old line rules rest form are empty h is t l k =
    let t2 : ReadsRest (tail_of (Parameter kind)) (words_in rest) (Ok line.tail) = subst (λ (f : Tail). ReadsRest f (words_in rest) (Ok line.tail)) is t in
    record { level_is = l; kind_is = k; tail = t2.0; numbers = subst (AreRead (number_forms (Parameter kind)) ws line.fields.items) t2.1 (parameter_numbers kind ws old line.fields.items rules rest are empty h) }

-- ---- the words after the numbers

pub nothing_left : (form : Tail) → 0 ≡ tail_count form → ReadsRest form [] (Ok [])
nothing_left Absent h = (refl, refl)
nothing_left Words h = absurd (omega arith)
nothing_left Text h = absurd (omega arith)
nothing_left Bits h = absurd (omega arith)
nothing_left Data h = absurd (omega arith)

-- one word is left, which is the tail's or isn't
pub word_left : (form : Tail) (line : List ℕ) (r : Result (List ℕ) LineErr) → length (words line) ≡ tail_count form → MatchResult r (IsTailWord form line) (IsNoTail (IsTailWord form line)) → ReadsRest form (words line) r
word_left form line r count h = on (words line) refl r h
  where
    few : (form : Tail) → tail_count form ≤ 1
    few Absent = omega arith
    few Words = omega arith
    few Text = omega arith
    few Bits = omega arith
    few Data = omega arith

    on : (ws : List (List ℕ)) → words line ≡ ws → (r : Result (List ℕ) LineErr) → MatchResult r (IsTailWord form line) (IsNoTail (IsTailWord form line)) → ReadsRest form ws r
    on [] e r h = absurd (omega (arith, some_word line, ap length e))
    on (w ∷ x ∷ ws) e r h = absurd (omega (arith, count, ap length e, few form))
    on (w ∷ []) e (Ok tail) h = let is : line ≡ w = only_word line w e in (h.0, ap (λ (z : List ℕ). z ∷ []) (sym is) ∙ sym h.1)
    on (w ∷ []) e (Err Memory) h = tt
    on (w ∷ []) e (Err (Refused reason)) h = let is : line ≡ w = only_word line w e in inl (λ has. h.1 has.0 (has.1, has.2 ∙ ap (λ (z : List ℕ). z ∷ []) (sym is)), h.0)
