-- The line of a message, and its words.
use Rattle.std.proofs.Common.{◌≡◌, ℕ, ◌==◌, ◌&&◌, ◌||◌, Bool, true, false, not, List, [], ◌∷◌, ◌++◌, map, filter, refl, sym, ap, subst, ◌∙◌, append_assoc, cond}
use Rattle.std.proofs.lemmas.List.{append-nil}
use Rattle.std.specs.Prelude.{decimal}
use Rattle.std.specs.List.{list_all, join_with_byte}
use Rattle.llrp_schema.specs.declared.kinds.Kind.TheVariants.{Message}
use Rattle.llrp_schema.specs.declared.kinds.MsgKind.{MsgKind}
use Rattle.llrp_schema.specs.declared.kinds.Tail.{Tail}
use Rattle.llrp_schema.specs.declared.kinds.Tail.TheVariants.{Absent, Words, Text, Bits, Data}
use Rattle.llrp_schema.specs.Schema.{FieldRule, KindRule, fields_of, name_of, plain_fields_of, tail_of, rule_of, message_rule, message_kinds, whole_message_kinds}
use Rattle.llrp_schema.proofs.TableLaws.{every_message}
use Rattle.llrp_tree.specs.Tree.{MessageTree}
use Rattle.llrp_listing.specs.NodeLine.{NumberForm, AreNumberTexts, Unsigned, Version, Id, number_forms, field_form, spaced, tail_texts}
use Rattle.llrp_answers.specs.Calls.Forms.{message_words, words_of_tail}
use Rattle.llrp_answers.specs.Calls.Laws.{AreWordsOfLine}

-- ---- no message has a field with a sign or of 96 bits, or words after its fields

plain : FieldRule → Bool
plain rule = rule.reserved || (not (rule.width == 96) && not rule.signed)

no_words : Tail → Bool
no_words Words = false
no_words Absent = true
no_words Text = true
no_words Bits = true
no_words Data = true

simple : KindRule → Bool
simple rule = list_all plain rule.fields && no_words rule.tail

simple_rules : (list_all (λ kind. simple (rule_of (Message kind))) message_kinds ≡ true) × (list_all (λ kind. simple (rule_of (Message kind))) whole_message_kinds ≡ true)
unfolding rule_of message_rule message_kinds whole_message_kinds simple plain no_words
simple_rules = (refl, refl)

each_simple : (kind : MsgKind) → simple (rule_of (Message kind)) ≡ true
each_simple kind = every_message simple simple_rules kind

never : false ≡ true → ⊥
never e = let x : true ≡ false = sym e in cc

both : (a b : Bool) → (a && b) ≡ true → (a ≡ true) × (b ≡ true)
both true true e = (refl, refl)
both true false e = absurd (never e)
both false b e = absurd (never e)

-- ---- numbers are in decimal

-- the number of a plain field
unsigned_by : (r : FieldRule) (signed wide : Bool) → r.signed ≡ signed → (r.width == 96) ≡ wide → (not wide && not signed) ≡ true → field_form r ≡ Unsigned
unsigned_by r false false e f g = rw (e, f) refl
unsigned_by r true false e f g = absurd (never g)
unsigned_by r false true e f g = absurd (never g)
unsigned_by r true true e f g = absurd (never g)

one_more : (form : NumberForm) (forms : List NumberForm) → form ≡ Unsigned → ((ns : List ℕ) (ws : List (List ℕ)) → AreNumberTexts forms ns ws → ws ≡ map decimal ns)
    → (ns : List ℕ) (ws : List (List ℕ)) → AreNumberTexts (Unsigned ∷ forms) ns ws → ws ≡ map decimal ns
one_more form forms e later [] [] are = absurd are
one_more form forms e later [] (w ∷ ws) are = absurd are
one_more form forms e later (n ∷ ns) [] are = absurd are
one_more form forms e later (n ∷ ns) (w ∷ ws) are = ap (λ (x : List ℕ). x ∷ ws) are.0 ∙ ap (λ (x : List (List ℕ)). decimal n ∷ x) (later ns ws are.1)

by_reserved : (r : FieldRule) (rules : List FieldRule) (reserved : Bool) → (reserved || (not (r.width == 96) && not r.signed)) ≡ true → ((ns : List ℕ) (ws : List (List ℕ)) → AreNumberTexts (map field_form rules) ns ws → ws ≡ map decimal ns)
    → (ns : List ℕ) (ws : List (List ℕ)) → AreNumberTexts (map field_form (cond (not reserved) (r ∷ rules) rules)) ns ws → ws ≡ map decimal ns
by_reserved r rules true pass later ns ws are = later ns ws are
by_reserved r rules false pass later ns ws are =
    let form = unsigned_by r r.signed (r.width == 96) refl refl pass in
    one_more (field_form r) (map field_form rules) form later ns ws (subst (λ (f : NumberForm). AreNumberTexts (f ∷ map field_form rules) ns ws) form are)

decimals : (rules : List FieldRule) → list_all plain rules ≡ true → (ns : List ℕ) (ws : List (List ℕ)) → AreNumberTexts (map field_form (filter (λ rule. not rule.reserved) rules)) ns ws → ws ≡ map decimal ns
unfolding plain
decimals [] pass [] [] are = refl
decimals [] pass [] (w ∷ ws) are = absurd are
decimals [] pass (n ∷ ns) ws are = absurd are
decimals (r ∷ rules) pass ns ws are =
    let parts = both (plain r) (list_all plain rules) pass in
    by_reserved r (filter (λ rule. not rule.reserved) rules) r.reserved parts.0 (decimals rules parts.1) ns ws are

-- ---- the tail

same_tail : (t : Tail) (octets : List ℕ) → no_words t ≡ true → tail_texts t octets ≡ words_of_tail t octets
unfolding no_words
same_tail Absent octets e = refl
same_tail Text octets e = refl
same_tail Bits octets e = refl
same_tail Data octets e = refl
same_tail Words octets e = absurd (never e)

-- ---- words with spaces

spaced_words : (w : List ℕ) (ws : List (List ℕ)) → w ++ spaced ws ≡ join_with_byte 32 (w ∷ ws)
spaced_words w [] = append-nil w
spaced_words w (v ∷ ws) = ap (λ (x : List ℕ). w ++ (32 ∷ x)) (spaced_words v ws)

-- ---- the line

assemble : (m : MessageTree) (line : List ℕ) (numbers : List (List ℕ)) → AreNumberTexts (Version ∷ (Id ∷ map field_form (plain_fields_of (Message m.kind)))) (m.version ∷ (m.id ∷ m.fields)) numbers
    → line ≡ decimal 0 ++ (spaced (name_of (Message m.kind) ∷ (numbers ++ tail_texts (tail_of (Message m.kind)) m.tail)) ++ (10 ∷ []))
    → line ≡ join_with_byte 32 (message_words m) ++ (10 ∷ [])
unfolding rule_of simple message_rule fields_of tail_of
assemble m line [] are e = absurd are
assemble m line (v ∷ []) are e = absurd are.1
assemble m line (v ∷ (i ∷ ws)) are e =
    let rule = rule_of (Message m.kind) in
    let pass = both (list_all plain rule.fields) (no_words rule.tail) (each_simple m.kind) in
    let name = name_of (Message m.kind) in
    let fields = decimals rule.fields pass.0 m.fields ws are.1.1 in
    let numbers : v ∷ (i ∷ ws) ≡ decimal m.version ∷ (decimal m.id ∷ map decimal m.fields) =
    ap (λ (x : List ℕ). x ∷ (i ∷ ws)) are.0 ∙ ap (λ (x : List ℕ). decimal m.version ∷ (x ∷ ws)) are.1.0 ∙ ap (λ (x : List (List ℕ)). decimal m.version ∷ (decimal m.id ∷ x)) fields in
    let all = name ∷ (decimal m.version ∷ (decimal m.id ∷ (map decimal m.fields ++ words_of_tail rule.tail m.tail))) in
    e ∙ ap (λ (x : List (List ℕ)). decimal 0 ++ (spaced (name ∷ (x ++ tail_texts rule.tail m.tail)) ++ (10 ∷ []))) numbers
    ∙ ap (λ (x : List (List ℕ)). decimal 0 ++ (spaced (name ∷ (decimal m.version ∷ (decimal m.id ∷ (map decimal m.fields ++ x)))) ++ (10 ∷ []))) (same_tail rule.tail m.tail pass.1)
    ∙ sym (append_assoc (decimal 0) (spaced all) (10 ∷ []))
    ∙ ap (λ (x : List ℕ). x ++ (10 ∷ [])) (spaced_words (decimal 0) all)

pub are_words : (m : MessageTree) → AreWordsOfLine m
unfolding number_forms
are_words m line is = assemble m line is.numbers is.are is.text_is
