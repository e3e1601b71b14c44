-- What a line says that is read once, from left to right.
use Rattle.std.proofs.Common.{◌≡◌, ℕ, ◌+◌, ◌^◌, ◌<◌, ◌≤◌, List, [], ◌∷◌, ◌++◌, length, drop, map, Option, Some, None, Ok, false, get_or, refl, sym, ap, subst, ◌∙◌, arith, decimal}
use Rattle.std.specs.Prelude.{IfSome, ◌⊎◌, ◌==◌, filter, not}
use Rattle.std.proofs.lemmas.Bool.{ne_eqb}
use Rattle.std.proofs.lemmas.Fmt.{decimal_digit}
use Rattle.std.proofs.lemmas.List.{append-nil}
use Rattle.llrp_schema.specs.declared.kinds.KindSet.{KindSet}
use Rattle.llrp_schema.specs.declared.kinds.MsgKind.{MsgKind}
use Rattle.llrp_schema.specs.declared.kinds.ParamKind.{ParamKind}
use Rattle.llrp_schema.specs.declared.kinds.Kind.{Kind}
use Rattle.llrp_schema.specs.declared.kinds.Kind.TheVariants.{Message, Parameter}
use Rattle.llrp_schema.specs.declared.kinds.Tail.{Tail}
use Rattle.llrp_schema.specs.declared.kinds.Tail.TheVariants.{Absent}
use Rattle.llrp_schema.specs.declared.kinds.Field.{Field}
use Rattle.llrp_schema.specs.Schema.{FieldRule, fields_of, name_of, set_of_kind, tail_of}
use Rattle.llrp_schema.specs.Calls.Schema.{field_rule}
use Rattle.llrp_tree.specs.declared.TheConstants.{MAX_DEPTH}
use Rattle.llrp_listing.specs.Private.Encoder.{SaysAt}
use Rattle.llrp_listing.specs.LineChecks.{AreInForm, IsTailOf}
use Rattle.llrp_listing.specs.declared.parse_line.TheConstants.{LONGEST_LINE}
use Rattle.llrp_listing.specs.Private.LineChecks.{ReadsNumber}
use Rattle.llrp_listing.specs.NodeLine.{AreNumberTexts, Id, NumberForm, Unsigned, Version, field_form, number_forms, parameter_line, spaced, tail_texts}
use Rattle.llrp_listing.specs.Private.Numeral.{numeral}
use Rattle.llrp_listing.specs.Private.ShortLines.{AreAllNumbers}
use Rattle.llrp_listing.proofs.NumberWords.{unsigned_read}
use Rattle.llrp_listing.proofs.ShortLines.{in_longest}
use Rattle.llrp_listing.proofs.BareMessages.{bare_tail}

-- ---- names

-- ---- numbers

-- no field: no numbers
pub no_forms : (kind : ParamKind) → fields_of (Parameter kind) ≡ [] → number_forms (Parameter kind) ≡ []
unfolding number_forms
no_forms kind e = ap (λ (fs : List FieldRule). map field_form (filter (λ rule. not rule.reserved) fs)) e

pub message_forms : (kind : MsgKind) → fields_of (Message kind) ≡ [] → number_forms (Message kind) ≡ Version ∷ Id ∷ []
unfolding number_forms
message_forms kind e = ap (λ (fs : List FieldRule). Version ∷ Id ∷ map field_form (filter (λ rule. not rule.reserved) fs)) e

-- one plain field: one number
pub one_form : (kind : ParamKind) (rule : FieldRule) → fields_of (Parameter kind) ≡ rule ∷ [] → rule.reserved ≡ false → number_forms (Parameter kind) ≡ field_form rule ∷ []
unfolding number_forms
one_form kind rule e plain = ap (λ (fs : List FieldRule). map field_form (filter (λ rule. not rule.reserved) fs)) e ∙ rw plain refl

one_rule : (kind : ParamKind) (rules : List Field) (d : Field) → map field_rule rules ≡ fields_of (Parameter kind) → 1 ≤ length rules → length rules < 2 → (get_or rules 0 d).reserved ≡ false → number_forms (Parameter kind) ≡ field_form (field_rule (get_or rules 0 d)) ∷ []
one_rule kind [] d e some few plain = absurd (omega arith)
one_rule kind (r ∷ []) d e some few plain = one_form kind (field_rule r) (sym e) plain
one_rule kind (r ∷ s ∷ rules) d e some few plain = absurd (omega arith)

pub only_one : (kind : ParamKind) (rules : List Field) (d : Field) (w : List ℕ) (r : Option ℕ) → map field_rule rules ≡ fields_of (Parameter kind) → 1 ≤ length rules → length rules < 2 → (get_or rules 0 d).reserved ≡ false → tail_of (Parameter kind) ≡ Absent
    → IfSome r (λ n. ReadsNumber (field_form (field_rule (get_or rules 0 d))) w (Ok n)) → IfSome r (λ n. AreAllNumbers kind (w ∷ []) (n ∷ []))
only_one kind rules d w None e some few plain absent read = tt
only_one kind rules d w (Some n) e some few plain absent read =
    let forms = one_rule kind rules d e some few plain in
    record {
      in_form = subst (λ (fs : List NumberForm). AreInForm fs (n ∷ [])) (sym forms) (read.0, tt);
      are = subst (λ (fs : List NumberForm). AreNumberTexts fs (n ∷ []) (w ∷ [])) (sym forms) (read.1, tt);
      no_tail = absent;
    }

pub bare : (kind : ParamKind) → fields_of (Parameter kind) ≡ [] → tail_of (Parameter kind) ≡ Absent → AreAllNumbers kind [] []
bare kind e absent =
    let forms = no_forms kind e in
    record {
      in_form = subst (λ (fs : List NumberForm). AreInForm fs []) (sym forms) tt;
      are = subst (λ (fs : List NumberForm). AreNumberTexts fs [] []) (sym forms) tt;
      no_tail = absent;
    }

-- ---- lines

no_tail_texts : (form : Tail) → form ≡ Absent → tail_texts form [] ≡ []
no_tail_texts form e = ap (λ (f : Tail). tail_texts f []) e

no_tail_of : (form : Tail) → form ≡ Absent → IsTailOf form []
no_tail_of form e = subst (λ (f : Tail). IsTailOf f []) (sym e) refl

-- a line without a tail is its words
line_text : (kind : Kind) (numbers : List (List ℕ)) (rest : List ℕ) (level : ℕ) → level < 10 → tail_of kind ≡ Absent → 32 ∷ rest ≡ spaced (name_of kind ∷ numbers)
    → ((48 + level) ∷ 32 ∷ rest) ++ (10 ∷ []) ≡ decimal level ++ (spaced (name_of kind ∷ (numbers ++ tail_texts (tail_of kind) [])) ++ (10 ∷ []))
line_text kind numbers rest level small absent e =
    let tails : numbers ++ tail_texts (tail_of kind) [] ≡ numbers = ap (λ (z : List (List ℕ)). numbers ++ z) (no_tail_texts (tail_of kind) absent) ∙ append-nil numbers in
    ap (λ (z : List ℕ). (48 + level) ∷ (z ++ (10 ∷ []))) (e ∙ sym (ap (λ (z : List (List ℕ)). spaced (name_of kind ∷ z)) tails))
    ∙ sym (ap (λ (d : List ℕ). d ++ (spaced (name_of kind ∷ (numbers ++ tail_texts (tail_of kind) [])) ++ (10 ∷ []))) (decimal_digit level small))

pub parameter_says : {p : KindSet} (level : ℕ) (kind : ParamKind) (ws : List (List ℕ)) (ns rest : List ℕ) → set_of_kind (Parameter kind) ≡ p → 1 ≤ level → level ≤ MAX_DEPTH → level < 10 → 2 + length rest ≤ LONGEST_LINE → AreAllNumbers kind ws ns → 32 ∷ rest ≡ spaced (name_of (Parameter kind) ∷ ws)
    → SaysAt p level ((48 + level) ∷ 32 ∷ rest) level (parameter_line kind ns [])
parameter_says {p} level kind ws ns rest own least deep one short all e = (
  record {
    short = in_longest p (omega (arith, short));
    deep = deep;
    placed = least;
    own = own;
    numbers = all.in_form;
    tail = no_tail_of (tail_of (Parameter kind)) all.no_tail;
    text = record { numbers = ws; are = all.are; text_is = line_text (Parameter kind) ws rest level one all.no_tail e };
  },
  omega arith,
)

pub message_says : {p : KindSet} (kind : MsgKind) (version id : ℕ) (digits rest : List ℕ) → set_of_kind (Message kind) ≡ p → (1 ≤ version) × (version ≤ 2) → id < 2 ^ 32 → digits ≡ decimal id → 2 + length rest ≤ LONGEST_LINE → fields_of (Message kind) ≡ [] → 32 ∷ rest ≡ spaced (name_of (Message kind) ∷ ((48 + version) ∷ []) ∷ digits ∷ [])
    → SaysAt p 0 (48 ∷ 32 ∷ rest) 0 (record { kind = Message kind; numbers = version ∷ id ∷ []; tail = [] })
message_says {p} kind version id digits rest own known small is short none e =
    let forms : number_forms (Message kind) ≡ Version ∷ Id ∷ [] = message_forms kind none in
    let ws : List (List ℕ) = ((48 + version) ∷ []) ∷ digits ∷ [] in
    let absent : tail_of (Message kind) ≡ Absent = bare_tail kind none in (
      record {
        short = in_longest p (omega (arith, short));
        deep = omega arith;
        placed = refl;
        own = own;
        numbers = subst (λ (fs : List NumberForm). AreInForm fs (version ∷ id ∷ [])) (sym forms) (which version known.0 known.1, (small, tt));
        tail = no_tail_of (tail_of (Message kind)) absent;
        text = record { numbers = ws; are = subst (λ (fs : List NumberForm). AreNumberTexts fs (version ∷ id ∷ []) ws) (sym forms) (sym (decimal_digit version (omega (arith, known.1))), (is, tt)); text_is = line_text (Message kind) ws rest 0 (omega arith) absent e };
      },
      omega arith,
    )
  where
    which : (version : ℕ) → 1 ≤ version → version ≤ 2 → (version ≡ 1) ⊎ (version ≡ 2)
    which version some few = grind arith

pub unsigned_value : (rule : Field) (w : List ℕ) (r : Option ℕ) → field_form (field_rule rule) ≡ Unsigned → r ≡ numeral w → IfSome r (λ n. ReadsNumber (field_form (field_rule rule)) w (Ok n))
unsigned_value rule w None form e = tt
unsigned_value rule w (Some n) form e = subst (λ (f : NumberForm). ReadsNumber f w (Ok n)) (sym form) (unsigned_read w n (sym e))

-- the same of a word from a place of a line on
pub long_value : (rule : Field) (line word : List ℕ) (from : ℕ) (r : Option ℕ) → field_form (field_rule rule) ≡ Unsigned → word ≡ drop from line → r ≡ numeral word → IfSome r (λ n. ReadsNumber (field_form (field_rule rule)) (drop from line) (Ok n))
long_value rule line word from r form is e = subst (λ (w : List ℕ). IfSome r (λ n. ReadsNumber (field_form (field_rule rule)) w (Ok n))) is (unsigned_value rule word r form e)

-- no other word of 96 bits, and no sign
pub is_unsigned : (rule : Field) → (rule.width ≡ 96 → ⊥) → rule.signed ≡ false → field_form (field_rule rule) ≡ Unsigned
is_unsigned rule wide plain =
    let narrow : (rule.width == 96) ≡ false = ne_eqb rule.width 96 wide in
    rw (narrow, plain) refl

-- ---- the words of a line

pub one_word : (rest name word : List ℕ) → rest ≡ name ++ (32 ∷ word) → 32 ∷ rest ≡ spaced (name ∷ word ∷ [])
one_word rest name word e = ap (λ (z : List ℕ). 32 ∷ z) (e ∙ ap (λ (z : List ℕ). name ++ (32 ∷ z)) (sym (append-nil word)))

pub two_words : (rest name numbers digits : List ℕ) (version : ℕ) → rest ≡ name ++ (32 ∷ numbers) → numbers ≡ (48 + version) ∷ 32 ∷ digits → 32 ∷ rest ≡ spaced (name ∷ ((48 + version) ∷ []) ∷ digits ∷ [])
two_words rest name numbers digits version e f = ap (λ (z : List ℕ). 32 ∷ z) (e ∙ ap (λ (z : List ℕ). name ++ (32 ∷ z)) (f ∙ ap (λ (z : List ℕ). (48 + version) ∷ 32 ∷ z) (sym (append-nil digits))))

pub no_words : (rest name : List ℕ) → rest ≡ name → 32 ∷ rest ≡ spaced (name ∷ [])
no_words rest name e = ap (λ (z : List ℕ). 32 ∷ z) (e ∙ sym (append-nil name))
