-- The rules at the components of a text of a scheme with a company prefix.
use Rattle.std.proofs.Common.{◌≡◌, ℕ, ◌^◌, Bool, true, false, not, cond, List, [], ◌∷◌, Option, Some, None, refl, sym, ap, ◌∙◌, length}
use Rattle.std.proofs.lemmas.Bool.{ne_eqb}
use Rattle.std.specs.Borrow.{Bor}
use Rattle.std.specs.Prelude.{◌==◌, ◌||◌, nat_le, is_some, option_copied, option_to_list}
use Rattle.tag_epc.specs.declared.kind.Kind.{Kind}
use Rattle.tag_epc.specs.Layout.{Layout, layout_of}
use Rattle.tag_uri.specs.declared.fault.UriFault.{UriFault}
use Rattle.tag_uri.specs.declared.fault.UriFault.TheVariants as fault
use Rattle.tag_uri.specs.declared.partitioned.Components.{Components}
use Rattle.tag_uri.specs.TagText.{Form, Filter, Company, Reference, Number, forms_of, refusal, first_rule, some_component, is_stray, has_leading_zero, is_wrong_filter, has_wrong_digits, is_above, is_no_filter, is_no_row, is_strange, is_zero_led}
use Rattle.tag_uri.specs.Decimal.{decimal_value}
use Rattle.tag_uri.specs.Private.ComponentForms.{texts_of}

abbrev Last : Type 0
Last = Option (Bor (List ℕ))

abbrev texts : List ℕ → List ℕ → List ℕ → Last → List (List ℕ)
texts f c r o = f ∷ c ∷ r ∷ option_to_list (option_copied o)

abbrev forms : Last → ℕ → List Form
forms o w = Filter ∷ Company ∷ Reference ∷ cond (is_some o) (Number w ∷ []) []

-- the rules but that on the number of components
abbrev rules_at : Layout → List ℕ → List ℕ → List ℕ → Last → List (Bool × UriFault)
rules_at l f c r o =
    (some_component is_stray (forms o l.last_bits) (texts f c r o), fault.Digit)
    ∷ (some_component has_leading_zero (forms o l.last_bits) (texts f c r o), fault.LeadingZero)
    ∷ (is_no_filter f, fault.Filter)
    ∷ (is_no_row l.rows (length c) (length r), fault.Digits)
    ∷ (some_component is_above (forms o l.last_bits) (texts f c r o), fault.Range)
    ∷ []

abbrev pub rules_with : Layout → Components → List (Bool × UriFault)
rules_with l x = rules_at l x.filter.now x.company.now x.reference.now x.last

-- all rules, at given forms
pub on : List Form → Layout → List (List ℕ) → List (Bool × UriFault)
on fs l cs =
    (not (length cs == length fs), fault.Parts)
    ∷ (some_component is_stray fs cs, fault.Digit)
    ∷ (some_component has_leading_zero fs cs, fault.LeadingZero)
    ∷ (some_component is_wrong_filter fs cs, fault.Filter)
    ∷ (has_wrong_digits (Some l) cs, fault.Digits)
    ∷ (some_component is_above fs cs, fault.Range)
    ∷ []

or_false : (b : Bool) → (b || false) ≡ b
or_false true = refl
or_false false = refl

-- a scheme's forms are those of components that end as its words do
ending : (b has : Bool) (w : ℕ) → has ≡ not b → cond b [] (Number w ∷ []) ≡ cond has (Number w ∷ []) []
ending true has w e = rw e refl
ending false has w e = rw e refl

-- there are as many components as forms, and the filter value's test is on the first alone
flat : (l : Layout) (f c r : List ℕ) (o : Last) → first_rule (on (forms o l.last_bits) l (texts f c r o)) ≡ first_rule (rules_at l f c r o)
unfolding on
flat l f c r None = rw (or_false (is_no_filter f)) refl
flat l f c r (Some last) = rw (or_false (is_no_filter f)) refl

pub same : (l : Layout) (cs : List (List ℕ)) → refusal (Some l) cs ≡ first_rule (on (forms_of (Some l)) l cs)
unfolding on refusal
same l cs = refl

-- what refuses the components refuses the text
pub refused : (kind : Kind) (l : Layout) (cs : List (List ℕ)) (x : Components) (f : UriFault) → layout_of kind ≡ Some l → cs ≡ texts_of x → is_some x.last ≡ not l.zero_tail
    → first_rule (rules_with l x) ≡ Some f → refusal (layout_of kind) cs ≡ Some f
refused kind l cs x f known is ends e =
    let at : forms_of (Some l) ≡ forms x.last l.last_bits = ap (λ (fs : List Form). Filter ∷ Company ∷ Reference ∷ fs) (ending l.zero_tail (is_some x.last) l.last_bits ends) in
    rw (known, is) (same l (texts_of x) ∙ ap (λ (fs : List Form). first_rule (on fs l (texts_of x))) at ∙ flat l x.filter.now x.company.now x.reference.now x.last ∙ e)

-- the first of five rules that applies
abbrev five : Bool → Bool → Bool → Bool → Bool → List (Bool × UriFault)
five a b c d e = (a, fault.Digit) ∷ (b, fault.LeadingZero) ∷ (c, fault.Filter) ∷ (d, fault.Digits) ∷ (e, fault.Range) ∷ []

pub digit_first : (a b c d e : Bool) → a ≡ true → first_rule (five a b c d e) ≡ Some fault.Digit
digit_first a b c d e p = rw p refl

pub zero_first : (a b c d e : Bool) → a ≡ false → b ≡ true → first_rule (five a b c d e) ≡ Some fault.LeadingZero
zero_first a b c d e p q = rw (p, q) refl

pub filter_first : (a b c d e : Bool) → a ≡ false → b ≡ false → c ≡ true → first_rule (five a b c d e) ≡ Some fault.Filter
filter_first a b c d e p q r = rw (p, q, r) refl

pub digits_first : (a b c d e : Bool) → a ≡ false → b ≡ false → c ≡ false → d ≡ true → first_rule (five a b c d e) ≡ Some fault.Digits
digits_first a b c d e p q r s = rw (p, q, r, s) refl

pub range_first : (a b c d e : Bool) → a ≡ false → b ≡ false → c ≡ false → d ≡ false → e ≡ true → first_rule (five a b c d e) ≡ Some fault.Range
range_first a b c d e p q r s t = rw (p, q, r, s, t) refl

-- components that are too few or too many
pub wrong_count : (kind : Kind) (l : Layout) (cs : List (List ℕ)) (b : Bool) → layout_of kind ≡ Some l → b ≡ l.zero_tail → (length cs ≡ cond b 3 4 → ⊥) → refusal (layout_of kind) cs ≡ Some fault.Parts
unfolding refusal
wrong_count kind l cs b known ends other =
    let count : (z : Bool) → length (forms_of (Some (record l { zero_tail = z }))) ≡ cond z 3 4 = λ z. elim z as (λ (y : Bool). length (forms_of (Some (record l { zero_tail = y }))) ≡ cond y 3 4) [ true ↦ refl | false ↦ refl ] in
    let fails : (length cs == length (forms_of (Some l))) ≡ false = ne_eqb (length cs) (length (forms_of (Some l))) (λ e. other (e ∙ count l.zero_tail ∙ ap (λ (z : Bool). cond z 3 4) (sym ends))) in
    rw (known, fails) refl

pub at_three : (l : Layout) (f c r : List ℕ) → (is_strange f || (length f == 0)) ≡ false → (is_strange c || (length c == 0)) ≡ false → is_strange r ≡ false → is_no_filter f ≡ false → is_no_row l.rows (length c) (length r) ≡ false
    → first_rule (on (Filter ∷ Company ∷ Reference ∷ []) l (f ∷ c ∷ r ∷ [])) ≡ None
unfolding on
at_three l f c r a b d g h = rw (a, b, d, g, h) refl

pub at_four : (l : Layout) (f c r x : List ℕ) → (is_strange f || (length f == 0)) ≡ false → (is_strange c || (length c == 0)) ≡ false → is_strange r ≡ false → is_no_filter f ≡ false → is_no_row l.rows (length c) (length r) ≡ false
    → (is_strange x || (length x == 0)) ≡ false → is_zero_led x ≡ false → nat_le (2 ^ l.last_bits) (decimal_value x) ≡ false
    → first_rule (on (Filter ∷ Company ∷ Reference ∷ Number l.last_bits ∷ []) l (f ∷ c ∷ r ∷ x ∷ [])) ≡ None
unfolding on
at_four l f c r x a b d g h s t u = rw (a, b, d, s, t, g, h, u) refl
