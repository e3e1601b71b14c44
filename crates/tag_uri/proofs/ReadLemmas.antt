-- What components that no rule refuses say.
use Rattle.std.proofs.Common.{◌≡◌, ℕ, ◌+◌, ◌-◌, ◌/◌, ◌%◌, ◌^◌, ◌<◌, ◌≤◌, Bool, true, false, not, cond, List, [], ◌∷◌, Option, Some, None, refl, ap, ◌∙◌, subst, arith, length, inl, inr, lit<}
use Rattle.std.specs.Borrow.{Bor}
use Rattle.std.specs.Prelude.{◌==◌, ◌||◌, ◌⊎◌, is_some, option_copied, option_to_list, option_map, unwrap_or, IfSome, MatchOption}
use Rattle.std.proofs.lemmas.Bool.{eqb-true, ltb-false}
use Rattle.std.proofs.Math.Nat.{pow-le-pow_right}
use Rattle.std.proofs.lemmas.Nat.{pow_pos}
use Rattle.tag_epc.specs.declared.kind.Kind.{Kind}
use Rattle.tag_epc.specs.declared.scheme.Row.{Row}
use Rattle.tag_epc.specs.declared.epc.Parts.TheVariants.{Partitioned}
use Rattle.tag_epc.specs.Layout.{Layout, layout_of, number_segments}
use Rattle.tag_epc.specs.Calls.Layout.{is_sound}
use Rattle.tag_epc.specs.LawfulWord.{IsLawfulEpc, fill, AllFit}
use Rattle.tag_epc.proofs.Soundness.{sound as is_sound_layout}
use Rattle.tag_uri.specs.declared.partitioned.Components.{Components}
use Rattle.tag_uri.specs.Calls.Decimal.{AreDigits}
use Rattle.tag_uri.specs.Decimal.{decimal_value, padded, plain}
use Rattle.tag_uri.specs.TagText.{Number, some_component, is_stray, has_leading_zero, is_strange, is_zero_led, is_no_filter, reference_digits, partitioned_components}
use Rattle.tag_uri.specs.Private.ComponentForms.{texts_of, forms_with, LastIs}
use Rattle.tag_uri.proofs.ComponentLemmas.{digits_of_not_strange, or_false, not_false}
use Rattle.tag_uri.proofs.DecimalLemmas.{plain_text}
use Rattle.tag_uri.proofs.RowDigits.{RowOf, row_fits, reference_digits-at}

pub bool_cases : (b : Bool) → (b ≡ true) ⊎ (b ≡ false)
bool_cases true = inl refl
bool_cases false = inr refl

-- digits, and at least one
pub record SomeDigits (text : List ℕ) : Type 0 where
  pub digits : AreDigits text
  pub some : 0 < length text

pub not_stray : (text : List ℕ) → (is_strange text || (length text == 0)) ≡ false → SomeDigits text
not_stray [] h = cc
not_stray (c ∷ cs) h = record { digits = digits_of_not_strange (c ∷ cs) (or_false _ _ h).0; some = omega arith }

abbrev pub LastDigits : Option (Bor (List ℕ)) → Type 0
LastDigits None = Unit {0}
LastDigits (Some last) = SomeDigits last.now

abbrev pub LastPlain : Option (Bor (List ℕ)) → Type 0
LastPlain None = Unit {0}
LastPlain (Some last) = is_zero_led last.now ≡ false

-- components of digits
pub record AllDigits (x : Components) : Type 0 where
  pub filter : SomeDigits x.filter.now
  pub company : SomeDigits x.company.now
  pub reference : AreDigits x.reference.now
  pub last : LastDigits x.last

pub no_stray : (x : Components) (w : ℕ) → some_component is_stray (forms_with x w) (texts_of x) ≡ false → AllDigits x
no_stray x w h =
    let a = or_false _ _ h in let b = or_false _ _ a.1 in let d = or_false _ _ b.1 in
    record {
      filter = not_stray x.filter.now a.0;
      company = not_stray x.company.now b.0;
      reference = digits_of_not_strange x.reference.now d.0;
      last = (elim x.last as (λ (o : Option (Bor (List ℕ))). some_component is_stray (cond (is_some o) (Number w ∷ []) []) (option_to_list (option_copied o)) ≡ false → LastDigits o) [
        | None ↦ λ e. tt
        | Some last ↦ λ e. not_stray last.now (or_false _ _ e).0
      ]) d.1;
    }

pub no_leading_zero : (x : Components) (w : ℕ) → some_component has_leading_zero (forms_with x w) (texts_of x) ≡ false → LastPlain x.last
no_leading_zero x w h =
    (elim x.last as (λ (o : Option (Bor (List ℕ))). some_component has_leading_zero (cond (is_some o) (Number w ∷ []) []) (option_to_list (option_copied o)) ≡ false → LastPlain o) [
      | None ↦ λ e. tt
      | Some last ↦ λ e. (or_false _ _ e).0
    ]) h

-- the digits of the last component, where there is one
pub digits_of_last : (x : Components) (w : ℕ) (last : Bor (List ℕ)) → x.last ≡ Some last → some_component is_stray (forms_with x w) (texts_of x) ≡ false → SomeDigits last.now
digits_of_last x w last is h = let d = (no_stray x w h).last in subst LastDigits is d

pub last_is : (x : Components) (w : ℕ) (last : Bor (List ℕ)) (o : Option ℕ) → x.last ≡ Some last → w < 64
    → some_component is_stray (forms_with x w) (texts_of x) ≡ false → some_component has_leading_zero (forms_with x w) (texts_of x) ≡ false
    → MatchOption o (2 ^ w ≤ decimal_value last.now) (λ n. (n ≡ decimal_value last.now) × (n < 2 ^ w)) → IfSome o (λ n. LastIs x.last w n)
last_is x w last None is narrow h k m = tt
last_is x w last (Some n) is narrow h k m =
    let d = digits_of_last x w last is h in
    let p : is_zero_led last.now ≡ false = subst LastPlain is (no_leading_zero x w k) in
    let small : n < 2 ^ 64 = omega (arith, m.1, pow-le-pow_right {n = 2} (omega arith) {i = w} {j = 64} (omega arith)) in
    rw is (plain_text last.now n d.digits d.some p small m.0, m.1)

-- a filter value is one digit
pub one_digit : (text : List ℕ) → is_no_filter text ≡ false → length text ≡ 1
one_digit text h = eqb-true (length text) 1 (not_false (length text == 1) (or_false _ _ h).0)

-- and that digit is 0 to 7
pub filter_below : (text : List ℕ) (n : ℕ) → is_no_filter text ≡ false → text ≡ padded (length text) n → n < 10 ^ length text → n < 8
unfolding padded
filter_below [] n h e b = cc
filter_below (c ∷ d ∷ cs) n h e b = let one = one_digit (c ∷ d ∷ cs) h in absurd (omega (arith, one))
filter_below (c ∷ []) n h e b =
    let low : c ≤ 55 = ltb-false 55 c h in
    let first : c ≡ 48 + n / 10 ^ 0 % 10 = cc in
    omega (arith, low, first, b)

-- what a last segment may hold
pub record FitsLast (l : Layout) (last : ℕ) : Type 0 where
  pub zero : l.zero_tail ≡ true → last ≡ 0
  pub bits : l.zero_tail ≡ false → last < 2 ^ l.last_bits

pub fits_last : (l : Layout) (o : Option (Bor (List ℕ))) (n : ℕ) → is_some o ≡ not l.zero_tail → LastIs o l.last_bits n → FitsLast l n
fits_last l None n ends h = record { zero = λ e. h; bits = λ e. let no : false ≡ not false = rw e at ends in cc }
fits_last l (Some last) n ends h = record { zero = λ e. let no : true ≡ not true = rw e at ends in cc; bits = λ e. h.1 }

-- the numbers after the partition value fit their segments
all_fit : (l : Layout) (r : Row) (company reference last : ℕ) → company < 2 ^ r.company_bits → company < 10 ^ r.company_digits → reference < 2 ^ r.reference_bits → reference < 10 ^ r.reference_digits → FitsLast l last
    → AllFit (fill (number_segments l r) (company ∷ reference ∷ last ∷ []))
all_fit l r company reference last a b c d h = (
  record { bits = a; decimals = b },
  (
    record { bits = c; decimals = d },
    (
      elim (bool_cases l.zero_tail) [
        | inl e ↦ let z : last ≡ 0 = h.zero e in rw (e, z) (record { bits = pow_pos l.last_bits; decimals = lit< tt })
        | inr e ↦ rw e (record { bits = h.bits e; decimals = tt })
      ],
      tt,
    ),
  ),
)

-- numbers that fit are those of a lawful EPC
pub lawful : (kind : Kind) (l : Layout) (f k m company reference last : ℕ) → layout_of kind ≡ Some l → is_sound l ≡ true → RowOf l k m → f < 8 → company < 10 ^ k → reference < 10 ^ m → FitsLast l last
    → IsLawfulEpc (Partitioned kind f k company reference last)
lawful kind l f k m company reference last known sound r small below_company below_reference h =
    let fits = row_fits l sound (12 - k) r.row r.placed in
    let short = r.short in
    let counted : r.row.company_digits ≡ k = omega (arith, fits.digits, short) in
    let digits = r.digits in
    let company_fits : company < 10 ^ r.row.company_digits = rw counted below_company in
    let reference_fits : reference < 10 ^ r.row.reference_digits = rw digits below_reference in
    record {
      fields = _;
      has = record { layout = l; row = r.row; partition = 12 - k; scheme = known; placed = r.placed; counted = omega arith; filled = refl };
      fit = (
        record { bits = (is_sound_layout l sound).header; decimals = tt },
        (
          record { bits = omega arith; decimals = tt },
          (
            record { bits = omega (arith, fits.partition); decimals = tt },
            all_fit l r.row company reference last (omega (arith, company_fits, fits.company)) company_fits (omega (arith, reference_fits, fits.reference)) reference_fits h,
          ),
        ),
      );
    }

ending : (l : Layout) (o : Option (Bor (List ℕ))) (n : ℕ) → is_some o ≡ not l.zero_tail → LastIs o l.last_bits n → option_to_list (option_copied o) ≡ cond l.zero_tail [] (plain n ∷ [])
ending l None n ends h = elim (bool_cases l.zero_tail) [ inl e ↦ rw e refl | inr e ↦ let no : false ≡ not false = rw e at ends in cc ]
ending l (Some last) n ends h = elim (bool_cases l.zero_tail) [ inl e ↦ let no : true ≡ not true = rw e at ends in cc | inr e ↦ let same = h.0 in rw (e, same) refl ]

-- the components are those of the EPC
pub same_components : (kind : Kind) (l : Layout) (x : Components) (cs : List (List ℕ)) (f company reference last : ℕ) → layout_of kind ≡ Some l → is_sound l ≡ true → cs ≡ texts_of x → is_some x.last ≡ not l.zero_tail
    → RowOf l (length x.company.now) (length x.reference.now) → length x.filter.now ≡ 1
    → x.filter.now ≡ padded (length x.filter.now) f → x.company.now ≡ padded (length x.company.now) company → x.reference.now ≡ padded (length x.reference.now) reference → LastIs x.last l.last_bits last
    → cs ≡ partitioned_components (layout_of kind) f (length x.company.now) company reference last
same_components kind l x cs f company reference last known sound is ends r one ef ec er h =
    let short = r.short in
    let digits : unwrap_or (reference_digits l.rows (length x.company.now)) 0 ≡ length x.reference.now =
    ap (λ (o : Option ℕ). unwrap_or o 0) (reference_digits-at l (length x.company.now) (12 - length x.company.now) sound (omega arith))
    ∙ ap (λ (o : Option Row). unwrap_or (option_map (λ r. r.reference_digits) o) 0) r.placed ∙ r.digits in
    let first : x.filter.now ≡ padded 1 f = ef ∙ ap (λ (k : ℕ). padded k f) one in
    let last_text = ending l x.last last ends h in
    is ∙ rw (known, digits) (ap (λ (t : List ℕ). t ∷ x.company.now ∷ x.reference.now ∷ option_to_list (option_copied x.last)) first
    ∙ ap (λ (t : List ℕ). padded 1 f ∷ t ∷ x.reference.now ∷ option_to_list (option_copied x.last)) ec
    ∙ ap (λ (t : List ℕ). padded 1 f ∷ padded (length x.company.now) company ∷ t ∷ option_to_list (option_copied x.last)) er
    ∙ ap (λ (ts : List (List ℕ)). padded 1 f ∷ padded (length x.company.now) company ∷ padded (length x.reference.now) reference ∷ ts) last_text)
