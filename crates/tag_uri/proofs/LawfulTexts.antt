-- No rule refuses the components of a lawful EPC.
use Rattle.std.proofs.Common.{◌≡◌, ℕ, ◌+◌, ◌-◌, ◌/◌, ◌%◌, ◌^◌, ◌<◌, ◌≤◌, Bool, true, false, not, cond, List, [], ◌∷◌, Option, Some, None, refl, sym, ap, ◌∙◌, arith, length, inl, inr}
use Rattle.std.specs.Prelude.{◌==◌, ◌||◌, ◌&&◌, nat_lt, nat_le, option_map, unwrap_or}
use Rattle.std.specs.Str.{all_ascii_digits}
use Rattle.std.proofs.lemmas.Bool.{eq-eqb, ne_eqb, lt-leb, le-ltb}
use Rattle.std.proofs.lemmas.Str.Parse.{tells_all_ascii_digits}
use Rattle.std.proofs.lemmas.Fmt.{decimal_injective}
use Rattle.std.proofs.Math.Nat.{pow-le-pow_right}
use Rattle.tag_epc.specs.declared.kind.Kind.{Kind}
use Rattle.tag_epc.specs.declared.scheme.Row.{Row}
use Rattle.tag_epc.specs.declared.epc.Parts.TheVariants.{Partitioned, General}
use Rattle.tag_epc.specs.Layout.{Layout, layout_of}
use Rattle.tag_epc.specs.Calls.Layout.{is_sound}
use Rattle.tag_epc.specs.LawfulWord.{IsLawfulEpc}
use Rattle.tag_epc.proofs.Soundness.{sound as is_sound_layout}
use Rattle.tag_uri.specs.Calls.Decimal.{AreDigits}
use Rattle.tag_uri.specs.Decimal.{decimal_value, padded, plain}
use Rattle.tag_uri.specs.TagText.{Form, Filter, Company, Reference, Number, refusal, first_rule, forms_of, is_strange, is_zero_led, is_no_filter, is_no_row, reference_digits, partitioned_components}
use Rattle.tag_uri.proofs.DecimalLemmas.{digits-padded, length-padded, value-padded, mod_small, plain_is, no_zero}
use Rattle.tag_uri.proofs.ReadLemmas.{FitsLast, bool_cases}
use Rattle.tag_uri.proofs.RowDigits.{row_fits, reference_digits-at}
use Rattle.tag_uri.proofs.PrintLemmas.{AtRow, at_row, general_below}
use Rattle.tag_uri.proofs.RuleLemmas.{on, same, at_three, at_four}

digits_pass : (cs : List ℕ) → AreDigits cs → all_ascii_digits cs ≡ true
digits_pass [] h = tells_all_ascii_digits.empty
digits_pass (c ∷ cs) h = tells_all_ascii_digits.more c cs h.0 (digits_pass cs h.1)

not_strange : (cs : List ℕ) → AreDigits cs → is_strange cs ≡ false
not_strange cs h = ap not (digits_pass cs h)

not_stray : (cs : List ℕ) → AreDigits cs → 0 < length cs → (is_strange cs || (length cs == 0)) ≡ false
not_stray cs h some = let a = not_strange cs h in let b : (length cs == 0) ≡ false = ne_eqb (length cs) 0 (λ e. omega (arith, e)) in rw (a, b) refl

-- a plain text of a number that fits, and what no rule finds in it
pub record Fine (text : List ℕ) (width : ℕ) : Type 0 where
  pub stray : (is_strange text || (length text == 0)) ≡ false
  pub led : is_zero_led text ≡ false
  pub over : nat_le (2 ^ width) (decimal_value text) ≡ false

not_led : (n : ℕ) (cs : List ℕ) → n < 2 ^ 64 → cs ≡ plain n → is_zero_led cs ≡ false
not_led n [] small e = refl
not_led n (c ∷ []) small e = refl
not_led n (c ∷ d ∷ cs) small e =
    let other : (c == 48) ≡ false = ne_eqb c 48 (λ zero_first. let one = no_zero n (c ∷ d ∷ cs) (rw e (plain_is n small)) zero_first in omega (arith, one)) in
    rw other (both_false (nat_lt 1 (length (c ∷ d ∷ cs))))
  where
    both_false : (b : Bool) → (b && false) ≡ false
    both_false true = refl
    both_false false = refl

pub fine : (n w : ℕ) → n < 2 ^ w → n < 2 ^ 64 → Fine (plain n) w
fine n w below small =
    let p = plain_is n small in
    let v : decimal_value (plain n) ≡ n = p.padded.number in
    record {
      stray = not_stray (plain n) p.padded.digits p.some;
      led = not_led n (plain n) small refl;
      over = rw v (lt-leb (2 ^ w) n below);
    }

pub digits_of_plain : (n : ℕ) → n < 2 ^ 64 → AreDigits (plain n)
digits_of_plain n small = (plain_is n small).padded.digits

-- ---- GID-96

pub general_fine : (a b c : List ℕ) → Fine a 28 → Fine b 24 → Fine c 36 → refusal None (a ∷ b ∷ c ∷ []) ≡ None
unfolding refusal
general_fine a b c p q r =
    let p1 = p.stray in let p2 = p.led in let p3 = p.over in let q1 = q.stray in let q2 = q.led in let q3 = q.over in let r1 = r.stray in let r2 = r.led in let r3 = r.over in
    rw (p1, q1, r1, p2, q2, r2, p3, q3, r3) refl

-- ---- schemes with a company prefix

-- company prefix, reference and filter value that no rule finds
record FineParts (l : Layout) (f c r : List ℕ) : Type 0 where
  pub filter_stray : (is_strange f || (length f == 0)) ≡ false
  pub company_stray : (is_strange c || (length c == 0)) ≡ false
  pub reference_strange : is_strange r ≡ false
  pub filter_one : is_no_filter f ≡ false
  pub row : is_no_row l.rows (length c) (length r) ≡ false

forms_at : (l : Layout) (b : Bool) → l.zero_tail ≡ b → forms_of (Some l) ≡ Filter ∷ Company ∷ Reference ∷ cond b [] (Number l.last_bits ∷ [])
forms_at l b e = ap (λ (z : Bool). Filter ∷ Company ∷ Reference ∷ cond z [] (Number l.last_bits ∷ [])) e

three_fine : (l : Layout) (f c r : List ℕ) → l.zero_tail ≡ true → FineParts l f c r → refusal (Some l) (f ∷ c ∷ r ∷ []) ≡ None
three_fine l f c r e p =
    let a = p.filter_stray in let b = p.company_stray in let d = p.reference_strange in let g = p.filter_one in let h = p.row in
    same l (f ∷ c ∷ r ∷ []) ∙ ap (λ (fs : List Form). first_rule (on fs l (f ∷ c ∷ r ∷ []))) (forms_at l true e) ∙ at_three l f c r a b d g h

four_fine : (l : Layout) (f c r x : List ℕ) → l.zero_tail ≡ false → FineParts l f c r → Fine x l.last_bits → refusal (Some l) (f ∷ c ∷ r ∷ x ∷ []) ≡ None
four_fine l f c r x e p q =
    let a = p.filter_stray in let b = p.company_stray in let d = p.reference_strange in let g = p.filter_one in let h = p.row in
    same l (f ∷ c ∷ r ∷ x ∷ []) ∙ ap (λ (fs : List Form). first_rule (on fs l (f ∷ c ∷ r ∷ x ∷ []))) (forms_at l false e) ∙ at_four l f c r x a b d g h q.stray q.led q.over

-- the components of a lawful EPC, and what no rule finds in them
digit_low : (f : ℕ) → f < 8 → is_no_filter (padded 1 f) ≡ false
unfolding padded
digit_low f h = le-ltb 55 (48 + f / 10 ^ 0 % 10) (omega arith)

fine_parts : (l : Layout) (f k c r last : ℕ) → is_sound l ≡ true → (a : AtRow l f k c r last) → FineParts l (padded 1 f) (padded k c) (padded (unwrap_or (reference_digits l.rows k) 0) r)
fine_parts l f k c r last sound a =
    let row = a.row in
    let fits = row_fits l sound (12 - k) a.row a.placed in
    let short = a.short in
    let found : reference_digits l.rows k ≡ Some a.row.reference_digits = reference_digits-at l k (12 - k) sound (omega arith) ∙ ap (option_map (λ x. x.reference_digits)) a.placed in
    let one : length (padded 1 f) ≡ 1 = length-padded 1 f in
    let count : length (padded k c) ≡ k = length-padded k c in
    let least : 6 ≤ k = omega (arith, fits.partition) in
    let d : ℕ = unwrap_or (reference_digits l.rows k) 0 in
    let same_digits : d ≡ a.row.reference_digits = ap (λ (o : Option ℕ). unwrap_or o 0) found in
    let behind : length (padded d r) ≡ a.row.reference_digits = length-padded d r ∙ same_digits in
    record {
      filter_stray = not_stray (padded 1 f) (digits-padded 1 f) (omega (arith, one));
      company_stray = not_stray (padded k c) (digits-padded k c) (omega (arith, count, least));
      reference_strange = not_strange (padded d r) (digits-padded d r);
      filter_one = digit_low f a.filter_fits;
      row = row_found l.rows (length (padded k c)) (length (padded d r)) k a.row.reference_digits count behind found;
    }
  where
    row_found : (rows : List Row) (m n k d : ℕ) → m ≡ k → n ≡ d → reference_digits rows k ≡ Some d → is_no_row rows m n ≡ false
    row_found rows m n k d em en e = rw (em, en, e) (ap not (eq-eqb d d refl))

pub last_small : (l : Layout) (n : ℕ) → is_sound l ≡ true → l.zero_tail ≡ false → FitsLast l n → n < 2 ^ 64
last_small l n sound e h = omega (arith, h.bits e, pow-le-pow_right {n = 2} (omega arith) {i = l.last_bits} {j = 64} (omega (arith, (is_sound_layout l sound).last)))

pub lawful_fine : (kind : Kind) (l : Layout) (f k c r last : ℕ) → layout_of kind ≡ Some l → is_sound l ≡ true → IsLawfulEpc (Partitioned kind f k c r last) → refusal (Some l) (partitioned_components (Some l) f k c r last) ≡ None
lawful_fine kind l f k c r last known sound h =
    let a = at_row kind l f k c r last known sound h in
    let p = fine_parts l f k c r last sound a in
    let d : ℕ = unwrap_or (reference_digits l.rows k) 0 in
    elim (bool_cases l.zero_tail) [
      | inl e ↦ ap (λ (z : Bool). refusal (Some l) (padded 1 f ∷ padded k c ∷ padded d r ∷ cond z [] (plain last ∷ []))) e ∙ three_fine l (padded 1 f) (padded k c) (padded d r) e p
      | inr e ↦ ap (λ (z : Bool). refusal (Some l) (padded 1 f ∷ padded k c ∷ padded d r ∷ cond z [] (plain last ∷ []))) e
          ∙ four_fine l (padded 1 f) (padded k c) (padded d r) (plain last) e p (fine last l.last_bits (a.last_fits.bits e) (last_small l last sound e a.last_fits))
    ]

pub general_lawful_fine : (m o s : ℕ) → IsLawfulEpc (General m o s) → refusal None (plain m ∷ plain o ∷ plain s ∷ []) ≡ None
general_lawful_fine m o s h =
    let b = general_below m o s h in
    general_fine (plain m) (plain o) (plain s) (fine m 28 b.0 (omega (arith, b.0))) (fine o 24 b.1 (omega (arith, b.1))) (fine s 36 b.2 (omega (arith, b.2)))

-- ---- the numbers of the components

padded_same : (k m n : ℕ) → m < 10 ^ k → n < 10 ^ k → padded k m ≡ padded k n → m ≡ n
padded_same k m n p q e = sym (mod_small m (10 ^ k) p) ∙ sym (value-padded k m) ∙ ap decimal_value e ∙ value-padded k n ∙ mod_small n (10 ^ k) q

record SameParts (f k c r last g m d s late : ℕ) : Type 0 where
  pub same_filter : f ≡ g
  pub same_digits : k ≡ m
  pub same_company : c ≡ d
  pub same_reference : r ≡ s
  pub same_last : last ≡ late

same_parts : (l : Layout) (f k c r last g m d s late : ℕ) → is_sound l ≡ true → AtRow l f k c r last → AtRow l g m d s late
    → partitioned_components (Some l) f k c r last ≡ partitioned_components (Some l) g m d s late → SameParts f k c r last g m d s late
same_parts l f k c r last g m d s late sound a b e =
    let pf : padded 1 f ≡ padded 1 g = cc in
    let pc : padded k c ≡ padded m d = cc in
    let pr : padded (unwrap_or (reference_digits l.rows k) 0) r ≡ padded (unwrap_or (reference_digits l.rows m) 0) s = cc in
    let pl : cond l.zero_tail [] (plain last ∷ []) ≡ cond l.zero_tail [] (plain late ∷ []) = cc in
    let km : k ≡ m = sym (length-padded k c) ∙ ap length pc ∙ length-padded m d in
    let fa = a.filter_fits in let fb = b.filter_fits in
    let filter : f ≡ g = padded_same 1 f g (omega arith) (omega arith) pf in
    let below : d < 10 ^ k = rw km b.company_fits in
    let pc' : padded k c ≡ padded k d = pc ∙ ap (λ (x : ℕ). padded x d) (sym km) in
    let digits_a : unwrap_or (reference_digits l.rows k) 0 ≡ a.row.reference_digits = found l f k c r last sound a in
    let digits_b : unwrap_or (reference_digits l.rows m) 0 ≡ b.row.reference_digits = found l g m d s late sound b in
    let both : a.row.reference_digits ≡ b.row.reference_digits = sym digits_a ∙ ap (λ (x : ℕ). unwrap_or (reference_digits l.rows x) 0) km ∙ digits_b in
    let pr' : padded a.row.reference_digits r ≡ padded a.row.reference_digits s = ap (λ (x : ℕ). padded x r) (sym digits_a) ∙ pr ∙ ap (λ (x : ℕ). padded x s) (digits_b ∙ sym both) in
    let below_s : s < 10 ^ a.row.reference_digits = rw both b.reference_fits in
    record {
      same_filter = filter;
      same_digits = km;
      same_company = padded_same k c d a.company_fits below pc';
      same_reference = padded_same a.row.reference_digits r s a.reference_fits below_s pr';
      same_last = elim (bool_cases l.zero_tail) [
        | inl e1 ↦ a.last_fits.zero e1 ∙ sym (b.last_fits.zero e1)
        | inr e1 ↦ decimal_injective last late (last_small l last sound e1 a.last_fits) (last_small l late sound e1 b.last_fits) (one_plain l.zero_tail (plain last) (plain late) e1 pl)
      ];
    }
  where
    one_plain : (b : Bool) (x y : List ℕ) → b ≡ false → cond b [] (x ∷ []) ≡ cond b [] (y ∷ []) → x ≡ y
    one_plain true x y h e = cc
    one_plain false x y h e = cc

    found : (l : Layout) (f k c r last : ℕ) → is_sound l ≡ true → (a : AtRow l f k c r last) → unwrap_or (reference_digits l.rows k) 0 ≡ a.row.reference_digits
    found l f k c r last sound a = let short = a.short in ap (λ (o : Option ℕ). unwrap_or o 0) (reference_digits-at l k (12 - k) sound (omega arith) ∙ ap (option_map (λ x. x.reference_digits)) a.placed)

-- the components of a kind's lawful EPC determine it
pub one_partitioned : (kind : Kind) (l : Layout) (f k c r last g m d s late : ℕ) → layout_of kind ≡ Some l → is_sound l ≡ true → IsLawfulEpc (Partitioned kind f k c r last) → IsLawfulEpc (Partitioned kind g m d s late)
    → partitioned_components (Some l) f k c r last ≡ partitioned_components (Some l) g m d s late → Partitioned kind f k c r last ≡ Partitioned kind g m d s late
one_partitioned kind l f k c r last g m d s late known sound h i e =
    let p = same_parts l f k c r last g m d s late sound (at_row kind l f k c r last known sound h) (at_row kind l g m d s late known sound i) e in
    let e1 = p.same_filter in let e2 = p.same_digits in let e3 = p.same_company in let e4 = p.same_reference in let e5 = p.same_last in
    rw (e1, e2, e3, e4, e5) refl

pub one_general : (m o s n p t : ℕ) → IsLawfulEpc (General m o s) → IsLawfulEpc (General n p t) → plain m ∷ plain o ∷ plain s ∷ [] ≡ plain n ∷ plain p ∷ plain t ∷ [] → General m o s ≡ General n p t
one_general m o s n p t h i e =
    let a = general_below m o s h in let b = general_below n p t i in
    let e1 : m ≡ n = decimal_injective m n (omega (arith, a.0)) (omega (arith, b.0)) cc in
    let e2 : o ≡ p = decimal_injective o p (omega (arith, a.1)) (omega (arith, b.1)) cc in
    let e3 : s ≡ t = decimal_injective s t (omega (arith, a.2)) (omega (arith, b.2)) cc in
    rw (e1, e2, e3) refl
