-- Texts that are read.
use Rattle.std.proofs.Common.{◌≡◌, ℕ, ◌+◌, ◌-◌, ◌^◌, ◌<◌, ◌≤◌, Bool, true, false, List, [], ◌∷◌, ◌++◌, length, drop, Some, refl, sym, ap, subst, ◌∙◌, arith, length-append}
use Rattle.std.specs.Prelude.{◌==◌, ◌||◌, nat_lt, unwrap_or}
use Rattle.std.specs.List.{All, slice_split, onto_first}
use Rattle.std.proofs.lemmas.List.Elements.{All-nil, All-cons}
use Rattle.std.proofs.lemmas.List.Splits.{slice_split_none, slice_split_at, slice_split-cons_yes, slice_split-cons_no}
use Rattle.std.proofs.lemmas.Bool.{ltb-false, ne_eqb}
use Rattle.std.specs.List.{join_with_byte}
use Rattle.std.proofs.lemmas.List.{append_cancel_left}
use Rattle.tag_epc.specs.declared.kind.Kind.{Kind}
use Rattle.tag_epc.specs.declared.kind.Kind.TheVariants.{Gdti, Gsrn, Gid}
use Rattle.tag_epc.specs.declared.scheme.Row.{Row}
use Rattle.tag_epc.specs.declared.epc.Parts.{Parts}
use Rattle.tag_epc.specs.declared.epc.Parts.TheVariants.{Partitioned, General}
use Rattle.tag_epc.specs.Layout.{row_at, gdti_96, gsrn_96}
use Rattle.tag_epc.specs.LawfulWord.{IsLawfulEpc, kind_of_parts}
use Rattle.tag_uri.specs.Decimal.{decimal_value, padded, plain}
use Rattle.tag_uri.specs.TagText.{tag_uri, tag_start, scheme_text, components, components_of, reference_digits, is_strange, is_zero_led, is_no_filter}
use Rattle.tag_uri.specs.declared.fault.UriFault.TheVariants as fault
use Rattle.tag_uri.proofs.DecimalLemmas.{digits-padded}
use Rattle.tag_uri.proofs.LawfulTexts.{digits_of_plain, fine}
use Rattle.tag_uri.proofs.ComponentLemmas.{joined, or_false}
use Rattle.tag_uri.proofs.GeneralLemmas.{as_plain}
use Rattle.tag_uri.proofs.PrintLemmas.{at_row}
use Rattle.tag_uri.proofs.ReadLemmas.{SomeDigits, not_stray, one_digit, filter_below}
use Rattle.tag_uri.proofs.TextLaws.{components_again, one_scheme, uri_is}
use Rattle.tag_schemes.specs.declared.scheme.Scheme.TheVariants.{Giai, Gsrnp, Sgcn, Cpi}
use Rattle.tag_schemes.specs.Schemes.{layout_in}
use Rattle.tag_schemes.specs.LawfulWord.{HasSerial, IsLawful}
use Rattle.tag_schemes.specs.Texts.{components_in, is_no_number, one_before, part_digits, HasCouponFault}
use Rattle.tag_schemes.proofs.WriteFacts.{most_digits}
use Rattle.tag_schemes.specs.Private.Coupons.{coupon_components, last_of}
use Rattle.tag_schemes.proofs.RowFacts.{fills, asset_wide, part_few, part_short, some_row}
use Rattle.tag_schemes.proofs.WordFacts.{in_row}

-- ---- GIAI-96

-- three texts of digits
pub three_digits : (a b d : List ℕ) → (is_no_number a || (is_no_number b || is_no_number d)) ≡ false → SomeDigits a × SomeDigits b × SomeDigits d
three_digits a b d h = let p = or_false _ _ h in let q = or_false _ _ p.1 in (not_stray a p.0, not_stray b q.0, not_stray d q.1)

-- the numbers of three texts that no rule refuses
pub asset_lawful : (filter : List ℕ) (f k c t p : ℕ) (r : Row) → is_no_filter filter ≡ false → filter ≡ padded (length filter) f → f < 10 ^ length filter → row_at (layout_in Giai) p ≡ Some r → p + k ≡ 12 → c < 10 ^ k → t < 2 ^ r.reference_bits
    → IsLawful (record { scheme = Giai; filter = f; company_digits = k; company = c; reference = t; last = 0 })
asset_lawful filter f k c t p r one is small placed counted company bits =
    let fit = fills Giai p r placed in
    let digits : k ≡ r.company_digits = omega (arith, fit.digits, counted) in
    let low = filter_below filter f one is small in
    let company_digits : c < 10 ^ r.company_digits = subst (λ (x : ℕ). c < 10 ^ x) digits company in
    in_row Giai f k c t 0 p r placed digits (omega (arith, low)) (omega (arith, company_digits, fit.company)) company_digits bits (omega (arith, bits, asset_wide p r placed)) (omega arith) refl

-- the text is that of these numbers
pub asset_text : (rest filter company reference : List ℕ) (f c t w : ℕ) → components rest ≡ filter ∷ company ∷ reference ∷ [] → is_no_filter filter ≡ false → filter ≡ padded (length filter) f → company ≡ padded (length company) c
    → SomeDigits reference → is_zero_led reference ≡ false → w < 64 → t ≡ decimal_value reference → t < 2 ^ w
    → rest ≡ join_with_byte 46 (padded 1 f ∷ padded (length company) c ∷ plain t ∷ [])
asset_text rest filter company reference f c t w split one is_f is_c digits led narrow is_t below =
    let first : filter ≡ padded 1 f = is_f ∙ ap (λ (k : ℕ). padded k f) (one_digit filter one) in
    let third : reference ≡ plain t = sym (as_plain reference w t digits led narrow is_t below) in
    sym (joined rest) ∙ ap (join_with_byte 46) (split ∙ ap (λ (x : List ℕ). x ∷ company ∷ reference ∷ []) first ∙ ap (λ (x : List ℕ). padded 1 f ∷ x ∷ reference ∷ []) is_c
    ∙ ap (λ (x : List ℕ). padded 1 f ∷ padded (length company) c ∷ x ∷ []) third)

-- ---- CPI-96

-- four texts of digits
pub four_digits : (a b d e : List ℕ) → (is_no_number a || (is_no_number b || (is_no_number d || is_no_number e))) ≡ false → SomeDigits a × SomeDigits b × SomeDigits d × SomeDigits e
four_digits a b d e h = let p = or_false _ _ h in let q = or_false _ _ p.1 in let r = or_false _ _ q.1 in (not_stray a p.0, not_stray b q.0, not_stray d r.0, not_stray e r.1)

-- two texts that are not led by a zero
pub two_led : (a b : List ℕ) → (is_zero_led a || is_zero_led b) ≡ false → (is_zero_led a ≡ false) × (is_zero_led b ≡ false)
two_led a b h = or_false _ _ h

-- the numbers of four texts that no rule refuses
pub part_lawful : (filter : List ℕ) (f k c t n p : ℕ) (r : Row) → is_no_filter filter ≡ false → filter ≡ padded (length filter) f → f < 10 ^ length filter → row_at (layout_in Cpi) p ≡ Some r → p + k ≡ 12 → c < 10 ^ k → t < 10 ^ r.reference_digits → n < 2 ^ 31
    → IsLawful (record { scheme = Cpi; filter = f; company_digits = k; company = c; reference = t; last = n })
part_lawful filter f k c t n p r one is small placed counted company reference last =
    let fit = fills Cpi p r placed in
    let digits : k ≡ r.company_digits = omega (arith, fit.digits, counted) in
    let low = filter_below filter f one is small in
    let company_digits : c < 10 ^ r.company_digits = subst (λ (x : ℕ). c < 10 ^ x) digits company in
    in_row Cpi f k c t n p r placed digits (omega (arith, low)) (omega (arith, company_digits, fit.company)) company_digits (omega (arith, reference, (part_short p r placed).bits)) reference last tt

-- the text is that of these numbers
pub part_text : (rest filter company reference serial : List ℕ) (f c t n : ℕ) → components rest ≡ filter ∷ company ∷ reference ∷ serial ∷ [] → is_no_filter filter ≡ false → filter ≡ padded (length filter) f → company ≡ padded (length company) c
    → SomeDigits reference → is_zero_led reference ≡ false → t ≡ decimal_value reference → t < 10 ^ 9 → SomeDigits serial → is_zero_led serial ≡ false → n ≡ decimal_value serial → n < 2 ^ 31
    → rest ≡ join_with_byte 46 (padded 1 f ∷ padded (length company) c ∷ plain t ∷ plain n ∷ [])
part_text rest filter company reference serial f c t n split one is_f is_c digits led is_t below others unled is_n under =
    let first : filter ≡ padded 1 f = is_f ∙ ap (λ (k : ℕ). padded k f) (one_digit filter one) in
    let third : reference ≡ plain t = sym (as_plain reference 31 t digits led (omega arith) is_t (omega (arith, below))) in
    let fourth : serial ≡ plain n = sym (as_plain serial 31 n others unled (omega arith) is_n under) in
    sym (joined rest) ∙ ap (join_with_byte 46) (split ∙ ap (λ (x : List ℕ). x ∷ company ∷ reference ∷ serial ∷ []) first ∙ ap (λ (x : List ℕ). padded 1 f ∷ x ∷ reference ∷ serial ∷ []) is_c
    ∙ ap (λ (x : List ℕ). padded 1 f ∷ padded (length company) c ∷ x ∷ serial ∷ []) third ∙ ap (λ (x : List ℕ). padded 1 f ∷ padded (length company) c ∷ plain t ∷ x ∷ []) fourth)

-- the numbers with the row of the company prefix
pub part_is : (filter : List ℕ) (f k c t n : ℕ) → is_no_filter filter ≡ false → filter ≡ padded (length filter) f → f < 10 ^ length filter → 6 ≤ k → k ≤ 12 → c < 10 ^ k → t < 10 ^ part_digits k → n < 2 ^ 31
    → IsLawful (record { scheme = Cpi; filter = f; company_digits = k; company = c; reference = t; last = n })
part_is filter f k c t n one is small least most company reference last =
    let found = some_row Cpi (12 - k) (omega (arith, least)) in
    let below : t < 10 ^ found.0.reference_digits = subst (λ (x : ℕ). t < 10 ^ x) (most_digits k found.0 most found.1) reference in
    part_lawful filter f k c t n (12 - k) found.0 one is small found.1 (omega (arith, most)) company below last

-- a reference has nine digits at most
pub part_below : (k t : ℕ) → 6 ≤ k → k ≤ 12 → t < 10 ^ part_digits k → t < 10 ^ 9
part_below k t least most reference =
    let found = some_row Cpi (12 - k) (omega (arith, least)) in
    let below : t < 10 ^ found.0.reference_digits = subst (λ (x : ℕ). t < 10 ^ x) (most_digits k found.0 most found.1) reference in
    omega (arith, below, part_few (12 - k) found.0 found.1)

-- ---- GSRNP-96

-- the numbers of a lawful GSRN-96 are those of a lawful GSRNP-96
pub service_lawful : (f k c t n : ℕ) → IsLawfulEpc (Partitioned Gsrn f k c t n) → IsLawful (record { scheme = Gsrnp; filter = f; company_digits = k; company = c; reference = t; last = 0 })
service_lawful f k c t n a =
    let b = at_row Gsrn gsrn_96 f k c t n refl refl a in
    let placed : row_at (layout_in Gsrnp) (12 - k) ≡ Some b.row = b.placed in
    let fit = fills Gsrnp (12 - k) b.row placed in
    let digits : k ≡ b.row.company_digits = omega (arith, fit.digits, b.short) in
    let company : c < 10 ^ b.row.company_digits = subst (λ (x : ℕ). c < 10 ^ x) digits b.company_fits in
    in_row Gsrnp f k c t 0 (12 - k) b.row placed digits (omega (arith, b.filter_fits)) (omega (arith, company, fit.company)) company (omega (arith, b.reference_fits, b.reference_wide)) b.reference_fits (omega arith) refl

pub service_is : (parts : Parts) (kind : Kind) (f k c t n : ℕ) → parts ≡ Partitioned kind f k c t n → kind_of_parts parts ≡ Gsrn → IsLawfulEpc parts → IsLawful (record { scheme = Gsrnp; filter = f; company_digits = k; company = c; reference = t; last = 0 })
service_is parts kind f k c t n is same a =
    let k_is : kind ≡ Gsrn = sym (ap kind_of_parts is) ∙ same in
    service_lawful f k c t n (subst (λ (x : Kind). IsLawfulEpc (Partitioned x f k c t n)) k_is (subst (λ (x : Parts). IsLawfulEpc x) is a))

pub service_components : (parts : Parts) (kind : Kind) (f k c t n : ℕ) → parts ≡ Partitioned kind f k c t n → kind_of_parts parts ≡ Gsrn
    → components_in (record { scheme = Gsrnp; filter = f; company_digits = k; company = c; reference = t; last = 0 }) ≡ components_of parts
service_components parts kind f k c t n is same =
    let k_is : kind ≡ Gsrn = sym (ap kind_of_parts is) ∙ same in
    rw (is, k_is) refl

-- the text of the GSRN-96 that is put together
pub service_text : (t0 t1 t2 s rest start : List ℕ) → t0 ≡ [] → start ++ rest ≡ tag_start ++ scheme_text Gsrn rest → t1 ≡ t0 ++ start → t2 ≡ t1 ++ rest → s ≡ t2 → s ≡ tag_start ++ scheme_text Gsrn rest
service_text t0 t1 t2 s rest start e0 there e1 e2 e = rw (e, e2, e1, e0) there

-- its scheme and its components
pub service_parts : (epc : Parts) (s rest : List ℕ) → s ≡ tag_start ++ scheme_text Gsrn rest → s ≡ tag_uri epc → (kind_of_parts epc ≡ Gsrn) × (rest ≡ join_with_byte 46 (components_of epc))
service_parts epc s rest named is =
    let p = one_scheme Gsrn (kind_of_parts epc) rest (join_with_byte 46 (components_of epc)) (append_cancel_left tag_start _ _ (sym named ∙ is ∙ uri_is epc)) in
    (sym p.0, p.1)

-- a company prefix of 6 to 12 digits
pub right_length : (n : ℕ) → (nat_lt n 6 || nat_lt 12 n) ≡ false → (6 ≤ n) × (n ≤ 12)
right_length n h = let p = or_false _ _ h in (ltb-false n 6 p.0, ltb-false 12 n p.1)

-- ---- SGCN-96

-- no dot in a text, and in none of several
abbrev pub Dotless : List ℕ → Type 0
Dotless text = All (λ x. (x == 46) ≡ false) text

abbrev pub AllDotless : List (List ℕ) → Type 0
AllDotless [] = Unit {0}
AllDotless (c ∷ cs) = Dotless c × AllDotless cs

onto : (x : ℕ) (cs : List (List ℕ)) → (x == 46) ≡ false → AllDotless cs → AllDotless (onto_first x cs)
onto x [] other h = (All-cons (λ y. (y == 46) ≡ false) x [] other (All-nil (λ y. (y == 46) ≡ false)), tt)
onto x (c ∷ cs) other h = (All-cons (λ y. (y == 46) ≡ false) x c other h.0, h.1)

-- parts between dots have none
dotless_parts : (xs : List ℕ) → AllDotless (slice_split (λ b. b == 46) xs)
dotless_parts [] = (All-nil (λ y. (y == 46) ≡ false), tt)
dotless_parts (x ∷ xs) = step (x == 46) refl (dotless_parts xs)
  where
    step : (b : Bool) → (x == 46) ≡ b → AllDotless (slice_split (λ y. y == 46) xs) → AllDotless (slice_split (λ y. y == 46) (x ∷ xs))
    step true e h = subst AllDotless (sym (slice_split-cons_yes (λ y. y == 46) x xs e)) (All-nil (λ y. (y == 46) ≡ false), h)
    step false e h = subst AllDotless (sym (slice_split-cons_no (λ y. y == 46) x xs e)) (onto x (slice_split (λ y. y == 46) xs) e h)

dotless_components : (rest : List ℕ) (cs : List (List ℕ)) → components rest ≡ cs → AllDotless cs
unfolding components
dotless_components rest cs e = subst AllDotless e (dotless_parts rest)

-- texts without dots, joined by dots and divided again
split_again : (c : List ℕ) (cs : List (List ℕ)) → AllDotless (c ∷ cs) → slice_split (λ b. b == 46) (join_with_byte 46 (c ∷ cs)) ≡ c ∷ cs
split_again c [] h = slice_split_none (λ b. b == 46) c h.0
split_again c (d ∷ ds) h = slice_split_at (λ b. b == 46) c 46 (join_with_byte 46 (d ∷ ds)) h.0 refl ∙ ap (λ (x : List (List ℕ)). c ∷ x) (split_again d ds h.1)

pub divided : (c : List ℕ) (cs : List (List ℕ)) → AllDotless (c ∷ cs) → components (join_with_byte 46 (c ∷ cs)) ≡ c ∷ cs
unfolding components
divided c cs h = split_again c cs h

one_put : (x : ℕ) (xs : List ℕ) → one_before (x ∷ xs) ≡ 49 ∷ (x ∷ xs)
one_put x xs = let test : (length (x ∷ xs) == 0) ≡ false = ne_eqb (length (x ∷ xs)) 0 (λ e. omega (arith, e)) in rw test refl

one_dotless : (d : List ℕ) → Dotless d → Dotless (one_before d)
one_dotless [] h = h
one_dotless (x ∷ xs) h = subst Dotless (sym (one_put x xs)) (All-cons (λ y. (y == 46) ≡ false) 49 (x ∷ xs) refl h)

-- what a GDTI-96 has that was put together so
pub record Coupon (parts : Parts) (a b c d : List ℕ) : Type 0 where
  pub kind : kind_of_parts parts ≡ Gdti
  pub serial : HasSerial Sgcn (last_of parts)
  pub texts : a ∷ b ∷ c ∷ d ∷ [] ≡ coupon_components parts

-- the serial number before which a 1 was put
serial_there : (d : List ℕ) (n : ℕ) → 0 < length (plain n) → one_before d ≡ plain n → HasSerial Sgcn n × (d ≡ drop 1 (plain n))
serial_there [] n some e = absurd (let none : length (plain n) ≡ 0 = sym (ap length e) in omega (arith, none, some))
serial_there (x ∷ xs) n some e = let is : 49 ∷ (x ∷ xs) ≡ plain n = sym (one_put x xs) ∙ e in ((x ∷ xs, omega arith, sym is), ap (λ (cs : List ℕ). drop 1 cs) is)

four_same : (a b c d x y z w : List ℕ) → a ∷ b ∷ c ∷ d ∷ [] ≡ x ∷ y ∷ z ∷ w ∷ [] → (a ≡ x) × (b ≡ y) × (c ≡ z) × (d ≡ w)
four_same a b c d x y z w e = (cc, cc, cc, cc)

coupon_of : (kind : Kind) (f k m t n : ℕ) (rest a b c d : List ℕ) → kind ≡ Gdti → IsLawfulEpc (Partitioned kind f k m t n) → components rest ≡ a ∷ b ∷ c ∷ d ∷ []
    → join_with_byte 46 (a ∷ b ∷ c ∷ one_before d ∷ []) ≡ join_with_byte 46 (components_of (Partitioned kind f k m t n)) → Coupon (Partitioned kind f k m t n) a b c d
coupon_of kind f k m t n rest a b c d is lawful split e =
    let own : IsLawfulEpc (Partitioned Gdti f k m t n) = subst (λ (x : Kind). IsLawfulEpc (Partitioned x f k m t n)) is lawful in
    let at = at_row Gdti gdti_96 f k m t n refl refl own in
    let below : n < 2 ^ 41 = at.last_fits.bits refl in
    let small : n < 2 ^ 64 = omega arith in
    let p = fine n 41 below small in
    let dotless = dotless_components rest (a ∷ b ∷ c ∷ d ∷ []) split in
    let first = divided a (b ∷ c ∷ one_before d ∷ []) (dotless.0, (dotless.1.0, (dotless.1.1.0, (one_dotless d dotless.1.1.1.0, tt)))) in
    let reference : List ℕ = padded (unwrap_or (reference_digits gdti_96.rows k) 0) t in
    let second = components_again (padded 1 f) (padded k m ∷ reference ∷ plain n ∷ []) (digits-padded 1 f, (digits-padded k m, (digits-padded (unwrap_or (reference_digits gdti_96.rows k) 0) t, (digits_of_plain n small, tt)))) in
    let told : join_with_byte 46 (components_of (Partitioned kind f k m t n)) ≡ join_with_byte 46 (padded 1 f ∷ padded k m ∷ reference ∷ plain n ∷ []) = ap (λ (x : Kind). join_with_byte 46 (components_of (Partitioned x f k m t n))) is in
    let same = four_same a b c (one_before d) (padded 1 f) (padded k m) reference (plain n) (sym first ∙ ap components (e ∙ told) ∙ second) in
    let serial = serial_there d n (some_characters (plain n) p.stray) same.3 in
    record { kind = is; serial = serial.0; texts = rw (same.0, same.1, same.2, serial.1) refl }
  where
    some_characters : (text : List ℕ) → (is_strange text || (length text == 0)) ≡ false → 0 < length text
    some_characters text h = (not_stray text h).some

pub coupon : (epc : Parts) (s rest a b c d : List ℕ) → IsLawfulEpc epc → components rest ≡ a ∷ b ∷ c ∷ d ∷ [] → s ≡ tag_start ++ scheme_text Gdti (join_with_byte 46 (a ∷ b ∷ c ∷ one_before d ∷ [])) → s ≡ tag_uri epc → Coupon epc a b c d
coupon (Partitioned kind f k m t n) s rest a b c d lawful split named is =
    let p = one_scheme Gdti kind _ _ (append_cancel_left tag_start _ _ (sym named ∙ is ∙ uri_is (Partitioned kind f k m t n))) in
    coupon_of kind f k m t n rest a b c d (sym p.0) lawful split p.1
coupon (General m o n) s rest a b c d lawful split named is =
    let p = one_scheme Gdti Gid _ _ (append_cancel_left tag_start _ _ (sym named ∙ is ∙ uri_is (General m o n))) in
    absurd (let differ = p.0 in cc)

-- the numbers of a lawful GDTI-96 are those of a lawful SGCN-96
coupon_lawful : (f k c t n : ℕ) → IsLawfulEpc (Partitioned Gdti f k c t n) → HasSerial Sgcn n → IsLawful (record { scheme = Sgcn; filter = f; company_digits = k; company = c; reference = t; last = n })
coupon_lawful f k c t n a serial =
    let b = at_row Gdti gdti_96 f k c t n refl refl a in
    let placed : row_at (layout_in Sgcn) (12 - k) ≡ Some b.row = b.placed in
    let fit = fills Sgcn (12 - k) b.row placed in
    let digits : k ≡ b.row.company_digits = omega (arith, fit.digits, b.short) in
    let company : c < 10 ^ b.row.company_digits = subst (λ (x : ℕ). c < 10 ^ x) digits b.company_fits in
    in_row Sgcn f k c t n (12 - k) b.row placed digits (omega (arith, b.filter_fits)) (omega (arith, company, fit.company)) company (omega (arith, b.reference_fits, b.reference_wide)) b.reference_fits (b.last_fits.bits refl) serial

pub coupon_is : (parts : Parts) (kind : Kind) (f k c t n : ℕ) → parts ≡ Partitioned kind f k c t n → kind_of_parts parts ≡ Gdti → HasSerial Sgcn (last_of parts) → IsLawfulEpc parts
    → IsLawful (record { scheme = Sgcn; filter = f; company_digits = k; company = c; reference = t; last = n })
coupon_is parts kind f k c t n is same serial a =
    let k_is : kind ≡ Gdti = sym (ap kind_of_parts is) ∙ same in
    coupon_lawful f k c t n (subst (λ (x : Kind). IsLawfulEpc (Partitioned x f k c t n)) k_is (subst (λ (x : Parts). IsLawfulEpc x) is a)) (subst (λ (x : Parts). HasSerial Sgcn (last_of x)) is serial)

-- components of another count
pub no_coupon : (cs : List (List ℕ)) → (length cs ≡ 4 → ⊥) → HasCouponFault cs fault.Parts
no_coupon [] h = refl
no_coupon (a ∷ []) h = refl
no_coupon (a ∷ (b ∷ [])) h = refl
no_coupon (a ∷ (b ∷ (c ∷ []))) h = refl
no_coupon (a ∷ (b ∷ (c ∷ (d ∷ [])))) h = absurd (h refl)
no_coupon (a ∷ (b ∷ (c ∷ (d ∷ (e ∷ cs))))) h = refl

-- the lengths of four components
pub four_short : (rest a b c d : List ℕ) → components rest ≡ a ∷ b ∷ c ∷ d ∷ [] → length a + length b + length c + length d ≤ length rest
four_short rest a b c d split =
    let whole : length (a ++ 46 ∷ (b ++ 46 ∷ (c ++ 46 ∷ d))) ≡ length rest = ap length (ap (join_with_byte 46) (sym split) ∙ joined rest) in
    omega (arith, whole, length-append a (46 ∷ (b ++ 46 ∷ (c ++ 46 ∷ d))), length-append b (46 ∷ (c ++ 46 ∷ d)), length-append c (46 ∷ d))
