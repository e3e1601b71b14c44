-- The characters of a word's text.
use Rattle.std.proofs.Common.{◌≡◌, ℕ, ◌+◌, ◌^◌, ◌<◌, ◌≤◌, Bool, true, false, List, [], ◌∷◌, ◌++◌, cond, length, Option, Some, None, refl, sym, ap, ◌∙◌, arith, inl, inr, length-append}
use Rattle.std.specs.Prelude.{◌==◌, ◌&&◌, nat_le, unwrap_or}
use Rattle.std.specs.List.{list_all, join_with_byte, AllPass}
use Rattle.std.proofs.lemmas.Fmt.{length-decimal-le}
use Rattle.std.proofs.lemmas.List.Elements.{All-head, All-tail}
use Rattle.std.proofs.lemmas.List.Folds.{list_all-append}
use Rattle.tag_epc.specs.declared.kind.Kind.{Kind}
use Rattle.tag_epc.specs.declared.kind.Kind.TheVariants.{Sgtin}
use Rattle.tag_epc.specs.declared.epc.Parts.{Parts}
use Rattle.tag_epc.specs.declared.scheme.Row.{Row}
use Rattle.tag_epc.specs.declared.epc.Parts.TheVariants.{Partitioned, General}
use Rattle.tag_epc.specs.Layout.{Layout, layout_of, scheme_name}
use Rattle.tag_epc.specs.LawfulWord.{IsLawfulEpc, kind_of_parts}
use Rattle.tag_uri.specs.Calls.Decimal.{AreDigits}
use Rattle.tag_uri.specs.Decimal.{padded, plain}
use Rattle.tag_uri.specs.Hexadecimal.{hexadecimal, is_upper_digit}
use Rattle.tag_uri.specs.TagText.{IsTextOf, tag_uri, raw_uri, components_of, reference_digits}
use Rattle.tag_uri.proofs.DecimalLemmas.{length-padded}
use Rattle.tag_uri.proofs.HexadecimalLemmas.{length-hexadecimal, word_digits_of}
use Rattle.tag_uri.proofs.LawfulTexts.{last_small}
use Rattle.tag_uri.proofs.PrintLemmas.{at_row, general_room, name_short}
use Rattle.tag_uri.proofs.TextLaws.{AllOfDigits, sound_of, written}

-- a printed character other than a space
abbrev pub is_visible : ℕ → Bool
is_visible c = nat_le 33 c && nat_le c 126

abbrev pub are_visible : List ℕ → Bool
are_visible text = list_all is_visible text

both : (a b : List ℕ) → are_visible a ≡ true → are_visible b ≡ true → are_visible (a ++ b) ≡ true
both a b p q = list_all-append is_visible a b ∙ rw (p, q) refl

digits_visible : (cs : List ℕ) → AreDigits cs → are_visible cs ≡ true
digits_visible [] h = refl
digits_visible (c ∷ cs) h = let t : is_visible c ≡ true = (let r = h.0 in digit c r.0 r.1) in rw t (digits_visible cs h.1)
  where
    digit : (c : ℕ) → 48 ≤ c → c ≤ 57 → is_visible c ≡ true
    digit c a b = grind arith

components_visible : (cs : List (List ℕ)) → AllOfDigits cs → are_visible (join_with_byte 46 cs) ≡ true
components_visible [] h = refl
components_visible (c ∷ []) h = digits_visible c h.0
components_visible (c ∷ d ∷ cs) h = both c (46 ∷ join_with_byte 46 (d ∷ cs)) (digits_visible c h.0) (components_visible (d ∷ cs) h.1)

name_visible : (k : Kind) → are_visible (scheme_name k) ≡ true
name_visible Sgtin = refl
name_visible _ = refl

upper_visible : (cs : List ℕ) → AllPass is_upper_digit cs → are_visible cs ≡ true
upper_visible [] h = refl
upper_visible (c ∷ cs) h = let t : is_visible c ≡ true = digit c (All-head (λ x. is_upper_digit x ≡ true) c cs h) in rw t (upper_visible cs (All-tail (λ x. is_upper_digit x ≡ true) c cs h))
  where
    digit : (c : ℕ) → is_upper_digit c ≡ true → is_visible c ≡ true
    digit c h = grind arith

uri_visible : (epc : Parts) → IsLawfulEpc epc → are_visible (tag_uri epc) ≡ true
unfolding tag_uri
uri_visible epc h = both (scheme_name (kind_of_parts epc)) (58 ∷ join_with_byte 46 (components_of epc)) (name_visible (kind_of_parts epc)) (components_visible (components_of epc) (written epc h).digits)

raw_visible : (w : ℕ) → are_visible (raw_uri w) ≡ true
unfolding raw_uri
raw_visible w = upper_visible (hexadecimal 24 w) (word_digits_of w).digits

-- each character of a word's text is visible
pub text_visible : (w : ℕ) (text : List ℕ) → IsTextOf w text → are_visible text ≡ true
text_visible w text (inl (epc, has, is)) = ap are_visible is ∙ uri_visible epc has.lawful
text_visible w text (inr (none, is)) = ap are_visible is ∙ raw_visible w

-- ---- how long it is

-- no row of a partition table gives the reference more than 12 digits
abbrev few_in : List Row → Bool
few_in rows = list_all (λ r. nat_le r.reference_digits 12) rows

abbrev few_if_any : Option Layout → Bool
few_if_any None = true
few_if_any (Some l) = few_in l.rows

kind_few : (k : Kind) → few_if_any (layout_of k) ≡ true
kind_few Sgtin = refl
kind_few _ = refl

few_reference : (rows : List Row) (k : ℕ) → few_in rows ≡ true → unwrap_or (reference_digits rows k) 0 ≤ 12
few_reference [] k h = omega arith
few_reference (r ∷ rows) k h = on (r.company_digits == k) (left _ _ h) (few_reference rows k (right _ _ h))
  where
    left : (a b : Bool) → (a && b) ≡ true → a ≡ true
    left true b e = refl
    left false b e = e

    right : (a b : Bool) → (a && b) ≡ true → b ≡ true
    right true b e = e
    right false b e = cc

    at_most : (n : ℕ) → nat_le n 12 ≡ true → n ≤ 12
    at_most n h = grind arith

    on : (b : Bool) → nat_le r.reference_digits 12 ≡ true → unwrap_or (reference_digits rows k) 0 ≤ 12 → unwrap_or (cond b (Some r.reference_digits) (reference_digits rows k)) 0 ≤ 12
    on true e ih = at_most r.reference_digits e
    on false e ih = ih

joined_length : (a : List ℕ) (b : List ℕ) (cs : List (List ℕ)) → length (join_with_byte 46 (a ∷ b ∷ cs)) ≡ length a + (1 + length (join_with_byte 46 (b ∷ cs)))
joined_length a b cs = omega (arith, length-append a (46 ∷ join_with_byte 46 (b ∷ cs)))

partitioned_short : (l : Layout) (f k c r last : ℕ) (b : Bool) → k ≤ 12 → few_in l.rows ≡ true → (b ≡ false → last < 2 ^ 64) → length (join_with_byte 46 (padded 1 f ∷ padded k c ∷ padded (unwrap_or (reference_digits l.rows k) 0) r ∷ cond b [] (plain last ∷ []))) ≤ 60
partitioned_short l f k c r last true few rows small =
    let m = unwrap_or (reference_digits l.rows k) 0 in
    omega (arith, few_reference l.rows k rows, length-padded 1 f, length-padded k c, length-padded m r, joined_length (padded 1 f) (padded k c) (padded m r ∷ []), joined_length (padded k c) (padded m r) [])
partitioned_short l f k c r last false few rows small =
    let m = unwrap_or (reference_digits l.rows k) 0 in
    let n : last < 2 ^ 64 = small refl in
    omega (arith, few_reference l.rows k rows, length-padded 1 f, length-padded k c, length-padded m r, length-decimal-le 20 last (omega arith) (omega arith) n, joined_length (padded 1 f) (padded k c) (padded m r ∷ plain last ∷ []), joined_length (padded k c) (padded m r) (plain last ∷ []), joined_length (padded m r) (plain last) [])

components_short : (epc : Parts) → IsLawfulEpc epc → length (join_with_byte 46 (components_of epc)) ≤ 60
components_short (Partitioned kind f k c r last) h =
    let l : Layout = h.has.layout in
    let known : layout_of kind ≡ Some l = h.has.scheme in
    let sound = sound_of kind l known in
    let a = at_row kind l f k c r last known sound h in
    let rows : few_in l.rows ≡ true = ap few_if_any (sym known) ∙ kind_few kind in
    rw known (partitioned_short l f k c r last l.zero_tail a.short rows (λ e. last_small l last sound e a.last_fits))
components_short (General m o s) h =
    let g = general_room m o s h in
    omega (arith, g.0, g.1, g.2, joined_length (plain m) (plain o) (plain s ∷ []), joined_length (plain o) (plain s) [])

uri_short : (epc : Parts) → IsLawfulEpc epc → length (tag_uri epc) ≤ 90
unfolding tag_uri
uri_short epc h = omega (arith, components_short epc h, name_short (kind_of_parts epc), length-append (scheme_name (kind_of_parts epc)) (58 ∷ join_with_byte 46 (components_of epc)))

raw_short : (w : ℕ) → length (raw_uri w) ≤ 90
unfolding raw_uri
raw_short w = omega (arith, length-hexadecimal 24 w)

-- a word's text is short
pub text_short : (w : ℕ) (text : List ℕ) → IsTextOf w text → length text ≤ 90
text_short w text (inl (epc, has, is)) = omega (arith, ap length is, uri_short epc has.lawful)
text_short w text (inr (none, is)) = omega (arith, ap length is, raw_short w)
