-- A text that is put together as a key is refused, if at all, for its serial number: a leading zero, or too many bits.
use Rattle.std.proofs.Common.{◌≡◌, ℕ, zero, suc, ◌+◌, ◌-◌, ◌/◌, ◌%◌, ◌^◌, ◌<◌, ◌≤◌, Bool, true, false, not, cond, List, [], ◌∷◌, length, Option, Some, None, refl, sym, ap, ◌∙◌, arith, inl, inr}
use Rattle.std.specs.Prelude.{◌==◌, ◌||◌, ◌&&◌, ◌⊎◌, nat_le, slice_get}
use Rattle.std.proofs.lemmas.Bool.{eqb-true, eq-eqb, ne_eqb, le-ltb, and_parts, not-true}
use Rattle.std.proofs.lemmas.List.{append_cancel_left}
use Rattle.tag_epc.specs.declared.kind.Kind.{Kind}
use Rattle.tag_epc.specs.declared.kind.Kind.TheVariants.{Gid}
use Rattle.tag_epc.specs.declared.scheme.Row.{Row}
use Rattle.tag_epc.specs.Layout.{Layout, layout_of, row_at}
use Rattle.tag_epc.specs.Calls.Layout.{is_sound, rows_are_sound}
use Rattle.tag_uri.specs.declared.fault.UriFault.{UriFault}
use Rattle.tag_uri.specs.declared.fault.UriFault.TheVariants as fault
use Rattle.tag_uri.specs.Calls.Decimal.{AreDigits}
use Rattle.tag_uri.specs.Decimal.{decimal_value, padded}
use Rattle.tag_uri.specs.TagText.{refusal, is_strange, is_zero_led, is_no_filter, is_no_row, components, tag_start, HasTagFault, HasWrongComponents}
use Rattle.tag_uri.proofs.DecimalLemmas.{digits-padded, length-padded}
use Rattle.tag_uri.proofs.RowDigits.{row_fits, no_row-some, option_cases}
use Rattle.tag_uri.proofs.TextLaws.{AllOfDigits, components_again, one_scheme, sound_of}
use Rattle.tag_keys.specs.declared.spelling.Spelling.{Spelling}
use Rattle.tag_keys.specs.KeyText.{KeyForm, SerialForm, Absent, Joined, Marked, MarkedUnlessZero, key_form}
use Rattle.tag_keys.specs.KeyFaults.{IsNumber, AreSerials, ReadsKey, tag_with}
use Rattle.tag_keys.proofs.FormLemmas.{no_gid, Agrees, agrees_at, serial_agrees}
use Rattle.tag_keys.proofs.PieceLemmas.{not_strange, serial_digits}

-- the two rules on a serial number
abbrev pub OfSerial : UriFault → Type 0
OfSerial u = (u ≡ fault.LeadingZero) ⊎ (u ≡ fault.Range)

not_stray : (t : List ℕ) → AreDigits t → 0 < length t → (is_strange t || (length t == 0)) ≡ false
not_stray t h some = let a = not_strange t h in let b : (length t == 0) ≡ false = ne_eqb (length t) 0 (λ e. omega (arith, e, some)) in rw (a, b) refl

one_of : (a b : Bool) (u : UriFault) → cond a (Some fault.LeadingZero) (cond b (Some fault.Range) None) ≡ Some u → OfSerial u
one_of true b u e = inl cc
one_of false true u e = inr cc
one_of false false u e = cc

module _ (l : Layout) (f c r : List ℕ) (a : (is_strange f || (length f == 0)) ≡ false) (b : (is_strange c || (length c == 0)) ≡ false) (d : is_strange r ≡ false) (g : is_no_filter f ≡ false) (h : is_no_row l.rows (length c) (length r) ≡ false) where
  three : l.zero_tail ≡ true → refusal (Some l) (f ∷ c ∷ r ∷ []) ≡ None
  unfolding refusal
  three z = rw (z, a, b, d, g, h) refl

  four : (x : List ℕ) → l.zero_tail ≡ false → (is_strange x || (length x == 0)) ≡ false → refusal (Some l) (f ∷ c ∷ r ∷ x ∷ []) ≡ cond (is_zero_led x) (Some fault.LeadingZero) (cond (nat_le (2 ^ l.last_bits) (decimal_value x)) (Some fault.Range) None)
  unfolding refusal
  four x z s = rw (z, a, b, d, s, g, h) (by_cases (is_zero_led x) (nat_le (2 ^ l.last_bits) (decimal_value x)))
    where
      by_cases : (p q : Bool) → cond (p || false) (Some fault.LeadingZero) (cond (q || false) (Some fault.Range) None) ≡ cond p (Some fault.LeadingZero) (cond q (Some fault.Range) None)
      by_cases true q = refl
      by_cases false true = refl
      by_cases false false = refl

  numbered : (s : List (List ℕ)) (u : UriFault) (x : List ℕ) → s ≡ x ∷ [] → IsNumber x → l.zero_tail ≡ false → refusal (Some l) (f ∷ c ∷ r ∷ s) ≡ Some u → OfSerial u
  numbered s u x is n z e = one_of _ _ u (sym (ap (λ (t : List (List ℕ)). refusal (Some l) (f ∷ c ∷ r ∷ t)) is ∙ four x z (not_stray x n.digits n.some)) ∙ e)

  of_serial : (form : SerialForm) (s : List (List ℕ)) (u : UriFault) → serial_agrees l.zero_tail form ≡ true → AreSerials form s → refusal (Some l) (f ∷ c ∷ r ∷ s) ≡ Some u → OfSerial u
  of_serial Absent s u z are e =
      let zero : l.zero_tail ≡ true = z in
      let none : refusal (Some l) (f ∷ c ∷ r ∷ s) ≡ None = ap (λ (t : List (List ℕ)). refusal (Some l) (f ∷ c ∷ r ∷ t)) are ∙ three zero in
      cc
  of_serial Joined s u z are e = numbered s u are.0 are.1 are.2 (not-true l.zero_tail z) e
  of_serial (Marked m) s u z are e = numbered s u are.0 are.1 are.2 (not-true l.zero_tail z) e
  of_serial (MarkedUnlessZero m) s u z are e = numbered s u are.0 are.1 are.2 (not-true l.zero_tail z) e

-- a partition table has a row for 6 to 12 digits of the company prefix
get_none : (rows : List Row) (p : ℕ) → slice_get rows p ≡ None → length rows ≤ p
get_none [] p e = omega arith
get_none (r ∷ rs) zero e = cc
get_none (r ∷ rs) (suc p) e = let ih = get_none rs p e in omega (arith, ih)

seven : (l : Layout) → is_sound l ≡ true → length l.rows ≡ 7
seven l h =
    let a : ((nat_le l.header 255 && (length l.rows == 7) && nat_le l.last_bits 63) ≡ true) × (rows_are_sound l 0 l.rows ≡ true) = and_parts _ _ h in
    let b : ((nat_le l.header 255 && (length l.rows == 7)) ≡ true) × (nat_le l.last_bits 63 ≡ true) = and_parts _ _ a.0 in
    let d : (nat_le l.header 255 ≡ true) × ((length l.rows == 7) ≡ true) = and_parts _ _ b.0 in
    eqb-true (length l.rows) 7 d.1

has_row : (l : Layout) (form : KeyForm) (k m : ℕ) → is_sound l ≡ true → Agrees l form → 6 ≤ k → k ≤ 12 → k + m + 1 ≡ form.digits → is_no_row l.rows k m ≡ false
has_row l form k m sound table least most whole =
    elim (option_cases (row_at l (12 - k))) [
      | inl none ↦ let few = get_none l.rows (12 - k) none in absurd (omega (arith, few, seven l sound, least))
      | inr x ↦
          let fits = row_fits l sound (12 - k) x.0 x.1 in
          let digits = fits.digits in
          let total = (table.total (12 - k) x.0 x.1).0 in
          let same : x.0.reference_digits ≡ m = omega (arith, digits, total, whole, most) in
          sym (no_row-some l k m x.0 sound most x.1) ∙ ap not (eq-eqb x.0.reference_digits m same)
    ]

low : (filter : ℕ) → filter < 8 → is_no_filter (padded 1 filter) ≡ false
unfolding padded
low f h = le-ltb 55 (48 + f / 10 ^ 0 % 10) (omega arith)

layout_cases : (s : Spelling) (k : Kind) (form : KeyForm) → key_form s k ≡ Some form → (l : Layout) × (layout_of k ≡ Some l)
layout_cases s Gid form e = let none = no_gid s in cc
layout_cases s _ form e = (_, refl)

wrong_number : (s : Spelling) (filter n : ℕ) (text : List ℕ) (kind : Kind) (company reference : List ℕ) (serials : List (List ℕ)) (u : UriFault) → filter < 8 → 6 ≤ n → n ≤ 12 → ReadsKey s n text kind company reference serials → HasWrongComponents (tag_with kind filter company reference serials) u → OfSerial u
wrong_number s filter n text kind company reference serials u fits least most p w =
    let found = layout_cases s kind p.form p.known in
    let l : Layout = found.0 in
    let table = agrees_at s kind l p.form found.1 p.known in
    let named = one_scheme kind w.kind _ _ (append_cancel_left tag_start _ _ w.named) in
    let digits : AllOfDigits (padded 1 filter ∷ company ∷ reference ∷ serials) = (digits-padded 1 filter, (p.company_digits, (p.reference_digits, serial_digits p.form.serial serials p.serial))) in
    let cs : components w.rest ≡ padded 1 filter ∷ company ∷ reference ∷ serials = ap components (sym named.1) ∙ components_again (padded 1 filter) (company ∷ reference ∷ serials) digits in
    let known : layout_of w.kind ≡ Some l = ap layout_of (sym named.0) ∙ found.1 in
    let e : refusal (Some l) (padded 1 filter ∷ company ∷ reference ∷ serials) ≡ Some u = ap (λ (o : Option Layout). refusal o (padded 1 filter ∷ company ∷ reference ∷ serials)) (sym known) ∙ ap (refusal (layout_of w.kind)) (sym cs) ∙ w.refused in
    let counted = p.counted in
    let one = length-padded 1 filter in
    let whole : length company + length reference + 1 ≡ p.form.digits = p.whole in
    of_serial l (padded 1 filter) company reference (not_stray (padded 1 filter) (digits-padded 1 filter) (omega (arith, one))) (not_stray company p.company_digits (omega (arith, counted, least))) (not_strange reference p.reference_digits) (low filter fits)
    (has_row l p.form (length company) (length reference) (sound_of kind l found.1) table (omega (arith, counted, least)) (omega (arith, counted, most)) whole) p.form.serial serials u table.serial p.serial e

pub number_fault : (s : Spelling) (filter n : ℕ) (text : List ℕ) (kind : Kind) (company reference : List ℕ) (serials : List (List ℕ)) (u : UriFault) → filter < 8 → 6 ≤ n → n ≤ 12 → ReadsKey s n text kind company reference serials → HasTagFault (tag_with kind filter company reference serials) u → OfSerial u
number_fault s filter n text kind company reference serials fault.Start fits least most p h = absurd (h _ refl)
number_fault s filter n text kind company reference serials fault.Scheme fits least most p h = absurd (h.2 kind _ (append_cancel_left tag_start _ _ (sym h.1)))
number_fault s filter n text kind company reference serials fault.Parts fits least most p h = wrong_number s filter n text kind company reference serials fault.Parts fits least most p h
number_fault s filter n text kind company reference serials fault.Digit fits least most p h = wrong_number s filter n text kind company reference serials fault.Digit fits least most p h
number_fault s filter n text kind company reference serials fault.LeadingZero fits least most p h = inl refl
number_fault s filter n text kind company reference serials fault.Filter fits least most p h = wrong_number s filter n text kind company reference serials fault.Filter fits least most p h
number_fault s filter n text kind company reference serials fault.Digits fits least most p h = wrong_number s filter n text kind company reference serials fault.Digits fits least most p h
number_fault s filter n text kind company reference serials fault.Range fits least most p h = inr refl
number_fault s filter n text kind company reference serials fault.RawForm fits least most p h = wrong_number s filter n text kind company reference serials fault.RawForm fits least most p h
number_fault s filter n text kind company reference serials fault.RawOfLawful fits least most p h = wrong_number s filter n text kind company reference serials fault.RawOfLawful fits least most p h
