-- The keys without a check digit, of GIAI-96 and CPI-96.
use Rattle.std.proofs.Common.{◌≡◌, ℕ, ◌^◌, ◌<◌, ◌≤◌, List, [], ◌∷◌, ◌++◌, length, take, drop, refl, sym, ap, subst, ◌∙◌, arith}
use Rattle.std.specs.List.{join_with_byte}
use Rattle.std.proofs.lemmas.List.{append_assoc, take-append-drop, length-take-le}
use Rattle.tag_uri.specs.Calls.Decimal.{AreDigits}
use Rattle.tag_uri.specs.Decimal.{padded, plain}
use Rattle.tag_uri.specs.TagText.{components}
use Rattle.tag_uri.proofs.ComponentLemmas.{joined}
use Rattle.tag_uri.proofs.DecimalLemmas.{digits-padded, length-padded, plain_short}
use Rattle.tag_uri.proofs.LawfulTexts.{digits_of_plain}
use Rattle.tag_uri.proofs.TextLaws.{AllOfDigits, components_again}
use Rattle.tag_schemes.specs.declared.numbers.Numbers.{Numbers}
use Rattle.tag_schemes.specs.declared.scheme.Scheme.TheVariants.{Giai, Cpi}
use Rattle.tag_schemes.specs.declared.scheme.Scheme.{Scheme}
use Rattle.tag_schemes.specs.Schemes.{layout_in}
use Rattle.tag_schemes.specs.LawfulWord.{IsLawful}
use Rattle.tag_schemes.specs.Texts.{components_in}
use Rattle.tag_schemes.proofs.SetFacts.{Facts, facts}
use Rattle.tag_schemes.proofs.TextLaws.{last_small}
use Rattle.tag_keys.specs.declared.spelling.Spelling.{Spelling}
use Rattle.tag_keys.specs.KeyFaults.{IsNumber}
use Rattle.tag_keys.proofs.PieceLemmas.{digits_taken, digits_dropped}
use Rattle.tag_keys.proofs.KeyLaws.{padded_one}
use Rattle.tag_scheme_keys.specs.KeyText.{number_in}
use Rattle.tag_scheme_keys.specs.KeyFaults.{serial_mark}

-- ---- GIAI-96

abbrev pub asset_texts : Numbers → List (List ℕ)
asset_texts m = padded 1 m.filter ∷ padded m.company_digits m.company ∷ plain m.reference ∷ []

pub asset_texts_are : (m : Numbers) → m.scheme ≡ Giai → components_in m ≡ asset_texts m
asset_texts_are m e = rw e refl

asset_digits : (m : Numbers) → Facts m → AllOfDigits (asset_texts m)
asset_digits m a = (digits-padded 1 m.filter, (digits-padded m.company_digits m.company, (digits_of_plain m.reference a.small, tt)))

pub asset_read : (s : Spelling) (filter n : ℕ) (m : Numbers) (rest numbers : List ℕ) → IsLawful m → m.scheme ≡ Giai → filter < 8 → n < length rest → AreDigits rest → numbers ≡ join_with_byte 46 (padded 1 filter ∷ take n rest ∷ drop n rest ∷ []) → numbers ≡ join_with_byte 46 (components_in m)
    → (rest ≡ number_in s Giai (components_in m)) × (m.filter ≡ filter) × (m.company_digits ≡ n)
asset_read s filter n m rest numbers h e low long digits p q =
    let a = facts m h in
    let t = asset_texts_are m e in
    let read : AllOfDigits (padded 1 filter ∷ take n rest ∷ drop n rest ∷ []) = (digits-padded 1 filter, (digits_taken n rest digits, (digits_dropped n rest digits, tt))) in
    let cs : padded 1 filter ∷ take n rest ∷ drop n rest ∷ [] ≡ asset_texts m =
    sym (components_again _ _ read) ∙ ap components (sym p ∙ q ∙ ap (join_with_byte 46) t) ∙ components_again _ _ (asset_digits m a) in
    let f : padded 1 filter ≡ padded 1 m.filter = cc in
    let c : take n rest ≡ padded m.company_digits m.company = cc in
    let r : drop n rest ≡ plain m.reference = cc in (
      sym (take-append-drop n rest) ∙ ap (λ (x : List ℕ). x ++ drop n rest) c ∙ ap (λ (x : List ℕ). padded m.company_digits m.company ++ x) r ∙ sym (ap (number_in s Giai) t),
      padded_one m.filter filter a.filter low (sym f),
      sym (length-padded m.company_digits m.company) ∙ ap length (sym c) ∙ length-take-le n rest (omega (arith, long)),
    )

-- the digits of a key that is written
pub asset_cut : (m : Numbers) (text : List ℕ) → IsLawful m → m.scheme ≡ Giai → text ≡ join_with_byte 46 (drop 1 (components_in m)) → components text ≡ padded m.company_digits m.company ∷ plain m.reference ∷ []
asset_cut m text h e is =
    ap components (is ∙ ap (λ (x : List (List ℕ)). join_with_byte 46 (drop 1 x)) (asset_texts_are m e))
    ∙ components_again _ _ (digits-padded m.company_digits m.company, (digits_of_plain m.reference (facts m h).small, tt))

pub record AssetPieces (s : Spelling) (m : Numbers) (company reference : List ℕ) : Type 0 where
  pub number : company ++ reference ≡ number_in s Giai (components_in m)
  pub company_short : length company ≤ 12
  pub reference_short : length reference ≤ 20

pub asset_pieces : (s : Spelling) (m : Numbers) (text company reference : List ℕ) → IsLawful m → m.scheme ≡ Giai → text ≡ join_with_byte 46 (drop 1 (components_in m)) → components text ≡ company ∷ components reference → AssetPieces s m company reference
asset_pieces s m text company reference h e is cut =
    let a = facts m h in
    let there : company ∷ components reference ≡ padded m.company_digits m.company ∷ plain m.reference ∷ [] = sym cut ∙ asset_cut m text h e is in
    let c : company ≡ padded m.company_digits m.company = cc in
    let others : components reference ≡ plain m.reference ∷ [] = cc in
    let r : reference ≡ plain m.reference = sym (joined reference) ∙ ap (join_with_byte 46) others in
    record {
      number = ap (λ (x : List ℕ). x ++ reference) c ∙ ap (λ (x : List ℕ). padded m.company_digits m.company ++ x) r ∙ sym (ap (number_in s Giai) (asset_texts_are m e));
      company_short = omega (arith, ap length c, length-padded m.company_digits m.company, a.most);
      reference_short = omega (arith, ap length r, plain_short 20 m.reference (omega (arith, a.small)) (omega arith) a.small);
    }

-- ---- CPI-96

abbrev pub part_texts : Numbers → List (List ℕ)
part_texts m = padded 1 m.filter ∷ padded m.company_digits m.company ∷ plain m.reference ∷ plain m.last ∷ []

pub part_texts_are : (m : Numbers) → m.scheme ≡ Cpi → components_in m ≡ part_texts m
part_texts_are m e = rw e refl

part_digits : (m : Numbers) → Facts m → AllOfDigits (part_texts m)
part_digits m a = (digits-padded 1 m.filter, (digits-padded m.company_digits m.company, (digits_of_plain m.reference a.small, (digits_of_plain m.last (last_small m a), tt))))

pub part_read : (s : Spelling) (filter n : ℕ) (m : Numbers) (front rest serial numbers : List ℕ) → IsLawful m → m.scheme ≡ Cpi → filter < 8 → n < length front → AreDigits front → IsNumber serial → rest ≡ front ++ (serial_mark s ++ serial)
    → numbers ≡ join_with_byte 46 (padded 1 filter ∷ take n front ∷ drop n front ∷ serial ∷ []) → numbers ≡ join_with_byte 46 (components_in m) → (rest ≡ number_in s Cpi (components_in m)) × (m.filter ≡ filter) × (m.company_digits ≡ n)
part_read s filter n m front rest serial numbers h e low long digits number whole p q =
    let a = facts m h in
    let t = part_texts_are m e in
    let read : AllOfDigits (padded 1 filter ∷ take n front ∷ drop n front ∷ serial ∷ []) = (digits-padded 1 filter, (digits_taken n front digits, (digits_dropped n front digits, (number.digits, tt)))) in
    let cs : padded 1 filter ∷ take n front ∷ drop n front ∷ serial ∷ [] ≡ part_texts m =
    sym (components_again _ _ read) ∙ ap components (sym p ∙ q ∙ ap (join_with_byte 46) t) ∙ components_again _ _ (part_digits m a) in
    let f : padded 1 filter ≡ padded 1 m.filter = cc in
    let c : take n front ≡ padded m.company_digits m.company = cc in
    let r : drop n front ≡ plain m.reference = cc in
    let l : serial ≡ plain m.last = cc in
    let joined_front : front ≡ padded m.company_digits m.company ++ plain m.reference = sym (take-append-drop n front) ∙ ap (λ (x : List ℕ). x ++ drop n front) c ∙ ap (λ (x : List ℕ). padded m.company_digits m.company ++ x) r in (
      whole ∙ ap (λ (x : List ℕ). x ++ (serial_mark s ++ serial)) joined_front ∙ ap (λ (x : List ℕ). (padded m.company_digits m.company ++ plain m.reference) ++ (serial_mark s ++ x)) l ∙ sym (ap (number_in s Cpi) t),
      padded_one m.filter filter a.filter low (sym f),
      sym (length-padded m.company_digits m.company) ∙ ap length (sym c) ∙ length-take-le n front (omega (arith, long)),
    )

pub part_cut : (m : Numbers) (text : List ℕ) → IsLawful m → m.scheme ≡ Cpi → text ≡ join_with_byte 46 (drop 1 (components_in m)) → components text ≡ padded m.company_digits m.company ∷ plain m.reference ∷ plain m.last ∷ []
part_cut m text h e is =
    let a = facts m h in
    ap components (is ∙ ap (λ (x : List (List ℕ)). join_with_byte 46 (drop 1 x)) (part_texts_are m e))
    ∙ components_again _ _ (digits-padded m.company_digits m.company, (digits_of_plain m.reference a.small, (digits_of_plain m.last (last_small m a), tt)))

pub part_cut_again : (m : Numbers) (text company others : List ℕ) → IsLawful m → m.scheme ≡ Cpi → text ≡ join_with_byte 46 (drop 1 (components_in m)) → components text ≡ company ∷ components others → components others ≡ plain m.reference ∷ plain m.last ∷ []
part_cut_again m text company others h e is cut = let there : company ∷ components others ≡ padded m.company_digits m.company ∷ plain m.reference ∷ plain m.last ∷ [] = sym cut ∙ part_cut m text h e is in cc

pub record PartWritten (s : Spelling) (m : Numbers) (company reference serial : List ℕ) : Type 0 where
  pub number : (company ++ reference) ++ (serial_mark s ++ serial) ≡ number_in s Cpi (components_in m)
  pub company_short : length company ≤ 12
  pub reference_short : length reference ≤ 20
  pub serial_short : length serial ≤ 10

pub part_written : (s : Spelling) (m : Numbers) (text company others reference serial : List ℕ) → IsLawful m → m.scheme ≡ Cpi → text ≡ join_with_byte 46 (drop 1 (components_in m)) → components text ≡ company ∷ components others → components others ≡ reference ∷ components serial
    → PartWritten s m company reference serial
part_written s m text company others reference serial h e is cut again =
    let a = facts m h in
    let there : company ∷ components others ≡ padded m.company_digits m.company ∷ plain m.reference ∷ plain m.last ∷ [] = sym cut ∙ part_cut m text h e is in
    let c : company ≡ padded m.company_digits m.company = cc in
    let more : reference ∷ components serial ≡ plain m.reference ∷ plain m.last ∷ [] = sym again ∙ part_cut_again m text company others h e is cut in
    let r : reference ≡ plain m.reference = cc in
    let last : components serial ≡ plain m.last ∷ [] = cc in
    let l : serial ≡ plain m.last = sym (joined serial) ∙ ap (join_with_byte 46) last in
    let bits : m.last < 2 ^ 31 = subst (λ (x : Scheme). m.last < 2 ^ (layout_in x).last_bits) e a.last_bits in
    record {
      number = ap (λ (x : List ℕ). (x ++ reference) ++ (serial_mark s ++ serial)) c ∙ ap (λ (x : List ℕ). (padded m.company_digits m.company ++ x) ++ (serial_mark s ++ serial)) r
          ∙ ap (λ (x : List ℕ). (padded m.company_digits m.company ++ plain m.reference) ++ (serial_mark s ++ x)) l ∙ sym (ap (number_in s Cpi) (part_texts_are m e));
      company_short = omega (arith, ap length c, length-padded m.company_digits m.company, a.most);
      reference_short = omega (arith, ap length r, plain_short 20 m.reference (omega (arith, a.small)) (omega arith) a.small);
      serial_short = omega (arith, ap length l, plain_short 10 m.last (omega (arith, bits)) (omega arith) (omega (arith, bits)));
    }

pub part_joined : (t t1 t2 t3 t4 c r m n x : List ℕ) → t1 ≡ t ++ c → t2 ≡ t1 ++ r → t3 ≡ t2 ++ m → t4 ≡ t3 ++ x → m ≡ n → t4 ≡ t ++ ((c ++ r) ++ (n ++ x))
part_joined t t1 t2 t3 t4 c r m n x e1 e2 e3 e4 same = rw (e4, e3, e2, e1, same) (simp append_assoc refl)
