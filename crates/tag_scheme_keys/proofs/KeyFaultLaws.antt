-- No rule refuses the text of the key of an EPC of a further scheme.
use Rattle.std.proofs.Common.{◌≡◌, ℕ, ◌^◌, ◌<◌, ◌≤◌, true, List, [], ◌∷◌, ◌++◌, length, take, drop, refl, sym, ap, subst, ◌∙◌, arith, inl, inr, lit≤, length-append, length-drop}
use Rattle.std.specs.List.{join_with_byte}
use Rattle.std.proofs.lemmas.Bool.{true≢false}
use Rattle.std.proofs.lemmas.List.{append-nil, append_cancel_left, take_at, drop_at}
use Rattle.tag_epc.specs.declared.kind.Kind.TheVariants.{Gdti, Gsrn}
use Rattle.tag_epc.specs.LawfulWord.{IsLawfulEpc}
use Rattle.tag_uri.specs.Calls.Decimal.{AreDigits}
use Rattle.tag_uri.specs.Decimal.{padded, plain}
use Rattle.tag_uri.specs.TagText.{is_strange}
use Rattle.tag_uri.proofs.DecimalLemmas.{digits-padded, length-padded, plain_is, plain_short}
use Rattle.tag_uri.proofs.LawfulTexts.{digits_of_plain}
use Rattle.tag_schemes.specs.declared.numbers.Numbers.{Numbers}
use Rattle.tag_schemes.specs.declared.scheme.Scheme.{Scheme}
use Rattle.tag_schemes.specs.declared.scheme.Scheme.TheVariants.{Giai, Gsrnp, Sgcn, Cpi}
use Rattle.tag_schemes.specs.Schemes.{layout_in}
use Rattle.tag_schemes.specs.LawfulWord.{IsLawful, HasSerial}
use Rattle.tag_schemes.specs.Texts.{components_in, reference_text, HasFaultIn}
use Rattle.tag_schemes.proofs.SetFacts.{facts}
use Rattle.tag_schemes.proofs.TextLaws.{last_small}
use Rattle.tag_keys.specs.declared.fault.KeyFault.{KeyFault}
use Rattle.tag_keys.specs.declared.fault.KeyFault.TheVariants as key
use Rattle.tag_keys.specs.declared.spelling.Spelling.{Spelling}
use Rattle.tag_keys.specs.declared.spelling.Spelling.TheVariants.{Element, Link, Named}
use Rattle.tag_keys.specs.CheckDigit.{with_check_digit}
use Rattle.tag_keys.specs.KeyText.{IsKeyText, key_digits, serial_text}
use Rattle.tag_keys.specs.KeyFaults.{IsNumber, HasKeyFault}
use Rattle.tag_keys.proofs.PieceLemmas.{digits_both, not_strange, length-with_check}
use Rattle.tag_keys.proofs.KeyLaws.{no_key_fault}
use Rattle.tag_scheme_keys.specs.KeyText.{start_in, gap, number_in, key_in}
use Rattle.tag_scheme_keys.specs.KeyFaults.{AssetFails, PartFails, FailsAfter, HasKeyFaultIn, IsWithOne, SplitsCoupon, part_front, serial_mark, older_start}
use Rattle.tag_scheme_keys.proofs.TagLaws.{no_fault_with, reference_long}
use Rattle.tag_scheme_keys.proofs.OlderKeys.{service_form, service_known, document_form, document_known, document_text, no_lead, parts_with, service_lawful_twin, coupon_lawful_twin, document_read, one_split, gap_short}
use Rattle.tag_scheme_keys.proofs.PlainKeys.{asset_texts_are, part_texts_are}
use Rattle.tag_scheme_keys.proofs.PartPieces.{front_is_digits, mark_short}
use Rattle.tag_scheme_keys.proofs.KeyLaws.{key_in_is, one_start_in}

-- ---- GIAI-96

module _ (s : Spelling) (m : Numbers) (filter n : ℕ) (h : IsLawful m) (e : m.scheme ≡ Giai) (f : m.filter ≡ filter) (k : m.company_digits ≡ n) where
  abbrev company : List ℕ
  company = padded m.company_digits m.company

  abbrev reference : List ℕ
  reference = plain m.reference

  digits : AreDigits (company ++ reference)
  digits = digits_both company reference (digits-padded m.company_digits m.company) (digits_of_plain m.reference (facts m h).small)

  company_long : length company ≡ n
  company_long = length-padded m.company_digits m.company ∙ k

  same : join_with_byte 46 (padded 1 filter ∷ take n (company ++ reference) ∷ drop n (company ++ reference) ∷ []) ≡ join_with_byte 46 (components_in m)
  same = ap (λ (x : ℕ). join_with_byte 46 (padded 1 x ∷ take n (company ++ reference) ∷ drop n (company ++ reference) ∷ [])) (sym f)
      ∙ ap (λ (x : List ℕ). join_with_byte 46 (padded 1 m.filter ∷ x ∷ drop n (company ++ reference) ∷ [])) (take_at company reference n company_long)
      ∙ ap (λ (x : List ℕ). join_with_byte 46 (padded 1 m.filter ∷ company ∷ x ∷ [])) (drop_at company reference n company_long) ∙ ap (join_with_byte 46) (sym (asset_texts_are m e))

  asset_good : (fault : KeyFault) → AssetFails filter n (company ++ reference) fault → ⊥
  asset_good key.Length w = let some = (plain_is m.reference (facts m h).small).some in omega (arith, w, some, company_long, length-append company reference)
  asset_good key.Digit w = true≢false (sym w.1 ∙ not_strange (company ++ reference) digits)
  asset_good (key.Tag u) w = no_fault_with m u h (subst (λ (z : Scheme). HasFaultIn z (join_with_byte 46 (components_in m)) u) (sym e) (subst (λ (x : List ℕ). HasFaultIn Giai x u) same w.2))
  asset_good key.Long w = w
  asset_good key.Start w = w
  asset_good key.Scheme w = w
  asset_good (key.Check right) w = w
  asset_good key.Serial w = w

  pub no_asset_fault : (fault : KeyFault) → FailsAfter Giai s filter n (number_in s Giai (components_in m)) fault → ⊥
  no_asset_fault fault w = asset_good fault (subst (λ (x : List (List ℕ)). AssetFails filter n (number_in s Giai x) fault) (asset_texts_are m e) w)

-- ---- GSRNP-96

pub no_service_fault : (s : Spelling) (m : Numbers) (filter n : ℕ) (fault : KeyFault) → IsLawful m → m.scheme ≡ Gsrnp → m.filter ≡ filter → m.company_digits ≡ n → FailsAfter Gsrnp s filter n (number_in s Gsrnp (components_in m)) fault → ⊥
no_service_fault s m filter n fault h e f k w =
    let good : IsLawfulEpc (parts_with Gsrn m 0) = service_lawful_twin m h e in
    let r : List ℕ = reference_text Gsrnp m.company_digits m.reference in
    let c : List ℕ = padded m.company_digits m.company in
    let texts : components_in m ≡ padded 1 m.filter ∷ c ∷ r ∷ [] = rw e refl in
    let written : older_start s Gsrn ++ number_in s Gsrnp (components_in m) ≡ older_start s Gsrn ++ (with_check_digit (key_digits 0 c r) ++ []) =
    ap (λ (x : List (List ℕ)). older_start s Gsrn ++ number_in s Gsrnp x) texts ∙ ap (λ (x : List ℕ). older_start s Gsrn ++ with_check_digit x) (sym (no_lead c r)) ∙ ap (λ (x : List ℕ). older_start s Gsrn ++ x) (sym (append-nil (with_check_digit (key_digits 0 c r)))) in
    let is : IsKeyText s (parts_with Gsrn m 0) (older_start s Gsrn ++ number_in s Gsrnp (components_in m)) = record { form = service_form s; known = service_known s; written = written } in
    no_key_fault s (parts_with Gsrn m 0) filter n _ fault good f k is w

-- ---- SGCN-96

pub no_coupon_fault : (s : Spelling) (m : Numbers) (filter n : ℕ) (fault : KeyFault) → IsLawful m → m.scheme ≡ Sgcn → m.filter ≡ filter → m.company_digits ≡ n → FailsAfter Sgcn s filter n (number_in s Sgcn (components_in m)) fault → ⊥
no_coupon_fault s m filter n fault h e f k w =
    no_key_fault s (parts_with Gdti m m.last) filter n _ fault good f k is (subst (λ (x : List ℕ). HasKeyFault s filter n (older_start s Gdti ++ x) fault) (one_is w.0 w.1) w.2)
  where
    good : IsLawfulEpc (parts_with Gdti m m.last)
    good = coupon_lawful_twin m h e

    r : List ℕ
    r = reference_text Sgcn m.company_digits m.reference

    c : List ℕ
    c = padded m.company_digits m.company

    with_last : List ℕ
    with_last = with_check_digit (c ++ r) ++ (gap s ++ plain m.last)

    written : older_start s Gdti ++ with_last ≡ older_start s Gdti ++ (with_check_digit (key_digits 0 c r) ++ serial_text (document_form s).serial (plain m.last ∷ []))
    written = ap (λ (x : List ℕ). older_start s Gdti ++ (with_check_digit x ++ (gap s ++ plain m.last))) (sym (no_lead c r)) ∙ ap (λ (x : List ℕ). older_start s Gdti ++ (with_check_digit (key_digits 0 c r) ++ x)) (sym (document_text s (plain m.last)))

    is : IsKeyText s (parts_with Gdti m m.last) (older_start s Gdti ++ with_last)
    is = record { form = document_form s; known = document_known s; written = written }

    serial : HasSerial Sgcn m.last
    serial = subst (λ (z : Scheme). HasSerial z m.last) e h.serial

    texts : components_in m ≡ padded 1 m.filter ∷ c ∷ r ∷ drop 1 (plain m.last) ∷ []
    texts = rw e refl

    number : number_in s Sgcn (components_in m) ≡ with_check_digit (c ++ r) ++ (gap s ++ serial.0)
    number = ap (number_in s Sgcn) texts ∙ ap (λ (x : List ℕ). with_check_digit (c ++ r) ++ (gap s ++ drop 1 x)) serial.2

    splits : SplitsCoupon s with_last (with_check_digit (c ++ r)) (plain m.last)
    splits =
        let d = document_read s m.filter m.company_digits (parts_with Gdti m m.last) m with_last (older_start s Gdti ++ with_last) good refl refl is refl e refl in
        let all : padded 1 m.filter ∷ c ∷ r ∷ drop 1 (plain m.last) ∷ [] ≡ padded 1 m.filter ∷ d.company ∷ d.reference ∷ drop 1 (plain m.last) ∷ [] = sym texts ∙ d.parts in
        let first : d.company ≡ c = cc in
        let second : d.reference ≡ r = cc in
        subst (λ (x : List ℕ). SplitsCoupon s with_last (with_check_digit (x ++ r)) (plain m.last)) first (subst (λ (x : List ℕ). SplitsCoupon s with_last (with_check_digit (d.company ++ x)) (plain m.last)) second d.splits)

    number_splits : SplitsCoupon s (number_in s Sgcn (components_in m)) (with_check_digit (c ++ r)) serial.0
    number_splits = record { is = number; count = splits.count; all_digits = splits.all_digits; some = serial.1 }

    one_is : (x : List ℕ) → IsWithOne s (number_in s Sgcn (components_in m)) x → x ≡ with_last
    one_is x (inl a) =
        let p = one_split s _ a.0 a.1 _ _ a.2 number_splits in
        a.3 ∙ ap (λ (d : List ℕ). d ++ (gap s ++ 49 ∷ a.1)) p.0 ∙ ap (λ (y : List ℕ). with_check_digit (c ++ r) ++ (gap s ++ 49 ∷ y)) p.1 ∙ ap (λ (y : List ℕ). with_check_digit (c ++ r) ++ (gap s ++ y)) (sym serial.2)
    one_is x (inr a) = absurd (a.0 _ _ number_splits)

-- ---- CPI-96

module _ (s : Spelling) (m : Numbers) (filter n : ℕ) (h : IsLawful m) (e : m.scheme ≡ Cpi) (f : m.filter ≡ filter) (k : m.company_digits ≡ n) where
  abbrev front : List ℕ
  front = padded m.company_digits m.company ++ plain m.reference

  abbrev rest : List ℕ
  rest = front ++ (serial_mark s ++ plain m.last)

  front_digits : AreDigits front
  front_digits = digits_both _ _ (digits-padded m.company_digits m.company) (digits_of_plain m.reference (facts m h).small)

  front_is : part_front s rest ≡ front
  front_is = front_is_digits s front (plain m.last) front_digits

  prefix_long : length (padded m.company_digits m.company) ≡ n
  prefix_long = length-padded m.company_digits m.company ∙ k

  number : IsNumber (plain m.last)
  number = let p = plain_is m.last (last_small m (facts m h)) in record { digits = p.padded.digits; some = p.some }

  whole : rest ≡ part_front s rest ++ (serial_mark s ++ plain m.last)
  whole = ap (λ (x : List ℕ). x ++ (serial_mark s ++ plain m.last)) (sym front_is)

  same_part : (x : List ℕ) → rest ≡ part_front s rest ++ (serial_mark s ++ x) → x ≡ plain m.last
  same_part x e = append_cancel_left (serial_mark s) x (plain m.last) (append_cancel_left (part_front s rest) _ _ (sym e ∙ whole))

  pieces : (x : List ℕ) → x ≡ plain m.last → join_with_byte 46 (padded 1 filter ∷ take n (part_front s rest) ∷ drop n (part_front s rest) ∷ x ∷ []) ≡ join_with_byte 46 (components_in m)
  pieces x is =
      ap (λ (y : List ℕ). join_with_byte 46 (padded 1 filter ∷ take n y ∷ drop n y ∷ x ∷ [])) front_is ∙ ap (λ (y : ℕ). join_with_byte 46 (padded 1 y ∷ take n front ∷ drop n front ∷ x ∷ [])) (sym f)
      ∙ ap (λ (y : List ℕ). join_with_byte 46 (padded 1 m.filter ∷ y ∷ drop n front ∷ x ∷ [])) (take_at (padded m.company_digits m.company) (plain m.reference) n prefix_long)
      ∙ ap (λ (y : List ℕ). join_with_byte 46 (padded 1 m.filter ∷ padded m.company_digits m.company ∷ y ∷ x ∷ [])) (drop_at (padded m.company_digits m.company) (plain m.reference) n prefix_long)
      ∙ ap (λ (y : List ℕ). join_with_byte 46 (padded 1 m.filter ∷ padded m.company_digits m.company ∷ plain m.reference ∷ y ∷ [])) is ∙ ap (join_with_byte 46) (sym (part_texts_are m e))

  part_good : (fault : KeyFault) → PartFails s filter n rest fault → ⊥
  part_good key.Length w =
      let some = (plain_is m.reference (facts m h).small).some in
      let l : length front ≤ n = subst (λ (x : List ℕ). length x ≤ n) front_is w in
      omega (arith, l, some, prefix_long, length-append (padded m.company_digits m.company) (plain m.reference))
  part_good key.Digit w = true≢false (sym (subst (λ (x : List ℕ). is_strange x ≡ true) front_is w.1) ∙ not_strange front front_digits)
  part_good key.Serial w = w.2 (plain m.last) number whole
  part_good (key.Tag u) w =
      no_fault_with m u h (subst (λ (z : Scheme). HasFaultIn z (join_with_byte 46 (components_in m)) u) (sym e) (subst (λ (x : List ℕ). HasFaultIn Cpi x u) (pieces w.2 (same_part w.2 w.4)) w.5))
  part_good key.Long w = w
  part_good key.Start w = w
  part_good key.Scheme w = w
  part_good (key.Check right) w = w

  pub no_part_fault : (fault : KeyFault) → FailsAfter Cpi s filter n (number_in s Cpi (components_in m)) fault → ⊥
  no_part_fault fault w = part_good fault (subst (λ (x : List (List ℕ)). PartFails s filter n (number_in s Cpi x) fault) (part_texts_are m e) w)

-- ---- all schemes

no_fails : (s : Spelling) (z : Scheme) (m : Numbers) (filter n : ℕ) (fault : KeyFault) → IsLawful m → m.scheme ≡ z → m.filter ≡ filter → m.company_digits ≡ n → FailsAfter z s filter n (number_in s z (components_in m)) fault → ⊥
no_fails s Giai m filter n fault h e f k w = no_asset_fault s m filter n h e f k fault w
no_fails s Gsrnp m filter n fault h e f k w = no_service_fault s m filter n fault h e f k w
no_fails s Sgcn m filter n fault h e f k w = no_coupon_fault s m filter n fault h e f k w
no_fails s Cpi m filter n fault h e f k w = no_part_fault s m filter n h e f k fault w

start_short : (s : Spelling) (z : Scheme) → length (start_in s z) ≤ 24
start_short Element Giai = lit≤ tt
start_short Element Gsrnp = lit≤ tt
start_short Element Sgcn = lit≤ tt
start_short Element Cpi = lit≤ tt
start_short Link Giai = lit≤ tt
start_short Link Gsrnp = lit≤ tt
start_short Link Sgcn = lit≤ tt
start_short Link Cpi = lit≤ tt
start_short Named Giai = lit≤ tt
start_short Named Gsrnp = lit≤ tt
start_short Named Sgcn = lit≤ tt
start_short Named Cpi = lit≤ tt

number_short : (s : Spelling) (z : Scheme) (m : Numbers) → IsLawful m → m.scheme ≡ z → length (number_in s z (components_in m)) ≤ 48
number_short s Giai m h e =
    let a = facts m h in
    let t = ap (λ (x : List (List ℕ)). length (number_in s Giai x)) (asset_texts_are m e) in
    omega (arith, t, length-append (padded m.company_digits m.company) (plain m.reference), length-padded m.company_digits m.company, a.most, plain_short 20 m.reference (omega (arith, a.small)) (omega arith) a.small)
number_short s Gsrnp m h e =
    let a = facts m h in
    let c : List ℕ = padded m.company_digits m.company in
    let r : List ℕ = reference_text Gsrnp m.company_digits m.reference in
    let texts : components_in m ≡ padded 1 m.filter ∷ c ∷ r ∷ [] = rw e refl in
    let t = ap (λ (x : List (List ℕ)). length (number_in s Gsrnp x)) texts in
    let few : length r ≤ 20 = subst (λ (z : Scheme). length (reference_text z m.company_digits m.reference) ≤ 20) e (reference_long m.scheme m.company_digits m.reference a.row a.most a.placed a.small) in
    omega (arith, t, length-with_check (c ++ r), length-append c r, length-padded m.company_digits m.company, a.most, few)
number_short s Sgcn m h e =
    let a = facts m h in
    let c : List ℕ = padded m.company_digits m.company in
    let r : List ℕ = reference_text Sgcn m.company_digits m.reference in
    let texts : components_in m ≡ padded 1 m.filter ∷ c ∷ r ∷ drop 1 (plain m.last) ∷ [] = rw e refl in
    let t = ap (λ (x : List (List ℕ)). length (number_in s Sgcn x)) texts in
    let few : length r ≤ 20 = subst (λ (z : Scheme). length (reference_text z m.company_digits m.reference) ≤ 20) e (reference_long m.scheme m.company_digits m.reference a.row a.most a.placed a.small) in
    let bits : m.last < 2 ^ 41 = subst (λ (x : Scheme). m.last < 2 ^ (layout_in x).last_bits) e a.last_bits in
    omega (
      arith,
      t,
      length-append (with_check_digit (c ++ r)) (gap s ++ drop 1 (plain m.last)),
      length-append (gap s) (drop 1 (plain m.last)),
      gap_short s,
      length-with_check (c ++ r),
      length-append c r,
      length-padded m.company_digits m.company,
      a.most,
      few,
      length-drop 1 (plain m.last),
      plain_short 13 m.last (omega (arith, bits)) (omega arith) (omega (arith, bits)),
    )
number_short s Cpi m h e =
    let a = facts m h in
    let c : List ℕ = padded m.company_digits m.company in
    let t = ap (λ (x : List (List ℕ)). length (number_in s Cpi x)) (part_texts_are m e) in
    let bits : m.last < 2 ^ 31 = subst (λ (x : Scheme). m.last < 2 ^ (layout_in x).last_bits) e a.last_bits in
    omega (
      arith,
      t,
      length-append (c ++ plain m.reference) (serial_mark s ++ plain m.last),
      length-append (serial_mark s) (plain m.last),
      mark_short s,
      length-append c (plain m.reference),
      length-padded m.company_digits m.company,
      a.most,
      plain_short 20 m.reference (omega (arith, a.small)) (omega arith) a.small,
      plain_short 10 m.last (omega (arith, bits)) (omega arith) (omega (arith, bits)),
    )

key_short : (s : Spelling) (m : Numbers) → IsLawful m → length (key_in s m) ≤ 72
key_short s m h =
    let e = ap length (key_in_is s m) in
    omega (arith, e, length-append (start_in s m.scheme) (number_in s m.scheme (components_in m)), start_short s m.scheme, number_short s m.scheme m h refl)

pub no_key_fault_in : (s : Spelling) (m : Numbers) (filter n : ℕ) (fault : KeyFault) → IsLawful m → m.filter ≡ filter → m.company_digits ≡ n → HasKeyFaultIn s filter n (key_in s m) fault → ⊥
no_key_fault_in s m filter n fault h f k (inl w) = let short = key_short s m h in omega (arith, short, w.1)
no_key_fault_in s m filter n fault h f k (inr (inl w)) = w.2 m.scheme _ (record { begins = key_in_is s m })
no_key_fault_in s m filter n fault h f k (inr (inr w)) =
    let p = one_start_in s w.1 m.scheme w.2 _ (sym w.3.begins ∙ key_in_is s m) in
    no_fails s m.scheme m filter n fault h refl f k (subst (λ (x : List ℕ). FailsAfter m.scheme s filter n x fault) p.1 (subst (λ (z : Scheme). FailsAfter z s filter n w.2 fault) p.0 w.4))
