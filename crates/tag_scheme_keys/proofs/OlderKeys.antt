-- The keys of GSRN-96 and GDTI-96, by which those of GSRNP-96 and SGCN-96 are read and written.
use Rattle.std.proofs.Common.{◌≡◌, ℕ, ◌+◌, ◌-◌, ◌^◌, ◌<◌, ◌≤◌, List, [], ◌∷◌, ◌++◌, length, drop, Some, refl, sym, ap, subst, ◌∙◌, arith, inl, inr, length-append}
use Rattle.std.specs.Prelude.{codes}
use Rattle.std.proofs.lemmas.List.{append_assoc, append_cancel_left, append-nil, take_at, drop_at}
use Rattle.tag_epc.specs.declared.kind.Kind.{Kind}
use Rattle.tag_epc.specs.declared.kind.Kind.TheVariants.{Gdti, Gsrn}
use Rattle.tag_epc.specs.declared.epc.Parts.{Parts}
use Rattle.tag_epc.specs.declared.epc.Parts.TheVariants.{Partitioned}
use Rattle.tag_epc.specs.Layout.{row_at, gdti_96, gsrn_96}
use Rattle.tag_epc.specs.LawfulWord.{IsLawfulEpc, kind_of_parts}
use Rattle.tag_uri.specs.Calls.Decimal.{AreDigits}
use Rattle.tag_uri.specs.Decimal.{padded, plain}
use Rattle.tag_uri.specs.TagText.{components_of}
use Rattle.tag_uri.proofs.DecimalLemmas.{plain_short}
use Rattle.tag_uri.proofs.PrintLemmas.{at_row}
use Rattle.tag_uri.proofs.ReadLemmas.{lawful}
use Rattle.tag_schemes.specs.declared.numbers.Numbers.{Numbers}
use Rattle.tag_schemes.specs.declared.scheme.Scheme.{Scheme}
use Rattle.tag_schemes.specs.declared.scheme.Scheme.TheVariants.{Gsrnp, Sgcn}
use Rattle.tag_schemes.specs.Schemes.{layout_in}
use Rattle.tag_schemes.specs.LawfulWord.{IsLawful, HasSerial}
use Rattle.tag_schemes.specs.Private.Coupons.{last_of}
use Rattle.tag_schemes.specs.Texts.{components_in, reference_text}
use Rattle.tag_schemes.proofs.SetFacts.{facts}
use Rattle.tag_schemes.proofs.TextFacts.{coupon_is, service_lawful}
use Rattle.tag_keys.specs.declared.spelling.Spelling.{Spelling}
use Rattle.tag_keys.specs.declared.spelling.Spelling.TheVariants.{Element, Link, Named}
use Rattle.tag_keys.specs.CheckDigit.{with_check_digit}
use Rattle.tag_keys.specs.PureIdentity.{HasFilter}
use Rattle.tag_keys.specs.KeyText.{KeyForm, SerialForm, Absent, Joined, Marked, key_form, key_digits, serial_text, IsKeyText, HasCompanyDigits}
use Rattle.tag_keys.specs.KeyFaults.{AreSerials, IsNumber}
use Rattle.tag_keys.proofs.FormLemmas.{one_start, same_some}
use Rattle.tag_keys.proofs.PieceLemmas.{at_seam, length-with_check}
use Rattle.tag_keys.proofs.KeyLaws.{behind, epc_reads, front_digits}
use Rattle.tag_scheme_keys.specs.KeyText.{gap, number_in}
use Rattle.tag_scheme_keys.specs.KeyFaults.{older_start, SplitsCoupon, IsWithOne}

-- ---- their forms

abbrev pub service_form : Spelling → KeyForm
service_form s = record { start = older_start s Gsrn; lead = 0; digits = 18; serial = Absent }

pub service_known : (s : Spelling) → key_form s Gsrn ≡ Some (service_form s)
service_known Element = refl
service_known Link = refl
service_known Named = refl

abbrev pub document_serial : Spelling → SerialForm
document_serial Element = Joined
document_serial Link = Joined
document_serial Named = Marked (codes " ")

abbrev pub document_form : Spelling → KeyForm
document_form s = record { start = older_start s Gdti; lead = 0; digits = 13; serial = document_serial s }

pub document_known : (s : Spelling) → key_form s Gdti ≡ Some (document_form s)
document_known Element = refl
document_known Link = refl
document_known Named = refl

pub document_text : (s : Spelling) (x : List ℕ) → serial_text (document_serial s) (x ∷ []) ≡ gap s ++ x
document_text Element x = refl
document_text Link x = refl
document_text Named x = refl

one_number : (s : Spelling) (serials : List (List ℕ)) → AreSerials (document_serial s) serials → (x : List ℕ) × (serials ≡ x ∷ []) × IsNumber x
one_number Element serials a = a
one_number Link serials a = a
one_number Named serials a = a

pub no_lead : (c r : List ℕ) → key_digits 0 c r ≡ c ++ r
no_lead c r = ap (λ (x : List ℕ). x ++ (c ++ drop 0 r)) (take_at [] r 0 refl) ∙ ap (λ (x : List ℕ). c ++ x) (drop_at [] r 0 refl)

-- ---- what the text of such a key says

pub record Reading (k : Kind) (g : KeyForm) (filter : ℕ) (epc : Parts) (rest : List ℕ) : Type 0 where
  pub kind : kind_of_parts epc ≡ k
  pub company : List ℕ
  pub reference : List ℕ
  pub serials : List (List ℕ)
  pub parts : components_of epc ≡ padded 1 filter ∷ company ∷ reference ∷ serials
  pub rest_is : rest ≡ with_check_digit (company ++ reference) ++ serial_text g.serial serials
  pub are : AreSerials g.serial serials
  pub whole : length company + length reference + 1 ≡ g.digits
  pub digits : AreDigits (with_check_digit (company ++ reference))

pub reading : (s : Spelling) (k : Kind) (g : KeyForm) (filter n : ℕ) (epc : Parts) (rest text : List ℕ) → key_form s k ≡ Some g → g.lead ≡ 0 → IsLawfulEpc epc → HasFilter filter epc → HasCompanyDigits n epc → IsKeyText s epc text → text ≡ g.start ++ rest → Reading k g filter epc rest
reading s k g filter n epc rest text known lead h f d t is =
    let p = epc_reads s filter n epc text h f d t in
    let kind : kind_of_parts epc ≡ k = one_start s (kind_of_parts epc) k p.reads.form g (behind p.reads.form p.company p.reference p.serials) rest p.reads.known known (sym p.reads.written ∙ is) in
    let form : p.reads.form ≡ g = same_some p.reads.form g (sym p.reads.known ∙ ap (key_form s) kind ∙ known) in
    let there : text ≡ g.start ++ behind g p.company p.reference p.serials = subst (λ (x : KeyForm). text ≡ x.start ++ behind x p.company p.reference p.serials) form p.reads.written in
    let tail : behind g p.company p.reference p.serials ≡ rest = append_cancel_left g.start _ rest (sym there ∙ is) in
    record {
      kind = kind;
      company = p.company;
      reference = p.reference;
      serials = p.serials;
      parts = p.is;
      rest_is = sym tail ∙ ap (λ (x : ℕ). with_check_digit (key_digits x p.company p.reference) ++ serial_text g.serial p.serials) lead ∙ ap (λ (x : List ℕ). with_check_digit x ++ serial_text g.serial p.serials) (no_lead p.company p.reference);
      are = subst (λ (x : KeyForm). AreSerials x.serial p.serials) form p.reads.serial;
      whole = p.reads.whole ∙ ap (λ (x : KeyForm). x.digits) form;
      digits = subst (λ (x : List ℕ). AreDigits (with_check_digit x)) (no_lead p.company p.reference) (front_digits 0 p.company p.reference p.reads.company_digits p.reads.reference_digits);
    }

-- ---- numbers by parts

abbrev made : Scheme → ℕ → ℕ → ℕ → ℕ → ℕ → Numbers
made s f k c t n = record { scheme = s; filter = f; company_digits = k; company = c; reference = t; last = n }

made_is : (m : Numbers) (s : Scheme) (n : ℕ) → m.scheme ≡ s → m.last ≡ n → made s m.filter m.company_digits m.company m.reference n ≡ m
made_is m s n a b = rw (← a, ← b) refl

-- the parts with the numbers of an EPC
abbrev pub parts_with : Kind → Numbers → ℕ → Parts
parts_with k m n = Partitioned k m.filter m.company_digits m.company m.reference n

-- what is asked of the EPC of a key holds
pub record AskedIn (scheme : Scheme) (s : Spelling) (filter n : ℕ) (m : Numbers) (rest : List ℕ) : Type 0 where
  pub is_lawful : IsLawful m
  pub text : rest ≡ number_in s scheme (components_in m)
  pub filter_is : m.filter ≡ filter
  pub digits_are : m.company_digits ≡ n

-- ---- GSRNP-96

pub service_lawful_twin : (m : Numbers) → IsLawful m → m.scheme ≡ Gsrnp → IsLawfulEpc (parts_with Gsrn m 0)
service_lawful_twin m h e =
    let a = facts m h in
    let placed : row_at (layout_in Gsrnp) (12 - m.company_digits) ≡ Some a.row = subst (λ (s : Scheme). row_at (layout_in s) (12 - m.company_digits) ≡ Some a.row) e a.placed in
    lawful Gsrn gsrn_96 m.filter m.company_digits a.row.reference_digits m.company m.reference 0 refl refl (record { row = a.row; short = a.most; placed = placed; digits = refl }) a.filter a.company a.reference (record { zero = λ e. refl; bits = λ e. cc })

service_parts_are : (m : Numbers) (n : ℕ) → m.scheme ≡ Gsrnp → components_in m ≡ components_of (parts_with Gsrn m n)
service_parts_are m n e = rw e refl

-- what follows the start is the number of the key
service_text_is : (s : Spelling) (filter n : ℕ) (epc : Parts) (m : Numbers) (rest : List ℕ) → Reading Gsrn (service_form s) filter epc rest → m.scheme ≡ Gsrnp → epc ≡ parts_with Gsrn m n → rest ≡ number_in s Gsrnp (components_in m)
service_text_is s filter n epc m rest r scheme here =
    let none : r.serials ≡ [] = r.are in
    let same : components_in m ≡ padded 1 filter ∷ r.company ∷ r.reference ∷ [] =
    service_parts_are m n scheme ∙ ap components_of (sym here) ∙ r.parts ∙ ap (λ (x : List (List ℕ)). padded 1 filter ∷ r.company ∷ r.reference ∷ x) none in
    r.rest_is ∙ ap (λ (x : List (List ℕ)). with_check_digit (r.company ++ r.reference) ++ serial_text Absent x) none ∙ append-nil (with_check_digit (r.company ++ r.reference)) ∙ ap (number_in s Gsrnp) (sym same)

pub service_read : (s : Spelling) (filter n : ℕ) (epc : Parts) (m : Numbers) (rest text : List ℕ) → IsLawfulEpc epc → HasFilter filter epc → HasCompanyDigits n epc → IsKeyText s epc text → text ≡ older_start s Gsrn ++ rest → m.scheme ≡ Gsrnp
    → epc ≡ parts_with (kind_of_parts epc) m m.last → AskedIn Gsrnp s filter n m rest
service_read s filter n epc m rest text h f d t is scheme parts =
    let r = reading s Gsrn (service_form s) filter n epc rest text (service_known s) refl h f d t is in
    let here : epc ≡ parts_with Gsrn m m.last = parts ∙ ap (λ (k : Kind). parts_with k m m.last) r.kind in
    let good : IsLawfulEpc (parts_with Gsrn m m.last) = subst (λ (x : Parts). IsLawfulEpc x) here h in
    let last : m.last ≡ 0 = (at_row Gsrn gsrn_96 m.filter m.company_digits m.company m.reference m.last refl refl good).last_fits.zero refl in
    record {
      is_lawful = subst (λ (x : Numbers). IsLawful x) (made_is m Gsrnp 0 scheme last) (service_lawful m.filter m.company_digits m.company m.reference m.last good);
      text = service_text_is s filter m.last epc m rest r scheme here;
      filter_is = subst (λ (x : Parts). HasFilter filter x) here f;
      digits_are = subst (λ (x : Parts). HasCompanyDigits n x) here d;
    }

-- what follows the start of the key that is written
pub service_written : (s : Spelling) (epc : Parts) (m : Numbers) (rest key text : List ℕ) → IsLawful m → m.scheme ≡ Gsrnp → epc ≡ parts_with Gsrn m 0 → IsKeyText s epc key → text ≡ key → text ≡ older_start s Gsrn ++ rest → (rest ≡ number_in s Gsrnp (components_in m)) × (length rest ≤ 18)
service_written s epc m rest key text h scheme parts t same is =
    let good : IsLawfulEpc (parts_with Gsrn m 0) = service_lawful_twin m h scheme in
    let r = reading s Gsrn (service_form s) m.filter m.company_digits (parts_with Gsrn m 0) rest key (service_known s) refl good refl refl (subst (λ (p : Parts). IsKeyText s p key) parts t) (sym same ∙ is) in
    let none : r.serials ≡ [] = r.are in
    let whole : rest ≡ with_check_digit (r.company ++ r.reference) ++ serial_text Absent [] = r.rest_is ∙ ap (λ (x : List (List ℕ)). with_check_digit (r.company ++ r.reference) ++ serial_text Absent x) none in
    let long = ap length whole in (
      service_text_is s m.filter 0 (parts_with Gsrn m 0) m rest r scheme refl,
      omega (arith, long, length-append (with_check_digit (r.company ++ r.reference)) [], length-with_check (r.company ++ r.reference), length-append r.company r.reference, r.whole),
    )

-- ---- SGCN-96

pub coupon_lawful_twin : (m : Numbers) → IsLawful m → m.scheme ≡ Sgcn → IsLawfulEpc (parts_with Gdti m m.last)
coupon_lawful_twin m h e =
    let a = facts m h in
    let placed : row_at (layout_in Sgcn) (12 - m.company_digits) ≡ Some a.row = subst (λ (s : Scheme). row_at (layout_in s) (12 - m.company_digits) ≡ Some a.row) e a.placed in
    let bits : m.last < 2 ^ 41 = subst (λ (s : Scheme). m.last < 2 ^ (layout_in s).last_bits) e a.last_bits in
    lawful Gdti gdti_96 m.filter m.company_digits a.row.reference_digits m.company m.reference m.last refl refl (record { row = a.row; short = a.most; placed = placed; digits = refl }) a.filter a.company a.reference (record { zero = λ e. cc; bits = λ e. bits })

-- a text splits in one way at most
pub one_split : (s : Spelling) (rest d x e y : List ℕ) → SplitsCoupon s rest d x → SplitsCoupon s rest e y → (d ≡ e) × (x ≡ y)
one_split s rest d x e y a b =
    let seam = at_seam d e (gap s ++ x) (gap s ++ y) (sym a.is ∙ b.is) (a.count ∙ sym b.count) in
    (seam.0, append_cancel_left (gap s) x y seam.1)

-- the key of a GDTI-96 splits, before its serial number
pub record Document (s : Spelling) (filter : ℕ) (epc : Parts) (m : Numbers) (rest : List ℕ) : Type 0 where
  pub is_parts : epc ≡ parts_with Gdti m m.last
  pub company : List ℕ
  pub reference : List ℕ
  pub splits : SplitsCoupon s rest (with_check_digit (company ++ reference)) (plain m.last)
  pub parts : components_in m ≡ padded 1 filter ∷ company ∷ reference ∷ drop 1 (plain m.last) ∷ []

abbrev coupon_texts : Numbers → List (List ℕ)
coupon_texts m = padded 1 m.filter ∷ padded m.company_digits m.company ∷ reference_text Sgcn m.company_digits m.reference ∷ drop 1 (plain m.last) ∷ []

coupon_texts_are : (m : Numbers) → m.scheme ≡ Sgcn → components_in m ≡ coupon_texts m
coupon_texts_are m e = rw e refl

pub document_read : (s : Spelling) (filter n : ℕ) (epc : Parts) (m : Numbers) (rest text : List ℕ) → IsLawfulEpc epc → HasFilter filter epc → HasCompanyDigits n epc → IsKeyText s epc text → text ≡ older_start s Gdti ++ rest → m.scheme ≡ Sgcn
    → epc ≡ parts_with (kind_of_parts epc) m m.last → Document s filter epc m rest
document_read s filter n epc m rest text h f d t is scheme parts =
    let r = reading s Gdti (document_form s) filter n epc rest text (document_known s) refl h f d t is in
    let here : epc ≡ parts_with Gdti m m.last = parts ∙ ap (λ (k : Kind). parts_with k m m.last) r.kind in
    let one = one_number s r.serials r.are in
    let all : components_of (parts_with Gdti m m.last) ≡ padded 1 filter ∷ r.company ∷ r.reference ∷ one.0 ∷ [] =
    ap components_of (sym here) ∙ r.parts ∙ ap (λ (x : List (List ℕ)). padded 1 filter ∷ r.company ∷ r.reference ∷ x) one.1 in
    let last : plain m.last ≡ one.0 = cc in
    let texts : coupon_texts m ≡ padded 1 filter ∷ r.company ∷ r.reference ∷ drop 1 (plain m.last) ∷ [] = cc in
    record {
      is_parts = here;
      company = r.company;
      reference = r.reference;
      splits = record {
        is = r.rest_is ∙ ap (λ (x : List (List ℕ)). with_check_digit (r.company ++ r.reference) ++ serial_text (document_serial s) x) (one.1 ∙ ap (λ (x : List ℕ). x ∷ []) (sym last)) ∙ ap (λ (x : List ℕ). with_check_digit (r.company ++ r.reference) ++ x) (document_text s (plain m.last));
        count = length-with_check (r.company ++ r.reference) ∙ omega (arith, length-append r.company r.reference, r.whole);
        all_digits = r.digits;
        some = subst (λ (x : List ℕ). 0 < length x) (sym last) one.2.some;
      };
      parts = coupon_texts_are m scheme ∙ texts;
    }

-- the numbers of the SGCN-96 whose key, with a 1 put in, is that of a GDTI-96
pub coupon_read : (s : Spelling) (filter n : ℕ) (epc : Parts) (m : Numbers) (rest with_one text : List ℕ) → IsLawfulEpc epc → HasFilter filter epc → HasCompanyDigits n epc → IsKeyText s epc text → text ≡ older_start s Gdti ++ with_one → IsWithOne s rest with_one → m.scheme ≡ Sgcn
    → epc ≡ parts_with (kind_of_parts epc) m m.last → AskedIn Sgcn s filter n m rest
coupon_read s filter n epc m rest with_one text h f d t is one scheme parts = by_case one
  where
    w : Document s filter epc m with_one
    w = document_read s filter n epc m with_one text h f d t is scheme parts

    by_case : IsWithOne s rest with_one → AskedIn Sgcn s filter n m rest
    by_case (inr a) = absurd (a.0 _ _ (subst (λ (x : List ℕ). SplitsCoupon s x (with_check_digit (w.company ++ w.reference)) (plain m.last)) a.1 w.splits))
    by_case (inl a) =
        let there : SplitsCoupon s with_one a.0 (49 ∷ a.1) = record { is = a.3; count = a.2.count; all_digits = a.2.all_digits; some = omega arith } in
        let same = one_split s with_one _ _ a.0 (49 ∷ a.1) w.splits there in
        let serial : HasSerial Sgcn m.last = (a.1, a.2.some, same.1) in
        let good : IsLawful (made Sgcn m.filter m.company_digits m.company m.reference m.last) = coupon_is epc Gdti m.filter m.company_digits m.company m.reference m.last w.is_parts (ap kind_of_parts w.is_parts) (subst (λ (p : Parts). HasSerial Sgcn (last_of p)) (sym w.is_parts) serial) h in
        record {
          is_lawful = subst (λ (x : Numbers). IsLawful x) (made_is m Sgcn m.last scheme refl) good;
          text = a.2.is ∙ ap (λ (x : List ℕ). x ++ (gap s ++ a.1)) (sym same.0) ∙ ap (λ (x : List ℕ). with_check_digit (w.company ++ w.reference) ++ (gap s ++ drop 1 x)) (sym same.1) ∙ ap (number_in s Sgcn) (sym w.parts);
          filter_is = subst (λ (x : Parts). HasFilter filter x) w.is_parts f;
          digits_are = subst (λ (x : Parts). HasCompanyDigits n x) w.is_parts d;
        }

-- ---- texts that are put together

pub two_pieces : (t t0 t1 t2 start front rest : List ℕ) → t ≡ t2 → t0 ≡ [] → t1 ≡ t0 ++ start → t2 ≡ t1 ++ rest → start ≡ front → t ≡ front ++ rest
two_pieces t t0 t1 t2 start front rest e e0 e1 e2 is = rw (e, e2, e1, e0, is) refl

-- ---- SGCN-96, written

pub record CouponKey (s : Spelling) (m : Numbers) (rest digits last : List ℕ) : Type 0 where
  pub serial : List ℕ
  pub last_is : last ≡ 49 ∷ serial
  pub short : length serial ≤ 12
  pub count : length digits ≡ 13
  pub number : number_in s Sgcn (components_in m) ≡ digits ++ (gap s ++ serial)

pub document_written : (s : Spelling) (epc : Parts) (m : Numbers) (rest key text : List ℕ) → IsLawful m → m.scheme ≡ Sgcn → epc ≡ parts_with Gdti m m.last → IsKeyText s epc key → text ≡ key → text ≡ older_start s Gdti ++ rest → Document s m.filter (parts_with Gdti m m.last) m rest
document_written s epc m rest key text h scheme parts t same is =
    document_read s m.filter m.company_digits (parts_with Gdti m m.last) m rest key (coupon_lawful_twin m h scheme) refl refl (subst (λ (p : Parts). IsKeyText s p key) parts t) (sym same ∙ is) scheme refl

pub coupon_written : (s : Spelling) (epc : Parts) (m : Numbers) (rest digits last : List ℕ) → IsLawful m → m.scheme ≡ Sgcn → Document s m.filter epc m rest → SplitsCoupon s rest digits last → CouponKey s m rest digits last
coupon_written s epc m rest digits last h scheme w split =
    let serial : HasSerial Sgcn m.last = subst (λ (x : Scheme). HasSerial x m.last) scheme h.serial in
    let same = one_split s rest digits last _ _ split w.splits in
    let bits : m.last < 2 ^ 41 = subst (λ (x : Scheme). m.last < 2 ^ (layout_in x).last_bits) scheme (facts m h).last_bits in
    let few = plain_short 13 m.last (omega (arith, bits)) (omega arith) (omega (arith, bits)) in
    let long = ap length serial.2 in
    record {
      serial = serial.0;
      last_is = same.1 ∙ serial.2;
      short = omega (arith, few, long);
      count = split.count;
      number = ap (number_in s Sgcn) w.parts ∙ ap (λ (x : List ℕ). with_check_digit (w.company ++ w.reference) ++ (gap s ++ drop 1 x)) serial.2 ∙ ap (λ (x : List ℕ). x ++ (gap s ++ serial.0)) (sym same.0);
    }

pub gap_short : (s : Spelling) → length (gap s) ≤ 1
gap_short Element = omega arith
gap_short Link = omega arith
gap_short Named = omega arith

pub coupon_made : (t t1 t2 t3 digits g x : List ℕ) → t1 ≡ t ++ digits → t2 ≡ t1 ++ g → t3 ≡ t2 ++ x → t3 ≡ t ++ (digits ++ (g ++ x))
coupon_made t t1 t2 t3 digits g x e1 e2 e3 = rw (e3, e2, e1) (simp append_assoc refl)
