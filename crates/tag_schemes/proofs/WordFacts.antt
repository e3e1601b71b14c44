-- The fields of words.
use Rattle.std.proofs.Common.{◌≡◌, ℕ, ◌+◌, ◌-◌, ◌^◌, ◌<◌, Bool, List, [], ◌++◌, length, take, drop, Option, Some, refl, sym, ap, subst, ◌∙◌, arith, length-append}
use Rattle.std.proofs.lemmas.List.{append_assoc, append-nil, take-append-drop, drop-drop}
use Rattle.tag_bits.specs.Digits.{digits, word_digits, field}
use Rattle.tag_bits.proofs.DigitLemmas.{length-digits, digits-injective, take-seam, drop-seam}
use Rattle.tag_epc.specs.declared.scheme.Row.{Row}
use Rattle.tag_epc.specs.Layout.{Layout, row_at, last_segment}
use Rattle.tag_epc.proofs.DigitMoves.{none}
use Rattle.tag_epc.specs.LawfulWord.{Field, Fits, AllFit, fields_digits}
use Rattle.tag_schemes.specs.declared.numbers.Numbers.{Numbers}
use Rattle.tag_schemes.specs.declared.scheme.Scheme.{Scheme}
use Rattle.tag_schemes.specs.declared.scheme.Scheme.TheVariants.{Giai, Gsrnp, Sgcn, Cpi}
use Rattle.tag_schemes.specs.Schemes.{layout_in}
use Rattle.tag_schemes.specs.LawfulWord.{IsLawful, HasSerial, HasWord}
use Rattle.tag_schemes.specs.Private.LastSegments.{IsLastIn}
use Rattle.tag_schemes.proofs.RowFacts.{Fills, fills}

-- the digits of a word by its six segments
abbrev pub spelled_by : Layout → Row → ℕ → ℕ → ℕ → ℕ → ℕ → List Bool
spelled_by l r f p c t n = digits 8 l.header ++ (digits 3 f ++ (digits 3 p ++ (digits r.company_bits c ++ (digits r.reference_bits t ++ (digits l.last_bits n ++ [])))))

-- digits in front of others, after some
pub field-seam : (xs ys zs : List Bool) (p w : ℕ) → length xs ≡ p → length ys ≡ w → field (xs ++ (ys ++ zs)) p w ≡ ys
field-seam xs ys zs p w e h = ap (λ (ds : List Bool). take w ds) (drop-seam p xs (ys ++ zs) e) ∙ take-seam w ys zs h

-- a field and what follows it
pub field-cut : (ds : List Bool) (p w : ℕ) → drop p ds ≡ field ds p w ++ drop (p + w) ds
field-cut ds p w = sym (take-append-drop w (drop p ds)) ∙ ap (λ (x : List Bool). field ds p w ++ x) (drop-drop w p ds)

-- nothing is left after all digits
drop-all : (ds : List Bool) (n : ℕ) → length ds ≡ n → drop n ds ≡ []
drop-all ds n e = ap (λ (x : List Bool). drop n x) (sym (append-nil ds)) ∙ drop-seam n ds [] e

pub word_length : (w : ℕ) → length (word_digits w) ≡ 96
unfolding word_digits
word_length w = length-digits 96 w

-- a word that is read field by field
pub read_whole : (l : Layout) (r : Row) (f p c t n h : ℕ) (ds : List Bool) → length ds ≡ 96 → Fills l p r → h ≡ l.header
    → digits 8 h ≡ field ds 0 8 → digits 3 f ≡ field ds 8 3 → digits 3 p ≡ field ds 11 3 → digits r.company_bits c ≡ field ds 14 r.company_bits
    → digits r.reference_bits t ≡ field ds (14 + r.company_bits) r.reference_bits → digits l.last_bits n ≡ field ds (14 + r.company_bits + r.reference_bits) l.last_bits
    → ds ≡ spelled_by l r f p c t n
read_whole l r f p c t n h ds all fit same e0 e1 e2 e3 e4 e5 =
    let end : drop (14 + r.company_bits + r.reference_bits + l.last_bits) ds ≡ [] = drop-all ds _ (all ∙ sym fit.fills) in
    let a5 : drop (14 + r.company_bits + r.reference_bits) ds ≡ digits l.last_bits n ++ [] = field-cut ds (14 + r.company_bits + r.reference_bits) l.last_bits ∙ ap (λ (x : List Bool). x ++ drop (14 + r.company_bits + r.reference_bits + l.last_bits) ds) (sym e5) ∙ ap (λ (x : List Bool). digits l.last_bits n ++ x) end in
    let a4 : drop (14 + r.company_bits) ds ≡ digits r.reference_bits t ++ (digits l.last_bits n ++ []) = field-cut ds (14 + r.company_bits) r.reference_bits ∙ ap (λ (x : List Bool). x ++ drop (14 + r.company_bits + r.reference_bits) ds) (sym e4) ∙ ap (λ (x : List Bool). digits r.reference_bits t ++ x) a5 in
    let a3 : drop 14 ds ≡ digits r.company_bits c ++ (digits r.reference_bits t ++ (digits l.last_bits n ++ [])) = field-cut ds 14 r.company_bits ∙ ap (λ (x : List Bool). x ++ drop (14 + r.company_bits) ds) (sym e3) ∙ ap (λ (x : List Bool). digits r.company_bits c ++ x) a4 in
    let a2 : drop 11 ds ≡ digits 3 p ++ (digits r.company_bits c ++ (digits r.reference_bits t ++ (digits l.last_bits n ++ []))) = field-cut ds 11 3 ∙ ap (λ (x : List Bool). x ++ drop 14 ds) (sym e2) ∙ ap (λ (x : List Bool). digits 3 p ++ x) a3 in
    let a1 : drop 8 ds ≡ digits 3 f ++ (digits 3 p ++ (digits r.company_bits c ++ (digits r.reference_bits t ++ (digits l.last_bits n ++ [])))) = field-cut ds 8 3 ∙ ap (λ (x : List Bool). x ++ drop 11 ds) (sym e1) ∙ ap (λ (x : List Bool). digits 3 f ++ x) a2 in
    field-cut ds 0 8 ∙ ap (λ (x : List Bool). x ++ drop 8 ds) (sym e0) ∙ ap (λ (x : ℕ). digits 8 x ++ drop 8 ds) same ∙ ap (λ (x : List Bool). digits 8 l.header ++ x) a1

-- ---- what a lawful EPC's word says

-- the row of an EPC and its numbers in it
pub record Told (m : Numbers) (ds : List Bool) : Type 0 where
  pub row : Row
  pub partition : ℕ
  pub placed : row_at (layout_in m.scheme) partition ≡ Some row
  pub counted : partition + m.company_digits ≡ 12
  pub spelled : ds ≡ spelled_by (layout_in m.scheme) row m.filter partition m.company m.reference m.last
  pub filter : m.filter < 2 ^ 3
  pub company_bits : m.company < 2 ^ row.company_bits
  pub company : m.company < 10 ^ row.company_digits
  pub reference_bits : m.reference < 2 ^ row.reference_bits
  pub reference : m.reference < 10 ^ row.reference_digits
  pub last_bits : m.last < 2 ^ (layout_in m.scheme).last_bits
  pub last : IsLastIn m.scheme m.last
  pub fills : Fills (layout_in m.scheme) partition row

-- a last segment that fits
pub last_in : (s : Scheme) (n : ℕ) → Fits (record { segment = last_segment (layout_in s); number = n }) → HasSerial s n → IsLastIn s n
last_in Giai n h serial = let b : n < 10 ^ 0 = h.decimals in omega arith
last_in Gsrnp n h serial = let b : n < 10 ^ 0 = h.decimals in omega arith
last_in Sgcn n h serial = serial
last_in Cpi n h serial = tt

pub told : (m : Numbers) (w : ℕ) → HasWord m w → Told m (word_digits w)
told m w h =
    let a = h.lawful in
    let all = subst (λ (fs : List Field). AllFit fs) a.has.filled a.fit in
    record {
      row = a.has.row;
      partition = a.has.partition;
      placed = a.has.placed;
      counted = a.has.counted;
      spelled = h.spelled ∙ ap fields_digits a.has.filled;
      filter = all.1.0.bits;
      company_bits = all.1.1.1.0.bits;
      company = all.1.1.1.0.decimals;
      reference_bits = all.1.1.1.1.0.bits;
      reference = all.1.1.1.1.0.decimals;
      last_bits = all.1.1.1.1.1.0.bits;
      last = last_in m.scheme m.last all.1.1.1.1.1.0 a.serial;
      fills = fills m.scheme a.has.partition a.has.row a.has.placed;
    }

-- a field of a list of digits has the number that it spells
same_number : (ds xs zs : List Bool) (p w a b : ℕ) → ds ≡ xs ++ (digits w b ++ zs) → length xs ≡ p → a < 2 ^ w → b < 2 ^ w → digits w a ≡ field ds p w → a ≡ b
same_number ds xs zs p w a b e at low below is =
    digits-injective w a b low below (is ∙ ap (λ (x : List Bool). field x p w) e ∙ field-seam xs (digits w b) zs p w at (length-digits w b))

-- the header of each scheme has eight bits
pub header_below : (s : Scheme) → (layout_in s).header < 2 ^ 8
header_below Giai = omega arith
header_below Gsrnp = omega arith
header_below Sgcn = omega arith
header_below Cpi = omega arith

pub same_header : (m : Numbers) (ds : List Bool) (h : ℕ) → Told m ds → h < 2 ^ 8 → digits 8 h ≡ field ds 0 8 → h ≡ (layout_in m.scheme).header
same_header m ds h t low is = same_number ds [] _ 0 8 h (layout_in m.scheme).header t.spelled refl low (header_below m.scheme) is

pub same_filter : (m : Numbers) (ds : List Bool) (f : ℕ) → Told m ds → f < 2 ^ 3 → digits 3 f ≡ field ds 8 3 → f ≡ m.filter
same_filter m ds f t low is = same_number ds (digits 8 (layout_in m.scheme).header) _ 8 3 f m.filter t.spelled (length-digits 8 _) low t.filter is

module _ (m : Numbers) (ds : List Bool) (t : Told m ds) where
  abbrev head8 : List Bool
  head8 = digits 8 (layout_in m.scheme).header

  abbrev head11 : List Bool
  head11 = head8 ++ digits 3 m.filter

  abbrev head14 : List Bool
  head14 = head11 ++ digits 3 t.partition

  abbrev head_company : List Bool
  head_company = head14 ++ digits t.row.company_bits m.company

  length11 : length head11 ≡ 11
  length11 = length-append head8 (digits 3 m.filter) ∙ omega (arith, length-digits 8 (layout_in m.scheme).header, length-digits 3 m.filter)

  length14 : length head14 ≡ 14
  length14 = length-append head11 (digits 3 t.partition) ∙ omega (arith, length11, length-digits 3 t.partition)

  length_company : length head_company ≡ 14 + t.row.company_bits
  length_company = length-append head14 (digits t.row.company_bits m.company) ∙ omega (arith, length14, length-digits t.row.company_bits m.company)

  abbrev after_company : List Bool
  after_company = digits t.row.reference_bits m.reference ++ (digits (layout_in m.scheme).last_bits m.last ++ [])

  spelled11 : ds ≡ head11 ++ (digits 3 t.partition ++ (digits t.row.company_bits m.company ++ after_company))
  spelled11 = t.spelled ∙ sym (append_assoc head8 (digits 3 m.filter) _)

  spelled14 : ds ≡ head14 ++ (digits t.row.company_bits m.company ++ after_company)
  spelled14 = spelled11 ∙ sym (append_assoc head11 (digits 3 t.partition) _)

  spelled_company : ds ≡ head_company ++ after_company
  spelled_company = spelled14 ∙ sym (append_assoc head14 (digits t.row.company_bits m.company) _)

  spelled_last : ds ≡ (head_company ++ digits t.row.reference_bits m.reference) ++ (digits (layout_in m.scheme).last_bits m.last ++ [])
  spelled_last = spelled_company ∙ sym (append_assoc head_company (digits t.row.reference_bits m.reference) _)

  pub same_partition : (p : ℕ) → p < 2 ^ 3 → digits 3 p ≡ field ds 11 3 → p ≡ t.partition
  same_partition p low is = same_number ds head11 _ 11 3 p t.partition spelled11 length11 low (omega (arith, t.fills.partition)) is

  pub same_company : (c : ℕ) → c < 2 ^ t.row.company_bits → digits t.row.company_bits c ≡ field ds 14 t.row.company_bits → c ≡ m.company
  same_company c low is = same_number ds head14 _ 14 t.row.company_bits c m.company spelled14 length14 low t.company_bits is

  pub same_reference : (x : ℕ) → x < 2 ^ t.row.reference_bits → digits t.row.reference_bits x ≡ field ds (14 + t.row.company_bits) t.row.reference_bits → x ≡ m.reference
  same_reference x low is = same_number ds head_company _ (14 + t.row.company_bits) t.row.reference_bits x m.reference spelled_company length_company low t.reference_bits is

  pub same_last : (x : ℕ) → x < 2 ^ (layout_in m.scheme).last_bits → digits (layout_in m.scheme).last_bits x ≡ field ds (14 + t.row.company_bits + t.row.reference_bits) (layout_in m.scheme).last_bits → x ≡ m.last
  same_last x low is =
      same_number ds (head_company ++ digits t.row.reference_bits m.reference) [] (14 + t.row.company_bits + t.row.reference_bits) (layout_in m.scheme).last_bits x m.last spelled_last
      (length-append head_company (digits t.row.reference_bits m.reference) ∙ omega (arith, length_company, length-digits t.row.reference_bits m.reference)) low t.last_bits is

-- ---- words that are made and read

-- six segments written one after another
pub written : (l : Layout) (r : Row) (f p c t n h lb x1 x2 x3 x4 x5 x6 w : ℕ) → h ≡ l.header → lb ≡ l.last_bits → Fills l p r
    → digits 8 x1 ≡ digits 0 0 ++ digits 8 h → digits 11 x2 ≡ digits 8 x1 ++ digits 3 f → digits 14 x3 ≡ digits 11 x2 ++ digits 3 p
    → digits (14 + r.company_bits) x4 ≡ digits 14 x3 ++ digits r.company_bits c → digits (14 + r.company_bits + r.reference_bits) x5 ≡ digits (14 + r.company_bits) x4 ++ digits r.reference_bits t
    → digits (14 + r.company_bits + r.reference_bits + lb) x6 ≡ digits (14 + r.company_bits + r.reference_bits) x5 ++ digits lb n → w ≡ x6
    → word_digits w ≡ spelled_by l r f p c t n
unfolding word_digits
written l r f p c t n h lb x1 x2 x3 x4 x5 x6 w head bits fit e1 e2 e3 e4 e5 e6 same =
    let all : 14 + r.company_bits + r.reference_bits + lb ≡ 96 = omega (arith, fit.fills, bits) in
    ap (λ (x : ℕ). digits 96 x) same ∙ ap (λ (k : ℕ). digits k x6) (sym all)
    ∙ rw (e6, e5, e4, e3, e2, e1, none, head, bits) (simp (append_assoc, append-nil) refl)

same_row : (a b : Row) → Some a ≡ Some b → a ≡ b
same_row a b e = cc

-- the word of an EPC's segments is its word
pub word_made : (m : Numbers) (a : IsLawful m) (r : Row) (w : ℕ) → row_at (layout_in m.scheme) (12 - m.company_digits) ≡ Some r
    → word_digits w ≡ spelled_by (layout_in m.scheme) r m.filter (12 - m.company_digits) m.company m.reference m.last → HasWord m w
word_made m a r w found s =
    let place : 12 - m.company_digits ≡ a.has.partition = omega (arith, a.has.counted) in
    let row : r ≡ a.has.row = same_row r a.has.row (sym found ∙ ap (λ (p : ℕ). row_at (layout_in m.scheme) p) place ∙ a.has.placed) in
    record {
      lawful = a;
      spelled = s ∙ ap (λ (x : Row). spelled_by (layout_in m.scheme) x m.filter (12 - m.company_digits) m.company m.reference m.last) row
          ∙ ap (λ (p : ℕ). spelled_by (layout_in m.scheme) a.has.row m.filter p m.company m.reference m.last) place ∙ sym (ap fields_digits a.has.filled);
    }

-- a last segment that fits, and its serial number
last_fits : (s : Scheme) (n : ℕ) → n < 2 ^ (layout_in s).last_bits → IsLastIn s n → Fits (record { segment = last_segment (layout_in s); number = n })
last_fits Giai n bits h = record { bits = bits; decimals = omega (arith, h) }
last_fits Gsrnp n bits h = record { bits = bits; decimals = omega (arith, h) }
last_fits Sgcn n bits h = record { bits = bits; decimals = tt }
last_fits Cpi n bits h = record { bits = bits; decimals = tt }

serial_of : (s : Scheme) (n : ℕ) → IsLastIn s n → HasSerial s n
serial_of Giai n h = tt
serial_of Gsrnp n h = tt
serial_of Sgcn n h = h
serial_of Cpi n h = tt

-- numbers in a row that fit are an EPC's
pub in_row : (s : Scheme) (f k c t n p : ℕ) (r : Row) → row_at (layout_in s) p ≡ Some r → k ≡ r.company_digits → f < 2 ^ 3 → c < 2 ^ r.company_bits → c < 10 ^ r.company_digits → t < 2 ^ r.reference_bits → t < 10 ^ r.reference_digits
    → n < 2 ^ (layout_in s).last_bits → IsLastIn s n → IsLawful (record { scheme = s; filter = f; company_digits = k; company = c; reference = t; last = n })
in_row s f k c t n p r placed digits_are filter company_bits company reference_bits reference last_bits last =
    let fit = fills s p r placed in
    record {
      fields = _;
      has = record { row = r; partition = p; placed = placed; counted = omega (arith, fit.digits, digits_are); filled = refl };
      fit = (
        record { bits = header_below s; decimals = tt },
        (
          record { bits = filter; decimals = tt },
          (
            record { bits = omega (arith, fit.partition); decimals = tt },
            (record { bits = company_bits; decimals = company }, (record { bits = reference_bits; decimals = reference }, (last_fits s n last_bits last, tt))),
          ),
        ),
      );
      serial = serial_of s n last;
    }

-- numbers that are read are the word's
pub read_is : (s : Scheme) (f k c t n p : ℕ) (r : Row) (w : ℕ) → row_at (layout_in s) p ≡ Some r → k ≡ r.company_digits → f < 2 ^ 3 → c < 2 ^ r.company_bits → c < 10 ^ r.company_digits → t < 2 ^ r.reference_bits → t < 10 ^ r.reference_digits
    → n < 2 ^ (layout_in s).last_bits → IsLastIn s n → word_digits w ≡ spelled_by (layout_in s) r f p c t n → HasWord (record { scheme = s; filter = f; company_digits = k; company = c; reference = t; last = n }) w
unfolding in_row
read_is s f k c t n p r w placed digits_are filter company_bits company reference_bits reference last_bits last spelled =
    record { lawful = in_row s f k c t n p r placed digits_are filter company_bits company reference_bits reference last_bits last; spelled = spelled }

-- a scheme has one header
pub one_scheme : (s t : Scheme) → (layout_in s).header ≡ (layout_in t).header → s ≡ t
one_scheme Giai Giai e = refl
one_scheme Giai Gsrnp e = absurd (omega (arith, e))
one_scheme Giai Sgcn e = absurd (omega (arith, e))
one_scheme Gsrnp Giai e = absurd (omega (arith, e))
one_scheme Gsrnp Gsrnp e = refl
one_scheme Gsrnp Sgcn e = absurd (omega (arith, e))
one_scheme Sgcn Giai e = absurd (omega (arith, e))
one_scheme Sgcn Gsrnp e = absurd (omega (arith, e))
one_scheme Sgcn Sgcn e = refl
one_scheme Giai Cpi e = absurd (omega (arith, e))
one_scheme Gsrnp Cpi e = absurd (omega (arith, e))
one_scheme Sgcn Cpi e = absurd (omega (arith, e))
one_scheme Cpi Giai e = absurd (omega (arith, e))
one_scheme Cpi Gsrnp e = absurd (omega (arith, e))
one_scheme Cpi Sgcn e = absurd (omega (arith, e))
one_scheme Cpi Cpi e = refl

-- ---- what is read of the word of an EPC

-- header and partition value as they are read, and the row that was looked up
pub record Looks (s : Scheme) (ds : List Bool) (h p : ℕ) (found : Option Row) : Type 0 where
  pub header : (layout_in s).header ≡ h
  pub header_below : h < 2 ^ 8
  pub header_digits : digits 8 h ≡ field ds 0 8
  pub partition_below : p < 2 ^ 3
  pub partition_digits : digits 3 p ≡ field ds 11 3
  pub row : found ≡ row_at (layout_in s) p

-- the row is the EPC's
pub same_place : (m : Numbers) (ds : List Bool) (t : Told m ds) (s : Scheme) (h p : ℕ) (found : Option Row) → Looks s ds h p found → (s ≡ m.scheme) × (found ≡ Some t.row)
same_place m ds t s h p found a =
    let scheme : s ≡ m.scheme = one_scheme s m.scheme (a.header ∙ same_header m ds h t a.header_below a.header_digits) in
    let place : p ≡ t.partition = same_partition m ds t p a.partition_below a.partition_digits in
    (scheme, a.row ∙ ap (λ (x : Scheme). row_at (layout_in x) p) scheme ∙ ap (λ (x : ℕ). row_at (layout_in m.scheme) x) place ∙ t.placed)

-- the numbers as they are read
pub record Reads (s : Scheme) (r : Row) (ds : List Bool) (c x n : ℕ) : Type 0 where
  pub company_below : c < 2 ^ r.company_bits
  pub company_digits : digits r.company_bits c ≡ field ds 14 r.company_bits
  pub reference_below : x < 2 ^ r.reference_bits
  pub reference_digits : digits r.reference_bits x ≡ field ds (14 + r.company_bits) r.reference_bits
  pub last_below : n < 2 ^ (layout_in s).last_bits
  pub last_digits : digits (layout_in s).last_bits n ≡ field ds (14 + r.company_bits + r.reference_bits) (layout_in s).last_bits

-- they fit
pub numbers_fit : (m : Numbers) (w : ℕ) (s : Scheme) (h p c x n : ℕ) (found : Option Row) (r : Row) → HasWord m w → Looks s (word_digits w) h p found → found ≡ Some r → Reads s r (word_digits w) c x n
    → (c < 10 ^ r.company_digits) × (x < 10 ^ r.reference_digits) × IsLastIn s n
numbers_fit m w s h p c x n found r has a is b =
    let ds : List Bool = word_digits w in
    let t : Told m ds = told m w has in
    let place = same_place m ds t s h p found a in
    let row : t.row ≡ r = same_row t.row r (sym place.1 ∙ is) in
    let reads : Reads m.scheme t.row ds c x n = subst (λ (y : Row). Reads m.scheme y ds c x n) (sym row) (subst (λ (y : Scheme). Reads y r ds c x n) place.0 b) in
    let company : c ≡ m.company = same_company m ds t c reads.company_below reads.company_digits in
    let reference : x ≡ m.reference = same_reference m ds t x reads.reference_below reads.reference_digits in
    let last : n ≡ m.last = same_last m ds t n reads.last_below reads.last_digits in (
      subst (λ (y : Row). c < 10 ^ y.company_digits) row (rw company t.company),
      subst (λ (y : Row). x < 10 ^ y.reference_digits) row (rw reference t.reference),
      subst (λ (y : Scheme). IsLastIn y n) (sym place.0) (subst (λ (y : ℕ). IsLastIn m.scheme y) (sym last) t.last),
    )

-- numbers that are read and fit are the word's
pub numbers_are : (w : ℕ) (s : Scheme) (h p f c x n : ℕ) (found : Option Row) (r : Row) → Looks s (word_digits w) h p found → found ≡ Some r → f < 2 ^ 3 → digits 3 f ≡ field (word_digits w) 8 3 → Reads s r (word_digits w) c x n
    → c < 10 ^ r.company_digits → x < 10 ^ r.reference_digits → IsLastIn s n
    → HasWord (record { scheme = s; filter = f; company_digits = r.company_digits; company = c; reference = x; last = n }) w
numbers_are w s h p f c x n found r a is filter filter_digits b company reference last =
    let placed : row_at (layout_in s) p ≡ Some r = sym a.row ∙ is in
    read_is s f r.company_digits c x n p r w placed refl filter b.company_below company b.reference_below reference b.last_below last
    (read_whole (layout_in s) r f p c x n h (word_digits w) (word_length w) (fills s p r placed) (sym a.header) a.header_digits filter_digits a.partition_digits b.company_digits b.reference_digits b.last_digits)
