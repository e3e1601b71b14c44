-- The first part that fails of a word with the header of a further scheme.
use Rattle.std.proofs.Common.{◌≡◌, ◌≢◌, ℕ, ◌+◌, ◌^◌, ◌<◌, ◌≤◌, Bool, true, false, List, [], ◌∷◌, ◌++◌, drop, Option, Some, None, refl, sym, ap, subst, ◌∙◌, arith, inl, inr, length-append}
use Rattle.std.proofs.lemmas.List.{append_assoc, append-nil}
use Rattle.tag_bits.specs.Digits.{digits, word_digits, field}
use Rattle.std.specs.Prelude.{◌↔◌, IsTrue, MatchOption}
use Rattle.std.proofs.lemmas.Bool.{cases_lt}
use Rattle.tag_bits.proofs.DigitLemmas.{length-digits, digits-injective}
use Rattle.tag_epc.specs.declared.scheme.Row.{Row}
use Rattle.tag_epc.specs.declared.fault.WordReason.TheVariants.{Partition, Prefix, Reference, Zeros}
use Rattle.tag_epc.specs.Layout.{row_at, plain_segment, fixed, last_segment, leading_segments}
use Rattle.tag_epc.specs.LawfulWord.{fill, Fits, fields_digits, IsLawfulWord}
use Rattle.tag_epc.specs.Faults.{FirstUnfit, AllRead}
use Rattle.tag_epc.proofs.OneReading.{row_fields}
use Rattle.tag_schemes.specs.declared.numbers.Numbers.{Numbers}
use Rattle.tag_schemes.specs.declared.scheme.Scheme.{Scheme}
use Rattle.tag_schemes.specs.declared.scheme.Scheme.TheVariants.{Giai, Gsrnp, Sgcn, Cpi}
use Rattle.tag_schemes.specs.declared.fault.PartReason.{PartReason}
use Rattle.tag_schemes.specs.declared.fault.PartReason.TheVariants.{Word, Serial}
use Rattle.tag_schemes.specs.declared.fault.PartFault.{PartFault}
use Rattle.tag_schemes.specs.declared.supplier.Supplier.{Supplier}
use Rattle.tag_schemes.specs.Schemes.{layout_in}
use Rattle.tag_schemes.specs.Suppliers.{HasSupplierWord}
use Rattle.tag_schemes.specs.SupplierRules.{HasSupplierHeader}
use Rattle.tag_schemes.specs.LawfulWord.{HasFields, HasSerial, HasWord}
use Rattle.tag_schemes.specs.Private.LastSegments.{FailsLast, IsLastIn}
use Rattle.tag_schemes.specs.WordFaults.{HasHeader, HasFurtherFault, IsLawfulInAll}
use Rattle.tag_schemes.proofs.RowFacts.{fills}
use Rattle.tag_schemes.proofs.SetFacts.{header_apart}
use Rattle.tag_schemes.proofs.SupplierFacts as supplier
use Rattle.tag_schemes.proofs.WordFacts.{Looks, Reads, told, spelled_by, field-cut, field-seam, header_below, read_whole, word_length}

-- a test that says no
pub absent : (b : Bool) (t k : ℕ) → (IsTrue b ↔ (t < 10 ^ k)) → b ≡ false → 10 ^ k ≤ t
absent b t k decides denied = elim (cases_lt t (10 ^ k)) [
  | inl below ↦ let yes = decides.1 below in absurd (let yes_is : b ≡ true = yes in cc)
  | inr over ↦ over
]

-- what the word of an EPC begins with
pub begins : (m : Numbers) (w : ℕ) → HasWord m w → HasHeader m.scheme w
begins m w h = record { rest = _; begins = (told m w h).spelled }

-- the header that a word begins with, as it is read
pub header_read : (s : Scheme) (w : ℕ) → HasHeader s w → digits 8 (layout_in s).header ≡ field (word_digits w) 0 8
header_read s w a = sym (ap (λ (x : List Bool). field x 0 8) a.begins ∙ field-seam [] (digits 8 (layout_in s).header) a.rest 0 8 refl (length-digits 8 (layout_in s).header))

-- a header that is read is what the word begins with
pub header_found : (s : Scheme) (w h : ℕ) → (layout_in s).header ≡ h → digits 8 h ≡ field (word_digits w) 0 8 → HasHeader s w
header_found s w h e is = record {
  rest = drop 8 (word_digits w);
  begins = field-cut (word_digits w) 0 8 ∙ ap (λ (x : List Bool). x ++ drop 8 (word_digits w)) (sym is) ∙ ap (λ (x : ℕ). digits 8 x ++ drop 8 (word_digits w)) (sym e);
}

-- the scheme whose header was read
pub scheme_found : (w h : ℕ) (found : Option Scheme) → MatchOption found ((s : Scheme) → (layout_in s).header ≢ h) (λ s. (layout_in s).header ≡ h) → h < 2 ^ 8 → digits 8 h ≡ field (word_digits w) 0 8
    → MatchOption found ((s : Scheme) → HasHeader s w → ⊥) (λ s. HasHeader s w)
scheme_found w h None none below is = λ s a. none s (digits-injective 8 (layout_in s).header h (header_below s) below (header_read s w a ∙ sym is))
scheme_found w h (Some s) same below is = header_found s w h same is

-- header and partition value as they are read
pub looks : (s : Scheme) (w p : ℕ) (found : Option Row) → HasHeader s w → p < 2 ^ 3 → digits 3 p ≡ field (word_digits w) 11 3 → found ≡ row_at (layout_in s) p → Looks s (word_digits w) (layout_in s).header p found
looks s w p found a below is at = record {
  header = refl;
  header_below = header_below s;
  header_digits = header_read s w a;
  partition_below = below;
  partition_digits = is;
  row = at;
}

-- the numbers as they are read
pub reads : (s : Scheme) (w : ℕ) (r : Row) (c x n lb : ℕ) → lb ≡ (layout_in s).last_bits → c < 2 ^ r.company_bits → digits r.company_bits c ≡ field (word_digits w) 14 r.company_bits
    → x < 2 ^ r.reference_bits → digits r.reference_bits x ≡ field (word_digits w) (14 + r.company_bits) r.reference_bits → n < 2 ^ lb → digits lb n ≡ field (word_digits w) (14 + r.company_bits + r.reference_bits) lb
    → Reads s r (word_digits w) c x n
reads s w r c x n lb bits company company_is reference reference_is last last_is = record {
  company_below = company;
  company_digits = company_is;
  reference_below = reference;
  reference_digits = reference_is;
  last_below = rw bits at last;
  last_digits = rw bits at last_is;
}

-- a partition value that has no row
pub no_row : (s : Scheme) (w f p : ℕ) (found : Option Row) (fault : PartFault) → HasHeader s w → found ≡ row_at (layout_in s) p → found ≡ None → f < 2 ^ 3 → digits 3 f ≡ field (word_digits w) 8 3 → p < 2 ^ 3 → digits 3 p ≡ field (word_digits w) 11 3
    → fault ≡ record { bit = 11; reason = Word Partition } → HasFurtherFault s w fault
no_row s w f p found fault a at none filter filter_is partition partition_is e =
    let ds : List Bool = word_digits w in
    let a2 : drop 11 ds ≡ digits 3 p ++ drop 14 ds = field-cut ds 11 3 ∙ ap (λ (x : List Bool). x ++ drop 14 ds) (sym partition_is) in
    let a1 : drop 8 ds ≡ digits 3 f ++ (digits 3 p ++ drop 14 ds) = field-cut ds 8 3 ∙ ap (λ (x : List Bool). x ++ drop 11 ds) (sym filter_is) ∙ ap (λ (x : List Bool). digits 3 f ++ x) a2 in
    let a0 : ds ≡ digits 8 (layout_in s).header ++ (digits 3 f ++ (digits 3 p ++ drop 14 ds)) = field-cut ds 0 8 ∙ ap (λ (x : List Bool). x ++ drop 8 ds) (sym (header_read s w a)) ∙ ap (λ (x : List Bool). digits 8 (layout_in s).header ++ x) a1 in
    subst (λ (x : PartFault). HasFurtherFault s w x) (sym e) (record {
      fields = fill leading_segments ((layout_in s).header ∷ f ∷ p ∷ []);
      rest = drop 14 ds;
      spelled = a0 ∙ sym (after (digits 8 (layout_in s).header) (digits 3 f) (digits 3 p) (drop 14 ds));
      read = (header_below s, (filter, (partition, tt)));
      fails = record { filter = f; partition = p; none = sym at ∙ none; filled = refl };
      bit = simp (length-append, length-digits) refl;
    })
  where
    after : (a b c d : List Bool) → (a ++ (b ++ (c ++ []))) ++ d ≡ a ++ (b ++ (c ++ d))
    after a b c d = simp (append_assoc, append-nil) refl

-- a word that is read whole in a row of its scheme
pub record Whole (s : Scheme) (w : ℕ) (r : Row) (f p c t n : ℕ) : Type 0 where
  pub placed : row_at (layout_in s) p ≡ Some r
  pub partition : p < 2 ^ 3
  pub filter : f < 2 ^ 3
  pub reads : Reads s r (word_digits w) c t n
  pub spelled : word_digits w ≡ spelled_by (layout_in s) r f p c t n

pub whole : (s : Scheme) (w f p c t n : ℕ) (found : Option Row) (r : Row) → HasHeader s w → found ≡ row_at (layout_in s) p → found ≡ Some r → f < 2 ^ 3 → digits 3 f ≡ field (word_digits w) 8 3 → p < 2 ^ 3 → digits 3 p ≡ field (word_digits w) 11 3
    → Reads s r (word_digits w) c t n → Whole s w r f p c t n
whole s w f p c t n found r a at is filter filter_is partition partition_is b =
    let placed : row_at (layout_in s) p ≡ Some r = sym at ∙ is in
    record {
      placed = placed;
      partition = partition;
      filter = filter;
      reads = b;
      spelled = read_whole (layout_in s) r f p c t n (layout_in s).header (word_digits w) (word_length w) (fills s p r placed) refl (header_read s w a) filter_is partition_is b.company_digits b.reference_digits b.last_digits;
    }

module _ (s : Scheme) (w : ℕ) (r : Row) (f p c t n : ℕ) (a : Whole s w r f p c t n) where
  abbrev epc : Numbers
  epc = record { scheme = s; filter = f; company_digits = r.company_digits; company = c; reference = t; last = n }

  has : HasFields epc (row_fields (layout_in s) r f p c t n)
  has = record { row = r; partition = p; placed = a.placed; counted = omega (arith, (fills s p r a.placed).digits); filled = refl }

  header_fits : Fits (record { segment = plain_segment 8; number = (layout_in s).header })
  header_fits = record { bits = header_below s; decimals = tt }

  filter_fits : Fits (record { segment = plain_segment 3; number = f })
  filter_fits = record { bits = a.filter; decimals = tt }

  partition_fits : Fits (record { segment = plain_segment 3; number = p })
  partition_fits = record { bits = a.partition; decimals = tt }

  spelled : word_digits w ≡ fields_digits (row_fields (layout_in s) r f p c t n) ++ []
  spelled = a.spelled ∙ sym (append-nil (spelled_by (layout_in s) r f p c t n))

  read : AllRead (row_fields (layout_in s) r f p c t n)
  read = (header_below s, (a.filter, (a.partition, (a.reads.company_below, (a.reads.reference_below, (a.reads.last_below, tt))))))

  pub prefix_fails : (fault : PartFault) → 10 ^ r.company_digits ≤ c → fault ≡ record { bit = 14; reason = Word Prefix } → HasFurtherFault s w fault
  prefix_fails fault over e =
      let first : FirstUnfit (row_fields (layout_in s) r f p c t n) 3 = record {
        unfit = record { segment = fixed r.company_bits r.company_digits; number = c };
        stands = refl;
        before = (header_fits, (filter_fits, (partition_fits, tt)));
        fails = λ h. let b : c < 10 ^ r.company_digits = h.decimals in omega arith;
      } in
      subst (λ (x : PartFault). HasFurtherFault s w x) (sym e) (record {
        fields = row_fields (layout_in s) r f p c t n;
        rest = [];
        spelled = spelled;
        read = read;
        fails = record { epc = epc; same = refl; has = has; first = first };
        bit = simp (length-append, length-digits) refl;
      })

  company_fits : c < 10 ^ r.company_digits → Fits (record { segment = fixed r.company_bits r.company_digits; number = c })
  company_fits under = record { bits = a.reads.company_below; decimals = under }

  pub reference_fails : (fault : PartFault) → c < 10 ^ r.company_digits → 10 ^ r.reference_digits ≤ t → fault ≡ record { bit = 14 + r.company_bits; reason = Word Reference } → HasFurtherFault s w fault
  reference_fails fault company over e =
      let first : FirstUnfit (row_fields (layout_in s) r f p c t n) 4 = record {
        unfit = record { segment = fixed r.reference_bits r.reference_digits; number = t };
        stands = refl;
        before = (header_fits, (filter_fits, (partition_fits, (company_fits company, tt))));
        fails = λ h. let b : t < 10 ^ r.reference_digits = h.decimals in omega arith;
      } in
      subst (λ (x : PartFault). HasFurtherFault s w x) (sym e) (record {
        fields = row_fields (layout_in s) r f p c t n;
        rest = [];
        spelled = spelled;
        read = read;
        fails = record { epc = epc; same = refl; has = has; first = first };
        bit = simp (length-append, length-digits) (omega arith);
      })

  reference_fits : t < 10 ^ r.reference_digits → Fits (record { segment = fixed r.reference_bits r.reference_digits; number = t })
  reference_fits under = record { bits = a.reads.reference_below; decimals = under }

  zeros_fail : (fault : PartFault) → c < 10 ^ r.company_digits → t < 10 ^ r.reference_digits → ¬ Fits (record { segment = last_segment (layout_in s); number = n }) → fault ≡ record { bit = 14 + r.company_bits + r.reference_bits; reason = Word Zeros } → HasFurtherFault s w fault
  zeros_fail fault company reference over e =
      let first : FirstUnfit (row_fields (layout_in s) r f p c t n) 5 = record {
        unfit = record { segment = last_segment (layout_in s); number = n };
        stands = refl;
        before = (header_fits, (filter_fits, (partition_fits, (company_fits company, (reference_fits reference, tt)))));
        fails = over;
      } in
      subst (λ (x : PartFault). HasFurtherFault s w x) (sym e) (record {
        fields = row_fields (layout_in s) r f p c t n;
        rest = [];
        spelled = spelled;
        read = read;
        fails = record { epc = epc; same = refl; has = has; first = first };
        bit = simp (length-append, length-digits) (omega arith);
      })

  no_serial : (fault : PartFault) → c < 10 ^ r.company_digits → t < 10 ^ r.reference_digits → Fits (record { segment = last_segment (layout_in s); number = n }) → ¬ HasSerial s n
      → fault ≡ record { bit = 14 + r.company_bits + r.reference_bits; reason = Serial } → HasFurtherFault s w fault
  no_serial fault company reference fits wrong e =
      subst (λ (x : PartFault). HasFurtherFault s w x) (sym e) (record {
        fields = row_fields (layout_in s) r f p c t n;
        rest = [];
        spelled = spelled;
        read = read;
        fails = record { epc = epc; same = refl; has = has; fit = (header_fits, (filter_fits, (partition_fits, (company_fits company, (reference_fits reference, (fits, tt)))))); wrong = wrong };
        bit = simp (length-append, length-digits) (omega arith);
      })

-- a last segment that fails
pub last_fails : (s : Scheme) (w : ℕ) (r : Row) (f p c t n : ℕ) (reason : PartReason) (fault : PartFault) → Whole s w r f p c t n → c < 10 ^ r.company_digits → t < 10 ^ r.reference_digits → FailsLast s n reason
    → fault ≡ record { bit = 14 + r.company_bits + r.reference_bits; reason = reason } → HasFurtherFault s w fault
last_fails Giai w r f p c t n reason fault a company reference h e =
    zeros_fail Giai w r f p c t n a fault company reference (λ x. let b : n < 10 ^ 0 = x.decimals in h.1 (omega arith)) (e ∙ ap (λ (x : PartReason). record { bit = 14 + r.company_bits + r.reference_bits; reason = x }) h.0)
last_fails Gsrnp w r f p c t n reason fault a company reference h e =
    zeros_fail Gsrnp w r f p c t n a fault company reference (λ x. let b : n < 10 ^ 0 = x.decimals in h.1 (omega arith)) (e ∙ ap (λ (x : PartReason). record { bit = 14 + r.company_bits + r.reference_bits; reason = x }) h.0)
last_fails Sgcn w r f p c t n reason fault a company reference h e =
    no_serial Sgcn w r f p c t n a fault company reference (record { bits = a.reads.last_below; decimals = tt }) h.1 (e ∙ ap (λ (x : PartReason). record { bit = 14 + r.company_bits + r.reference_bits; reason = x }) h.0)
last_fails Cpi w r f p c t n reason fault a company reference h e = absurd h

-- what is no last segment of the scheme
pub last_no : (s : Scheme) (n : ℕ) (reason : PartReason) → FailsLast s n reason → ¬ IsLastIn s n
last_no Giai n reason h = h.1
last_no Gsrnp n reason h = h.1
last_no Sgcn n reason h = h.1
last_no Cpi n reason h = absurd h

-- a word that begins with a scheme's header is an EPC's of no other set
pub further_only : (s : Scheme) (w : ℕ) → HasHeader s w → ((n : Numbers) → HasWord n w → ⊥) → IsLawfulInAll w → ⊥
further_only s w a none (inl (inl (n, h))) = none n h
further_only s w a none (inl (inr (n, h))) = supplier.header_apart s w a (supplier.supplier_begins n w h)
further_only s w a none (inr (epc, h)) = header_apart epc s w h a

pub supplier_only : (w : ℕ) → HasSupplierHeader w → ((n : Supplier) → HasSupplierWord n w → ⊥) → IsLawfulInAll w → ⊥
supplier_only w a none (inl (inl (n, h))) = supplier.header_apart n.scheme w (begins n w h) a
supplier_only w a none (inl (inr (n, h))) = none n h
supplier_only w a none (inr (epc, h)) = supplier.older_apart epc w h a

pub older_only : (w : ℕ) → ((s : Scheme) → HasHeader s w → ⊥) → (HasSupplierHeader w → ⊥) → (IsLawfulWord w → ⊥) → IsLawfulInAll w → ⊥
older_only w none other unlawful (inl (inl (n, h))) = none n.scheme (begins n w h)
older_only w none other unlawful (inl (inr (n, h))) = other (supplier.supplier_begins n w h)
older_only w none other unlawful (inr lawful) = unlawful lawful
