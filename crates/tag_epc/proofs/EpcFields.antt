-- The fields of numbers that are checked or read.
use Rattle.std.proofs.Common.{◌≡◌, ℕ, suc, ◌+◌, ◌^◌, ◌<◌, ◌≤◌, Bool, List, [], ◌∷◌, ◌++◌, length, take, Option, Some, None, true, refl, sym, ap, subst, ◌∙◌, arith, length-append}
use Rattle.std.proofs.lemmas.List.{append_assoc, append-nil}
use Rattle.tag_bits.specs.Digits.{digits, word_digits}
use Rattle.tag_bits.proofs.DigitLemmas.{length-digits}
use Rattle.tag_epc.specs.declared.scheme.Row.{Row}
use Rattle.tag_epc.specs.declared.kind.Kind.{Kind}
use Rattle.tag_epc.specs.declared.lawful_parts.Number.{Number}
use Rattle.tag_epc.specs.declared.lawful_parts.Number.TheVariants.{Company, Reference, Last}
use Rattle.tag_epc.specs.declared.epc.Parts.TheVariants.{Partitioned, General}
use Rattle.tag_epc.specs.declared.fault.WordReason.TheVariants as word
use Rattle.tag_epc.specs.declared.fault.WordFault.{WordFault}
use Rattle.tag_epc.specs.Layout.{Layout, layout_of, header_of, row_at, plain_segment, leading_segments, gid_header, gid_segments}
use Rattle.tag_epc.specs.Calls.Layout.{is_sound}
use Rattle.tag_epc.specs.LawfulWord.{fill, Fits, AllFit, fields_digits, HasPartition, IsLawfulEpc, Spells}
use Rattle.tag_epc.specs.Faults.{FirstUnfit, HasUnfitAt, HasDigitsFault, Fails, place_of}
use Rattle.tag_epc.specs.Calls.Faults.{HasUnfit}
use Rattle.tag_epc.specs.Private.Numbers.{place_of_number}
use Rattle.tag_epc.proofs.Soundness.{IsSound, sound}
use Rattle.tag_epc.proofs.UnfitLemmas.{numbers, fits_plain}
use Rattle.tag_epc.proofs.OneReading.{row_fields, one_fields}

-- a scheme, a row of it and a filter value
pub record Placed (k : Kind) (l : Layout) (r : Row) (f p : ℕ) : Type 0 where
  pub scheme : layout_of k ≡ Some l
  pub sound : IsSound l
  pub row : row_at l p ≡ Some r
  pub filter : f < 8

-- a row that was found
pub placed : (k : Kind) (l : Layout) (r : Row) (f p : ℕ) (found : Option Row) → layout_of k ≡ Some l → is_sound l ≡ true → found ≡ row_at l p → found ≡ Some r → f < 8 → Placed k l r f p
placed k l r f p found scheme s at is filter = record { scheme = scheme; sound = sound l s; row = sym at ∙ is; filter = filter }

-- the fields of a row are those of its EPC
row_has : (k : Kind) (l : Layout) (r : Row) (f p d c t n : ℕ) → Placed k l r f p → p + d ≡ 12 → HasPartition k f d c t n (row_fields l r f p c t n)
row_has k l r f p d c t n a e = record { layout = l; row = r; partition = p; scheme = a.scheme; placed = a.row; counted = e; filled = refl }

-- the three leading fields fit
leading_fit : (k : Kind) (l : Layout) (r : Row) (f p : ℕ) → Placed k l r f p
    → Fits (record { segment = plain_segment 8; number = l.header }) × Fits (record { segment = plain_segment 3; number = f }) × Fits (record { segment = plain_segment 3; number = p })
leading_fit k l r f p a = let s = a.sound.rows p r a.row in (fits_plain 8 l.header a.sound.header, fits_plain 3 f a.filter, fits_plain 3 p (omega (arith, s.partition)))

-- a number after the partition value that does not fit, among all fields
behind_leading : (k : Kind) (l : Layout) (r : Row) (f p c t n m : ℕ) → Placed k l r f p → FirstUnfit (numbers l r c t n) m → FirstUnfit (row_fields l r f p c t n) (suc (suc (suc m)))
behind_leading k l r f p c t n m a u =
    let front = leading_fit k l r f p a in
    record { unfit = u.unfit; stands = u.stands; before = (front.0, (front.1, (front.2, u.before))); fails = u.fails }

-- numbers of which one does not fit
pub epc_unfit : (k : Kind) (l : Layout) (r : Row) (f p d c t n : ℕ) (told m : Number) → Placed k l r f p → p + d ≡ 12 → told ≡ m → FirstUnfit (numbers l r c t n) (place_of_number told)
    → HasUnfit (Partitioned k f d c t n) (suc (suc (suc (place_of_number m))))
epc_unfit k l r f p d c t n told m a e is u =
    let first : FirstUnfit (numbers l r c t n) (place_of_number m) = subst (λ (x : Number). FirstUnfit (numbers l r c t n) (place_of_number x)) is u in
    record { fields = row_fields l r f p c t n; has = row_has k l r f p d c t n a e; first = behind_leading k l r f p c t n (place_of_number m) a first }

-- numbers that all fit
pub epc_lawful : (k : Kind) (l : Layout) (r : Row) (f p d c t n : ℕ) → Placed k l r f p → p + d ≡ 12 → AllFit (numbers l r c t n) → IsLawfulEpc (Partitioned k f d c t n)
epc_lawful k l r f p d c t n a e fit =
    let front = leading_fit k l r f p a in
    record { fields = row_fields l r f p c t n; has = row_has k l r f p d c t n a e; fit = (front.0, (front.1, (front.2, fit))) }

-- a lawful EPC's fields are those of its row
pub lawful_fields : (k : Kind) (l : Layout) (r : Row) (f p d c t n : ℕ) → layout_of k ≡ Some l → row_at l p ≡ Some r → p + d ≡ 12 → (a : IsLawfulEpc (Partitioned k f d c t n)) → a.fields ≡ row_fields l r f p c t n
lawful_fields k l r f p d c t n scheme row e a =
    one_fields (Partitioned k f d c t n) a.fields (row_fields l r f p c t n) a.has (record { layout = l; row = r; partition = p; scheme = scheme; placed = row; counted = e; filled = refl })

-- a manager number of GID-96 that does not fit
pub manager_unfit : (m o s : ℕ) → 2 ^ 28 ≤ m → HasUnfit (General m o s) 1
manager_unfit m o s h = record {
  fields = fill gid_segments (gid_header ∷ m ∷ o ∷ s ∷ []);
  has = refl;
  first = record { unfit = record { segment = plain_segment 28; number = m }; stands = refl; before = (fits_plain 8 gid_header (omega arith), tt); fails = λ f. let b : m < 2 ^ 28 = f.bits in omega arith };
}

-- an object class of GID-96 that does not fit
pub class_unfit : (m o s : ℕ) → m < 2 ^ 28 → 2 ^ 24 ≤ o → HasUnfit (General m o s) 2
class_unfit m o s a h = record {
  fields = fill gid_segments (gid_header ∷ m ∷ o ∷ s ∷ []);
  has = refl;
  first = record { unfit = record { segment = plain_segment 24; number = o }; stands = refl; before = (fits_plain 8 gid_header (omega arith), (fits_plain 28 m a, tt)); fails = λ f. let b : o < 2 ^ 24 = f.bits in omega arith };
}

-- a serial number of GID-96 that does not fit
pub serial_unfit : (m o s : ℕ) → m < 2 ^ 28 → o < 2 ^ 24 → 2 ^ 36 ≤ s → HasUnfit (General m o s) 3
serial_unfit m o s a b h = record {
  fields = fill gid_segments (gid_header ∷ m ∷ o ∷ s ∷ []);
  has = refl;
  first = record { unfit = record { segment = plain_segment 36; number = s }; stands = refl; before = (fits_plain 8 gid_header (omega arith), (fits_plain 28 m a, (fits_plain 24 o b, tt))); fails = λ f. let d : s < 2 ^ 36 = f.bits in omega arith };
}

-- what is read after a header: filter value, partition value, and the numbers of the row
pub record Cut (l : Layout) (r : Row) (f p c t n : ℕ) (ds : List Bool) : Type 0 where
  pub partition : p < 2 ^ 3
  pub company : c < 2 ^ r.company_bits
  pub reference : t < 2 ^ r.reference_bits
  pub last : n < 2 ^ l.last_bits
  pub digits_are : ds ≡ digits 3 f ++ (digits 3 p ++ (digits r.company_bits c ++ (digits r.reference_bits t ++ (digits l.last_bits n ++ []))))

-- digits that have all been read
no_digits : (ds : List Bool) → length ds ≡ 0 → ds ≡ []
no_digits [] h = refl
no_digits (d ∷ ds) h = absurd (omega arith)

-- the reads one after another
pub cut : (l : Layout) (r : Row) (f p c t n w : ℕ) (r0 r1 r2 r3 r4 r5 : List Bool) → w ≡ l.last_bits → p < 2 ^ 3 → c < 2 ^ r.company_bits → t < 2 ^ r.reference_bits → n < 2 ^ w
    → r0 ≡ digits 3 f ++ r1 → r1 ≡ digits 3 p ++ r2 → r2 ≡ digits r.company_bits c ++ r3 → r3 ≡ digits r.reference_bits t ++ r4 → r4 ≡ digits w n ++ r5 → length r5 ≡ 0
    → Cut l r f p c t n r0
cut l r f p c t n w r0 r1 r2 r3 r4 r5 bits a b d e x0 x1 x2 x3 x4 done = record {
  partition = a;
  company = b;
  reference = d;
  last = subst (λ (k : ℕ). n < 2 ^ k) bits e;
  digits_are = let empty : r5 ≡ [] = no_digits r5 done in rw (x0, x1, x2, x3, x4, empty, bits) refl;
}

-- the digits of a word after a scheme's header
cut_spelled : (l : Layout) (r : Row) (f p c t n : ℕ) (ds : List Bool) → Cut l r f p c t n ds → digits 8 l.header ++ ds ≡ fields_digits (row_fields l r f p c t n)
cut_spelled l r f p c t n ds a = ap (λ (x : List Bool). digits 8 l.header ++ x) a.digits_are

-- a word that is read whole, and whose numbers all fit
pub cut_lawful : (k : Kind) (l : Layout) (r : Row) (f p c t n : ℕ) (ds : List Bool) → Placed k l r f p → Cut l r f p c t n ds → AllFit (numbers l r c t n)
    → Spells (Partitioned k f r.company_digits c t n) (digits 8 l.header ++ ds)
cut_lawful k l r f p c t n ds a x fit =
    let s = a.sound.rows p r a.row in
    let front = leading_fit k l r f p a in
    record {
      lawful = record { fields = row_fields l r f p c t n; has = row_has k l r f p r.company_digits c t n a (omega (arith, s.digits)); fit = (front.0, (front.1, (front.2, fit))) };
      spelled = cut_spelled l r f p c t n ds x;
    }

-- the fault of the number that does not fit
abbrev pub fault_of : Number → Row → WordFault
fault_of Company r = record { bit = 14; reason = word.Prefix }
fault_of Reference r = record { bit = 14 + r.company_bits; reason = word.Reference }
fault_of Last r = record { bit = 14 + r.company_bits + r.reference_bits; reason = word.Zeros }

-- the reason of a number that does not fit
reason_fails : (m : Number) (l : Layout) (r : Row) (f p c t n : ℕ) → HasUnfitAt (suc (suc (suc (place_of_number m)))) (row_fields l r f p c t n) → Fails (fault_of m r).reason (row_fields l r f p c t n)
reason_fails Company l r f p c t n a = a
reason_fails Reference l r f p c t n a = a
reason_fails Last l r f p c t n a = a

-- the first bit of a number
number_bit : (m : Number) (l : Layout) (r : Row) (f p c t n : ℕ) → (fault_of m r).bit ≡ length (fields_digits (take (place_of (fault_of m r).reason) (row_fields l r f p c t n)))
number_bit Company l r f p c t n = simp (length-append, length-digits) refl
number_bit Reference l r f p c t n = simp (length-append, length-digits) (omega arith)
number_bit Last l r f p c t n = simp (length-append, length-digits) (omega arith)

-- a word that is read whole, and of whose numbers one does not fit
cut_unfit : (k : Kind) (l : Layout) (r : Row) (f p c t n : ℕ) (ds : List Bool) (m : Number) → Placed k l r f p → Cut l r f p c t n ds → FirstUnfit (numbers l r c t n) (place_of_number m)
    → HasDigitsFault (digits 8 l.header ++ ds) (fault_of m r)
cut_unfit k l r f p c t n ds m a x u = let s = a.sound.rows p r a.row in record {
  fields = row_fields l r f p c t n;
  rest = [];
  spelled = cut_spelled l r f p c t n ds x ∙ sym (append-nil (fields_digits (row_fields l r f p c t n)));
  read = (a.sound.header, (a.filter, (x.partition, (x.company, (x.reference, (x.last, tt))))));
  fails = reason_fails m l r f p c t n (record { epc = Partitioned k f r.company_digits c t n; has = row_has k l r f p r.company_digits c t n a (omega (arith, s.digits)); first = behind_leading k l r f p c t n (place_of_number m) a u });
  bit = number_bit m l r f p c t n;
}

-- the same, where the fault and its number are known
pub cut_fault : (k : Kind) (l : Layout) (r : Row) (f p c t n : ℕ) (ds : List Bool) (told m : Number) (fault : WordFault) → Placed k l r f p → Cut l r f p c t n ds → told ≡ m → fault ≡ fault_of m r
    → FirstUnfit (numbers l r c t n) (place_of_number told) → HasDigitsFault (digits 8 l.header ++ ds) fault
cut_fault k l r f p c t n ds told m fault a x is same u =
    subst (λ (z : WordFault). HasDigitsFault (digits 8 l.header ++ ds) z) (sym same)
    (cut_unfit k l r f p c t n ds m a x (subst (λ (z : Number). FirstUnfit (numbers l r c t n) (place_of_number z)) is u))

-- a word whose partition value has no row
pub row_fault : (k : Kind) (l : Layout) (f p : ℕ) (r0 r1 r2 : List Bool) (fault : WordFault) (found : Option Row) → layout_of k ≡ Some l → is_sound l ≡ true → f < 2 ^ 3 → p < 2 ^ 3
    → r0 ≡ digits 3 f ++ r1 → r1 ≡ digits 3 p ++ r2 → found ≡ row_at l p → found ≡ None → fault ≡ record { bit = 11; reason = word.Partition }
    → HasDigitsFault (digits 8 l.header ++ r0) fault
row_fault k l f p r0 r1 r2 fault found scheme s a b x0 x1 at none same = subst (λ (z : WordFault). HasDigitsFault (digits 8 l.header ++ r0) z) (sym same) (record {
  fields = fill leading_segments (l.header ∷ f ∷ p ∷ []);
  rest = r2;
  spelled = rw (x0, x1) (simp append_assoc refl);
  read = ((sound l s).header, (a, (b, tt)));
  fails = record { kind = k; layout = l; filter = f; partition = p; scheme = scheme; none = sym at ∙ none; filled = refl };
  bit = simp (length-append, length-digits) refl;
})

-- a word whose header is no scheme's
pub header_fault : (w h : ℕ) (r0 r1 : List Bool) (fault : WordFault) → r0 ≡ word_digits w → r0 ≡ digits 8 h ++ r1 → h < 2 ^ 8 → ((k : Kind) → header_of k ≡ h → ⊥)
    → fault ≡ record { bit = 0; reason = word.Header } → HasDigitsFault (word_digits w) fault
header_fault w h r0 r1 fault e x below none same = subst (λ (z : WordFault). HasDigitsFault (word_digits w) z) (sym same) (record {
  fields = fill (plain_segment 8 ∷ []) (h ∷ []);
  rest = r1;
  spelled = sym e ∙ x ∙ ap (λ (ds : List Bool). ds ++ r1) (sym (append-nil (digits 8 h)));
  read = (below, tt);
  fails = record { header = h; filled = refl; unknown = none };
  bit = refl;
})

-- a word of GID-96 that is read whole
pub gid_spelled : (m o s : ℕ) (r0 r1 r2 r3 : List Bool) → m < 2 ^ 28 → o < 2 ^ 24 → s < 2 ^ 36 → r0 ≡ digits 28 m ++ r1 → r1 ≡ digits 24 o ++ r2 → r2 ≡ digits 36 s ++ r3 → length r3 ≡ 0
    → Spells (General m o s) (digits 8 gid_header ++ r0)
gid_spelled m o s r0 r1 r2 r3 a b d x0 x1 x2 done = record {
  lawful = record { fields = fill gid_segments (gid_header ∷ m ∷ o ∷ s ∷ []); has = refl; fit = (fits_plain 8 gid_header (omega arith), (fits_plain 28 m a, (fits_plain 24 o b, (fits_plain 36 s d, tt)))) };
  spelled = let empty : r3 ≡ [] = no_digits r3 done in rw (x0, x1, x2, empty) refl;
}

-- the fields of a row written one after another
pub written : (l : Layout) (r : Row) (f p c t n h w : ℕ) (d0 d1 d2 d3 d4 d5 d6 : List Bool) → h ≡ l.header → w ≡ l.last_bits → d0 ≡ [] → d1 ≡ d0 ++ digits 8 h → d2 ≡ d1 ++ digits 3 f → d3 ≡ d2 ++ digits 3 p
    → d4 ≡ d3 ++ digits r.company_bits c → d5 ≡ d4 ++ digits r.reference_bits t → d6 ≡ d5 ++ digits w n → d6 ≡ fields_digits (row_fields l r f p c t n)
written l r f p c t n h w d0 d1 d2 d3 d4 d5 d6 header bits e0 e1 e2 e3 e4 e5 e6 = rw (e6, e5, e4, e3, e2, e1, e0, header, bits) (simp (append_assoc, append-nil) refl)

-- the word of an EPC with a company prefix
pub written_word : (k : Kind) (l : Layout) (r : Row) (f p d c t n : ℕ) (found : Option Row) (ds : List Bool) → layout_of k ≡ Some l → found ≡ row_at l p → found ≡ Some r → p + d ≡ 12 → IsLawfulEpc (Partitioned k f d c t n)
    → ds ≡ fields_digits (row_fields l r f p c t n) → Spells (Partitioned k f d c t n) ds
written_word k l r f p d c t n found ds scheme at is e a x = record { lawful = a; spelled = x ∙ ap fields_digits (sym (lawful_fields k l r f p d c t n scheme (sym at ∙ is) e a)) }

-- the word of an EPC of GID-96
pub written_gid : (m o s : ℕ) (d0 d1 d2 d3 d4 ds : List Bool) → d0 ≡ [] → d1 ≡ d0 ++ digits 8 gid_header → d2 ≡ d1 ++ digits 28 m → d3 ≡ d2 ++ digits 24 o → d4 ≡ d3 ++ digits 36 s → ds ≡ d4
    → IsLawfulEpc (General m o s) → Spells (General m o s) ds
written_gid m o s d0 d1 d2 d3 d4 ds e0 e1 e2 e3 e4 e a = record {
  lawful = a;
  spelled = let all : ds ≡ fields_digits (fill gid_segments (gid_header ∷ m ∷ o ∷ s ∷ [])) = rw (e, e4, e3, e2, e1, e0) (simp (append_assoc, append-nil) refl) in all ∙ ap fields_digits (sym a.has);
}
