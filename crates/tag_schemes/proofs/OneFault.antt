-- A word has one fault in the set of all schemes, or none.
use Rattle.std.proofs.Common.{◌≡◌, ℕ, Bool, List, [], ◌∷◌, ◌++◌, length, take, Some, ◌⊎◌, inl, inr, refl, sym, ap, subst, ◌∙◌, length-append}
use Rattle.std.proofs.lemmas.List.{append_assoc, append-nil}
use Rattle.std.specs.Prelude.{◌==◌, cond}
use Rattle.tag_bits.specs.Digits.{digits, word_digits}
use Rattle.tag_bits.proofs.DigitLemmas.{length-digits}
use Rattle.tag_epc.specs.declared.fault.WordReason.TheVariants.{Header, Partition, Prefix, Reference, Zeros}
use Rattle.tag_epc.specs.declared.fault.WordFault.{WordFault}
use Rattle.tag_epc.specs.declared.scheme.Row.{Row}
use Rattle.tag_epc.specs.Layout.{row_at, leading_segments, number_segments}
use Rattle.tag_epc.specs.LawfulWord.{Field, fill, AllFit, fields_digits}
use Rattle.tag_epc.specs.Faults.{FirstUnfit, AllRead}
use Rattle.tag_epc.proofs.FieldLemmas.{all_read, fit_or_unfit, one_unfit, same_part, same_numbers}
use Rattle.tag_epc.proofs.OneFault as older
use Rattle.tag_epc.proofs.OneReading.{row_fields, spell-append, some_same}
use Rattle.tag_schemes.specs.declared.fault.PartReason.{PartReason}
use Rattle.tag_schemes.specs.declared.fault.PartReason.TheVariants.{Word, Serial, Code}
use Rattle.tag_schemes.specs.declared.fault.PartFault.{PartFault}
use Rattle.tag_schemes.specs.declared.numbers.Numbers.{Numbers}
use Rattle.tag_schemes.specs.declared.scheme.Scheme.{Scheme}
use Rattle.tag_schemes.specs.Schemes.{layout_in}
use Rattle.tag_schemes.specs.LawfulWord.{HasFields, HasSerial, HasWord}
use Rattle.tag_schemes.specs.WordFaults.{FailsIn, HasFurtherFault, HasHeader, HasNoRowIn, HasWordFaultInAll, IsLawfulInAll, place_in_all}
use Rattle.tag_schemes.proofs.SetFacts.{header_apart}
use Rattle.tag_schemes.proofs.SupplierFacts as supplier
use Rattle.tag_schemes.proofs.WordFacts.{header_below, one_scheme}

-- what the digits of the fields of a word begin with
row_begins : (s : Scheme) (w : ℕ) (fs : List Field) (xs : List Bool) → HasNoRowIn s fs → word_digits w ≡ fields_digits fs ++ xs → HasHeader s w
row_begins s w fs xs a e = record {
  rest = _;
  begins = e ∙ ap (λ (z : List Field). fields_digits z ++ xs) a.filled ∙ append_assoc (digits 8 (layout_in s).header) _ xs;
}

fields_begin : (m : Numbers) (w : ℕ) (fs : List Field) (xs : List Bool) → HasFields m fs → word_digits w ≡ fields_digits fs ++ xs → HasHeader m.scheme w
fields_begin m w fs xs a e = record {
  rest = _;
  begins = e ∙ ap (λ (z : List Field). fields_digits z ++ xs) a.filled ∙ append_assoc (digits 8 (layout_in m.scheme).header) _ xs;
}

one_header : (s t : Scheme) (w : ℕ) → HasHeader s w → HasHeader t w → s ≡ t
one_header s t w a b = one_scheme s t (same_part 8 (layout_in s).header (layout_in t).header a.rest b.rest (header_below s) (header_below t) (sym a.begins ∙ b.begins)).0

-- the fields of a word are numbers of the scheme
pub record HasNumbers (s : Scheme) (fs : List Field) : Type 0 where
  pub epc : Numbers
  pub same : epc.scheme ≡ s
  pub has : HasFields epc fs

-- those fields in the segments of the scheme
abbrev fields_in : (s : Scheme) (fs : List Field) → HasNumbers s fs → List Field
fields_in s fs a = row_fields (layout_in s) a.has.row a.epc.filter a.has.partition a.epc.company a.epc.reference a.epc.last

filled_in : (s : Scheme) (fs : List Field) (a : HasNumbers s fs) → fs ≡ fields_in s fs a
filled_in s fs a = a.has.filled ∙ ap (λ (z : Scheme). row_fields (layout_in z) a.has.row a.epc.filter a.has.partition a.epc.company a.epc.reference a.epc.last) a.same

placed_in : (s : Scheme) (fs : List Field) (a : HasNumbers s fs) → row_at (layout_in s) a.has.partition ≡ Some a.has.row
placed_in s fs a = ap (λ (z : Scheme). row_at (layout_in z) a.has.partition) (sym a.same) ∙ a.has.placed

-- digits are not read with a row and without one
row_or_not : (s : Scheme) (ds : List Bool) (fs gs : List Field) (xs ys : List Bool) → HasNumbers s fs → HasNoRowIn s gs → AllRead fs → AllRead gs → ds ≡ fields_digits fs ++ xs → ds ≡ fields_digits gs ++ ys → ⊥
row_or_not s ds fs gs xs ys a b x y d e =
    let read = subst (λ (z : List Field). AllRead z) (filled_in s fs a) x in
    let reads = subst (λ (z : List Field). AllRead z) b.filled y in
    let numbers = fill (number_segments (layout_in s) a.has.row) (a.epc.company ∷ a.epc.reference ∷ a.epc.last ∷ []) in
    let split : fields_digits (fill leading_segments ((layout_in s).header ∷ a.epc.filter ∷ a.has.partition ∷ [])) ++ (fields_digits numbers ++ xs) ≡ fields_digits (fill leading_segments ((layout_in s).header ∷ b.filter ∷ b.partition ∷ [])) ++ ys
    = sym (spell-append (fill leading_segments ((layout_in s).header ∷ a.epc.filter ∷ a.has.partition ∷ [])) numbers xs) ∙ ap (λ (z : List Field). fields_digits z ++ xs) (sym (filled_in s fs a)) ∙ sym d ∙ e ∙ ap (λ (z : List Field). fields_digits z ++ ys) b.filled in
    let same = same_numbers leading_segments ((layout_in s).header ∷ a.epc.filter ∷ a.has.partition ∷ []) ((layout_in s).header ∷ b.filter ∷ b.partition ∷ []) (fields_digits numbers ++ xs) ys refl refl (read.0, (read.1.0, (read.1.1.0, tt))) reads split in
    let partition : a.has.partition ≡ b.partition = cc in
    let placed : row_at (layout_in s) b.partition ≡ Some a.has.row = ap (λ (z : ℕ). row_at (layout_in s) z) (sym partition) ∙ placed_in s fs a in
    let none = b.none in
    cc

same_fields : (s : Scheme) (r q : Row) (f p c t n g o d u m : ℕ) → r ≡ q → f ≡ g → p ≡ o → c ≡ d → t ≡ u → n ≡ m → row_fields (layout_in s) r f p c t n ≡ row_fields (layout_in s) q g o d u m
same_fields s r q f p c t n g o d u m a b e h i j = rw (a, b, e, h, i, j) refl

-- digits are read as the fields of one scheme's numbers in one way
one_numbers : (s : Scheme) (ds : List Bool) (fs gs : List Field) (xs ys : List Bool) (a : HasNumbers s fs) (b : HasNumbers s gs) → AllRead fs → AllRead gs → ds ≡ fields_digits fs ++ xs → ds ≡ fields_digits gs ++ ys
    → (fs ≡ gs) × (a.epc.last ≡ b.epc.last)
one_numbers s ds fs gs xs ys a b x y d e =
    let read = subst (λ (z : List Field). AllRead z) (filled_in s fs a) x in
    let reads = subst (λ (z : List Field). AllRead z) (filled_in s gs b) y in
    let numbers = fill (number_segments (layout_in s) a.has.row) (a.epc.company ∷ a.epc.reference ∷ a.epc.last ∷ []) in
    let others = fill (number_segments (layout_in s) b.has.row) (b.epc.company ∷ b.epc.reference ∷ b.epc.last ∷ []) in
    let split : fields_digits (fill leading_segments ((layout_in s).header ∷ a.epc.filter ∷ a.has.partition ∷ [])) ++ (fields_digits numbers ++ xs) ≡ fields_digits (fill leading_segments ((layout_in s).header ∷ b.epc.filter ∷ b.has.partition ∷ [])) ++ (fields_digits others ++ ys)
    = sym (spell-append (fill leading_segments ((layout_in s).header ∷ a.epc.filter ∷ a.has.partition ∷ [])) numbers xs) ∙ ap (λ (z : List Field). fields_digits z ++ xs) (sym (filled_in s fs a)) ∙ sym d ∙ e ∙ ap (λ (z : List Field). fields_digits z ++ ys) (filled_in s gs b)
    ∙ spell-append (fill leading_segments ((layout_in s).header ∷ b.epc.filter ∷ b.has.partition ∷ [])) others ys in
    let first = same_numbers leading_segments ((layout_in s).header ∷ a.epc.filter ∷ a.has.partition ∷ []) ((layout_in s).header ∷ b.epc.filter ∷ b.has.partition ∷ []) (fields_digits numbers ++ xs) (fields_digits others ++ ys) refl refl
    (read.0, (read.1.0, (read.1.1.0, tt))) (reads.0, (reads.1.0, (reads.1.1.0, tt))) split in
    let filter : a.epc.filter ≡ b.epc.filter = cc in
    let partition : a.has.partition ≡ b.has.partition = cc in
    let row : a.has.row ≡ b.has.row = some_same a.has.row b.has.row (sym (placed_in s fs a) ∙ ap (λ (z : ℕ). row_at (layout_in s) z) partition ∙ placed_in s gs b) in
    let behind : fields_digits numbers ++ xs ≡ fields_digits (fill (number_segments (layout_in s) a.has.row) (b.epc.company ∷ b.epc.reference ∷ b.epc.last ∷ [])) ++ ys
    = first.1 ∙ ap (λ (z : Row). fields_digits (fill (number_segments (layout_in s) z) (b.epc.company ∷ b.epc.reference ∷ b.epc.last ∷ [])) ++ ys) (sym row) in
    let there : AllRead (fill (number_segments (layout_in s) a.has.row) (b.epc.company ∷ b.epc.reference ∷ b.epc.last ∷ [])) = subst (λ (z : Row). AllRead (fill (number_segments (layout_in s) z) (b.epc.company ∷ b.epc.reference ∷ b.epc.last ∷ []))) (sym row) reads.1.1.1 in
    let second = same_numbers (number_segments (layout_in s) a.has.row) (a.epc.company ∷ a.epc.reference ∷ a.epc.last ∷ []) (b.epc.company ∷ b.epc.reference ∷ b.epc.last ∷ []) xs ys refl refl read.1.1.1 there behind in
    let company : a.epc.company ≡ b.epc.company = cc in
    let reference : a.epc.reference ≡ b.epc.reference = cc in
    let last : a.epc.last ≡ b.epc.last = cc in (
      filled_in s fs a ∙ same_fields s a.has.row b.has.row _ _ _ _ _ _ _ _ _ _ row filter partition company reference last ∙ sym (filled_in s gs b),
      last,
    )

-- ---- failures

-- the reason by its place, of a field that does not fit
abbrev reason_at : ℕ → PartReason
reason_at n = cond (n == 0) (Word Header) (cond (n == 2) (Word Partition) (cond (n == 3) (Word Prefix) (cond (n == 4) (Word Reference) (Word Zeros))))

abbrev Unfit : Scheme → PartReason → List Field → Type 0
Unfit s r fs = (a : HasNumbers s fs) × FirstUnfit fs (place_in_all r) × (reason_at (place_in_all r) ≡ r)

abbrev NoSerial : Scheme → PartReason → List Field → Type 0
NoSerial s r fs = (a : HasNumbers s fs) × AllFit fs × (HasSerial s a.epc.last → ⊥) × (r ≡ Serial)

-- the three ways in which the fields of a word fail
abbrev Outcome : Scheme → PartReason → List Field → Type 0
Outcome s r fs = (HasNoRowIn s fs × (r ≡ Word Partition)) ⊎ (Unfit s r fs ⊎ NoSerial s r fs)

outcome : (s : Scheme) (r : PartReason) (fs : List Field) → FailsIn s r fs → Outcome s r fs
outcome s (Word Header) fs a = absurd a
outcome s (Word Partition) fs a = inl (a, refl)
outcome s (Word Prefix) fs a = inr (inl (record { epc = a.epc; same = a.same; has = a.has }, a.first, refl))
outcome s (Word Reference) fs a = inr (inl (record { epc = a.epc; same = a.same; has = a.has }, a.first, refl))
outcome s (Word Zeros) fs a = inr (inl (record { epc = a.epc; same = a.same; has = a.has }, a.first, refl))
outcome s Code fs a = absurd a
outcome s Serial fs a = inr (inr (record { epc = a.epc; same = a.same; has = a.has }, a.fit, a.wrong, refl))

-- each failure has the scheme's header
failing_begins : (s : Scheme) (w : ℕ) (r : PartReason) (fs : List Field) (xs : List Bool) → Outcome s r fs → word_digits w ≡ fields_digits fs ++ xs → HasHeader s w
failing_begins s w r fs xs (inl a) e = row_begins s w fs xs a.0 e
failing_begins s w r fs xs (inr (inl a)) e = subst (λ (z : Scheme). HasHeader z w) a.0.same (fields_begin a.0.epc w fs xs a.0.has e)
failing_begins s w r fs xs (inr (inr a)) e = subst (λ (z : Scheme). HasHeader z w) a.0.same (fields_begin a.0.epc w fs xs a.0.has e)

abbrev first_bit : PartReason → List Field → ℕ
first_bit r fs = length (fields_digits (take (place_in_all r) fs))

no_row_bit : (s : Scheme) (r : PartReason) (fs : List Field) → HasNoRowIn s fs → r ≡ Word Partition → first_bit r fs ≡ 11
no_row_bit s r fs a e = ap (λ (x : PartReason). first_bit x fs) e ∙ ap (λ (x : List Field). first_bit (Word Partition) x) a.filled ∙ simp (length-append, length-digits) refl

same_bit : (r q : PartReason) (fs gs : List Field) → r ≡ q → fs ≡ gs → first_bit r fs ≡ first_bit q gs
same_bit r q fs gs a b = rw (a, b) refl

-- two failures of the same digits have one reason and one bit
one_failure : (s : Scheme) (ds : List Bool) (r q : PartReason) (fs gs : List Field) (xs ys : List Bool) → AllRead fs → AllRead gs → ds ≡ fields_digits fs ++ xs → ds ≡ fields_digits gs ++ ys
    → Outcome s r fs → Outcome s q gs → (r ≡ q) × (first_bit r fs ≡ first_bit q gs)
one_failure s ds r q fs gs xs ys x y d e (inl a) (inl b) = (a.1 ∙ sym b.1, no_row_bit s r fs a.0 a.1 ∙ sym (no_row_bit s q gs b.0 b.1))
one_failure s ds r q fs gs xs ys x y d e (inl a) (inr (inl b)) = absurd (row_or_not s ds gs fs ys xs b.0 a.0 y x e d)
one_failure s ds r q fs gs xs ys x y d e (inl a) (inr (inr b)) = absurd (row_or_not s ds gs fs ys xs b.0 a.0 y x e d)
one_failure s ds r q fs gs xs ys x y d e (inr (inl a)) (inl b) = absurd (row_or_not s ds fs gs xs ys a.0 b.0 x y d e)
one_failure s ds r q fs gs xs ys x y d e (inr (inr a)) (inl b) = absurd (row_or_not s ds fs gs xs ys a.0 b.0 x y d e)
one_failure s ds r q fs gs xs ys x y d e (inr (inl a)) (inr (inl b)) =
    let fields : fs ≡ gs = (one_numbers s ds fs gs xs ys a.0 b.0 x y d e).0 in
    let place : place_in_all r ≡ place_in_all q = one_unfit gs (place_in_all r) (place_in_all q) (subst (λ (z : List Field). FirstUnfit z (place_in_all r)) fields a.1) b.1 in
    let reason : r ≡ q = sym a.2 ∙ ap reason_at place ∙ b.2 in
    (reason, same_bit r q fs gs reason fields)
one_failure s ds r q fs gs xs ys x y d e (inr (inl a)) (inr (inr b)) =
    let fields : fs ≡ gs = (one_numbers s ds fs gs xs ys a.0 b.0 x y d e).0 in
    absurd (fit_or_unfit gs (place_in_all r) b.1 (subst (λ (z : List Field). FirstUnfit z (place_in_all r)) fields a.1))
one_failure s ds r q fs gs xs ys x y d e (inr (inr a)) (inr (inl b)) =
    let fields : fs ≡ gs = (one_numbers s ds fs gs xs ys a.0 b.0 x y d e).0 in
    absurd (fit_or_unfit gs (place_in_all q) (subst (λ (z : List Field). AllFit z) fields a.1) b.1)
one_failure s ds r q fs gs xs ys x y d e (inr (inr a)) (inr (inr b)) =
    let fields : fs ≡ gs = (one_numbers s ds fs gs xs ys a.0 b.0 x y d e).0 in
    let reason : r ≡ q = a.3 ∙ sym b.3 in
    (reason, same_bit r q fs gs reason fields)

fault_parts : (f g : PartFault) → f.bit ≡ g.bit → f.reason ≡ g.reason → f ≡ g
fault_parts f g a b = ap (λ (z : ℕ). let fault : PartFault = record { bit = z; reason = f.reason } in fault) a ∙ ap (λ (z : PartReason). let fault : PartFault = record { bit = g.bit; reason = z } in fault) b

further_one : (s : Scheme) (w : ℕ) (f g : PartFault) → HasFurtherFault s w f → HasFurtherFault s w g → f ≡ g
further_one s w f g a b =
    let same = one_failure s (word_digits w) f.reason g.reason a.fields b.fields a.rest b.rest a.read b.read a.spelled b.spelled (outcome s f.reason a.fields a.fails) (outcome s g.reason b.fields b.fails) in
    fault_parts f g (a.bit ∙ same.1 ∙ sym b.bit) same.0

fault_begins : (s : Scheme) (w : ℕ) (f : PartFault) → HasFurtherFault s w f → HasHeader s w
fault_begins s w f a = failing_begins s w f.reason a.fields a.rest (outcome s f.reason a.fields a.fails) a.spelled

-- a word has one fault
pub one_fault : (w : ℕ) (f g : PartFault) → HasWordFaultInAll w f → HasWordFaultInAll w g → f ≡ g
one_fault w f g (inl a) (inl b) =
    let s : a.0 ≡ b.0 = one_header a.0 b.0 w (fault_begins a.0 w f a.1) (fault_begins b.0 w g b.1) in
    further_one b.0 w f g (subst (λ (z : Scheme). HasFurtherFault z w f) s a.1) b.1
one_fault w f g (inl a) (inr (inl b)) = absurd (supplier.header_apart a.0 w (fault_begins a.0 w f a.1) (supplier.fault_begins w g b))
one_fault w f g (inl a) (inr (inr b)) = absurd (b.0.no_scheme a.0 (fault_begins a.0 w f a.1))
one_fault w f g (inr (inl a)) (inl b) = absurd (supplier.header_apart b.0 w (fault_begins b.0 w g b.1) (supplier.fault_begins w f a))
one_fault w f g (inr (inl a)) (inr (inl b)) = supplier.one_wrong w f g a b
one_fault w f g (inr (inl a)) (inr (inr b)) = absurd (b.0.no_supplier (supplier.fault_begins w f a))
one_fault w f g (inr (inr a)) (inl b) = absurd (a.0.no_scheme b.0 (fault_begins b.0 w g b.1))
one_fault w f g (inr (inr a)) (inr (inl b)) = absurd (a.0.no_supplier (supplier.fault_begins w g b))
one_fault w f g (inr (inr a)) (inr (inr b)) =
    let same : a.1 ≡ b.1 = older.one_word_fault w a.1 b.1 a.2 b.2 in
    a.3 ∙ ap (λ (z : WordFault). let fault : PartFault = record { bit = z.bit; reason = Word z.reason } in fault) same ∙ sym b.3

-- ---- lawful words

lawful_or_further : (s : Scheme) (w : ℕ) (n : Numbers) (f : PartFault) → HasWord n w → HasFurtherFault s w f → ⊥
lawful_or_further s w n f h b =
    let begins = fields_begin n w h.lawful.fields [] h.lawful.has (h.spelled ∙ sym (append-nil (fields_digits h.lawful.fields))) in
    let same : n.scheme ≡ s = one_header n.scheme s w begins (fault_begins s w f b) in
    fails (record { epc = n; same = same; has = h.lawful.has }) (subst (λ (z : Scheme). HasSerial z n.last) same h.lawful.serial) (outcome s f.reason b.fields b.fails)
  where
    fails : (a : HasNumbers s h.lawful.fields) → HasSerial s a.epc.last → Outcome s f.reason b.fields → ⊥
    fails a serial (inl c) = row_or_not s (word_digits w) h.lawful.fields b.fields [] b.rest a c.0 (all_read h.lawful.fields h.lawful.fit) b.read (h.spelled ∙ sym (append-nil (fields_digits h.lawful.fields))) b.spelled
    fails a serial (inr (inl c)) =
        let fields = (one_numbers s (word_digits w) h.lawful.fields b.fields [] b.rest a c.0 (all_read h.lawful.fields h.lawful.fit) b.read (h.spelled ∙ sym (append-nil (fields_digits h.lawful.fields))) b.spelled).0 in
        fit_or_unfit b.fields (place_in_all f.reason) (subst (λ (z : List Field). AllFit z) fields h.lawful.fit) c.1
    fails a serial (inr (inr c)) =
        let last = (one_numbers s (word_digits w) h.lawful.fields b.fields [] b.rest a c.0 (all_read h.lawful.fields h.lawful.fit) b.read (h.spelled ∙ sym (append-nil (fields_digits h.lawful.fields))) b.spelled).1 in
        c.2 (subst (λ (z : ℕ). HasSerial s z) last serial)

-- what the word of an EPC begins with
epc_begins : (n : Numbers) (w : ℕ) → HasWord n w → HasHeader n.scheme w
epc_begins n w h = fields_begin n w h.lawful.fields [] h.lawful.has (h.spelled ∙ sym (append-nil (fields_digits h.lawful.fields)))

-- a word that some EPC has has no fault
pub lawful_or_fault : (w : ℕ) (f : PartFault) → IsLawfulInAll w → HasWordFaultInAll w f → ⊥
lawful_or_fault w f (inl (inl (n, h))) (inl b) = lawful_or_further b.0 w n f h b.1
lawful_or_fault w f (inl (inl (n, h))) (inr (inl b)) = supplier.header_apart n.scheme w (epc_begins n w h) (supplier.fault_begins w f b)
lawful_or_fault w f (inl (inl (n, h))) (inr (inr b)) = b.0.no_scheme n.scheme (epc_begins n w h)
lawful_or_fault w f (inl (inr (n, h))) (inl b) = supplier.header_apart b.0 w (fault_begins b.0 w f b.1) (supplier.supplier_begins n w h)
lawful_or_fault w f (inl (inr (n, h))) (inr (inl b)) = supplier.lawful_or_wrong n w f h b
lawful_or_fault w f (inl (inr (n, h))) (inr (inr b)) = b.0.no_supplier (supplier.supplier_begins n w h)
lawful_or_fault w f (inr (epc, h)) (inl b) = header_apart epc b.0 w h (fault_begins b.0 w f b.1)
lawful_or_fault w f (inr (epc, h)) (inr (inl b)) = supplier.older_apart epc w h (supplier.fault_begins w f b)
lawful_or_fault w f (inr (epc, h)) (inr (inr b)) = older.lawful_or_fault w b.1 (epc, h) b.2
