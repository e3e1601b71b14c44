-- A word, and numbers, have an EPC or one fault.
use Rattle.std.proofs.Common.{◌≡◌, ℕ, suc, ◌^◌, ◌<◌, ◌≤◌, Bool, List, [], ◌∷◌, ◌++◌, length, take, drop, Some, None, ◌⊎◌, inl, inr, refl, sym, ap, subst, ◌∙◌, arith, length-append}
use Rattle.std.proofs.lemmas.List.{append-nil}
use Rattle.std.specs.Prelude.{◌==◌, cond}
use Rattle.tag_bits.specs.Digits.{digits, word_digits}
use Rattle.tag_bits.proofs.DigitLemmas.{length-digits}
use Rattle.tag_epc.specs.declared.kind.Kind.{Kind}
use Rattle.tag_epc.specs.declared.kind.Kind.TheVariants.{Gid}
use Rattle.tag_epc.specs.declared.epc.Parts.{Parts}
use Rattle.tag_epc.specs.declared.epc.Parts.TheVariants.{Partitioned, General}
use Rattle.tag_epc.specs.declared.fault.EpcFault.{EpcFault}
use Rattle.tag_epc.specs.declared.fault.EpcFault.TheVariants as epc
use Rattle.tag_epc.specs.declared.fault.WordReason.{WordReason}
use Rattle.tag_epc.specs.declared.fault.WordReason.TheVariants as word
use Rattle.tag_epc.specs.declared.fault.WordFault.{WordFault}
use Rattle.tag_epc.specs.Layout.{Layout, layout_of, header_of, row_at, plain_segment, leading_segments, number_segments}
use Rattle.tag_epc.specs.LawfulWord.{Field, fill, fields_digits, AllFit, HasPartition, HasFields, IsLawfulEpc, IsLawfulWord, kind_of_parts}
use Rattle.tag_epc.specs.Faults.{FirstUnfit, HasNoScheme, HasNoRow, HasUnfitAt, Fails, place_of, AllRead, HasWordFault}
use Rattle.tag_epc.specs.Calls.Faults.{HasUnfit, HasEpcFault}
use Rattle.tag_epc.proofs.Soundness.{layout_sound}
use Rattle.tag_epc.proofs.FieldLemmas.{all_read, fit_or_unfit, one_unfit, same_part, same_numbers}
use Rattle.tag_epc.proofs.OneReading.{header_below, header_is, Begins, header_first, fields_begin, spell-append, one_beginning, one_fields, one_reading, some_same}

-- a partition value without a row follows a scheme's header
row_begins : (fs : List Field) (xs ds : List Bool) (a : HasNoRow fs) → ds ≡ fields_digits fs ++ xs → Begins ds a.kind
row_begins fs xs ds a e =
    header_first a.kind a.layout.header (take 2 (drop 1 (fill leading_segments (a.layout.header ∷ a.filter ∷ a.partition ∷ [])))) xs ds 8 refl (header_is a.kind a.layout a.scheme) (e ∙ ap (λ (x : List Field). fields_digits x ++ xs) a.filled)

-- digits do not begin with the header of a scheme and of none
known_or_not : (ds : List Bool) (fs : List Field) (xs : List Bool) (k : Kind) (a : HasNoScheme fs) → AllRead fs → ds ≡ fields_digits fs ++ xs → Begins ds k → ⊥
known_or_not ds fs xs k a read e b =
    let reads : AllRead (fill (plain_segment 8 ∷ []) (a.header ∷ [])) = subst (λ (z : List Field). AllRead z) a.filled read in
    let is : ds ≡ digits 8 a.header ++ xs = e ∙ ap (λ (x : List Field). fields_digits x ++ xs) a.filled ∙ ap (λ (x : List Bool). x ++ xs) (append-nil (digits 8 a.header)) in
    a.unknown k (same_part 8 (header_of k) a.header b.rest xs (header_below k) reads.0 (sym b.is ∙ is)).0

-- digits are not read with a row and without one
row_or_not : (ds : List Bool) (i : Parts) (fs gs : List Field) (xs ys : List Bool) → HasFields i fs → HasNoRow gs → AllRead fs → AllRead gs → ds ≡ fields_digits fs ++ xs → ds ≡ fields_digits gs ++ ys → ⊥
row_or_not ds (General m o s) fs gs xs ys a b x y d e =
    let kind : b.kind ≡ Gid = one_beginning ds b.kind Gid (row_begins gs ys ds b e) (fields_begin (General m o s) fs xs ds a d) in
    let none : layout_of b.kind ≡ None = ap layout_of kind in
    let some = b.scheme in cc
row_or_not ds (Partitioned k f d' c t n) fs gs xs ys a b x y d e =
    let kind : b.kind ≡ k = one_beginning ds b.kind k (row_begins gs ys ds b e) (fields_begin (Partitioned k f d' c t n) fs xs ds a d) in
    let l : b.layout ≡ a.layout = some_same b.layout a.layout (sym b.scheme ∙ ap layout_of kind ∙ a.scheme) in
    let filled : gs ≡ fill leading_segments (a.layout.header ∷ b.filter ∷ b.partition ∷ []) = b.filled ∙ ap (λ (z : Layout). fill leading_segments (z.header ∷ b.filter ∷ b.partition ∷ [])) l in
    let read = subst (λ (z : List Field). AllRead z) a.filled x in
    let reads = subst (λ (z : List Field). AllRead z) filled y in
    let numbers = fill (number_segments a.layout a.row) (c ∷ t ∷ n ∷ []) in
    let split : fields_digits (fill leading_segments (a.layout.header ∷ f ∷ a.partition ∷ [])) ++ (fields_digits numbers ++ xs) ≡ fields_digits (fill leading_segments (a.layout.header ∷ b.filter ∷ b.partition ∷ [])) ++ ys
    = sym (spell-append (fill leading_segments (a.layout.header ∷ f ∷ a.partition ∷ [])) numbers xs) ∙ ap (λ (z : List Field). fields_digits z ++ xs) (sym a.filled) ∙ sym d ∙ e ∙ ap (λ (z : List Field). fields_digits z ++ ys) filled in
    let same = same_numbers leading_segments (a.layout.header ∷ f ∷ a.partition ∷ []) (a.layout.header ∷ b.filter ∷ b.partition ∷ []) (fields_digits numbers ++ xs) ys refl refl (read.0, (read.1.0, (read.1.1.0, tt))) reads split in
    let partition : a.partition ≡ b.partition = cc in
    let placed : row_at a.layout b.partition ≡ Some a.row = ap (λ (z : ℕ). row_at a.layout z) (sym partition) ∙ a.placed in
    let none : row_at a.layout b.partition ≡ None = ap (λ (z : Layout). row_at z b.partition) (sym l) ∙ b.none in
    cc

-- the three ways in which the fields of a word fail
abbrev Outcome : WordReason → List Field → Type 0
Outcome r fs = (HasNoScheme fs × (r ≡ word.Header)) ⊎ ((HasNoRow fs × (r ≡ word.Partition)) ⊎ HasUnfitAt (place_of r) fs)

-- each failure is one of the three
outcome : (r : WordReason) (fs : List Field) → Fails r fs → Outcome r fs
outcome word.Header fs a = inl (a, refl)
outcome word.Partition fs a = inr (inl (a, refl))
outcome word.Prefix fs a = inr (inr a)
outcome word.Reference fs a = inr (inr a)
outcome word.Zeros fs a = inr (inr a)

-- the reason by its place
abbrev reason_at : ℕ → WordReason
reason_at n = cond (n == 0) word.Header (cond (n == 2) word.Partition (cond (n == 3) word.Prefix (cond (n == 4) word.Reference word.Zeros)))

-- a reason is known by its place
reason_of_place : (r : WordReason) → reason_at (place_of r) ≡ r
reason_of_place word.Header = refl
reason_of_place _ = refl

-- the first bit of the field that fails
abbrev first_bit : WordReason → List Field → ℕ
first_bit r fs = length (fields_digits (take (place_of r) fs))

-- without a scheme it is bit 0
no_scheme_bit : (r : WordReason) (fs : List Field) → r ≡ word.Header → first_bit r fs ≡ 0
no_scheme_bit r fs e = ap (λ (x : WordReason). first_bit x fs) e

-- without a row it is bit 11
no_row_bit : (r : WordReason) (fs : List Field) → HasNoRow fs → r ≡ word.Partition → first_bit r fs ≡ 11
no_row_bit r fs a e =
    ap (λ (x : WordReason). first_bit x fs) e ∙ ap (λ (x : List Field). first_bit word.Partition x) a.filled ∙ simp (length-append, length-digits) refl

-- two failures of the same digits have one reason and one bit
one_failure : (ds : List Bool) (r q : WordReason) (fs gs : List Field) (xs ys : List Bool) → AllRead fs → AllRead gs → ds ≡ fields_digits fs ++ xs → ds ≡ fields_digits gs ++ ys
    → Outcome r fs → Outcome q gs → (r ≡ q) × (first_bit r fs ≡ first_bit q gs)
one_failure ds r q fs gs xs ys x y d e (inl a) (inl b) = (a.1 ∙ sym b.1, no_scheme_bit r fs a.1 ∙ sym (no_scheme_bit q gs b.1))
one_failure ds r q fs gs xs ys x y d e (inl a) (inr (inl b)) = absurd (known_or_not ds fs xs b.0.kind a.0 x d (row_begins gs ys ds b.0 e))
one_failure ds r q fs gs xs ys x y d e (inl a) (inr (inr b)) = absurd (known_or_not ds fs xs (kind_of_parts b.epc) a.0 x d (fields_begin b.epc gs ys ds b.has e))
one_failure ds r q fs gs xs ys x y d e (inr (inl a)) (inl b) = absurd (known_or_not ds gs ys a.0.kind b.0 y e (row_begins fs xs ds a.0 d))
one_failure ds r q fs gs xs ys x y d e (inr (inl a)) (inr (inl b)) = (a.1 ∙ sym b.1, no_row_bit r fs a.0 a.1 ∙ sym (no_row_bit q gs b.0 b.1))
one_failure ds r q fs gs xs ys x y d e (inr (inl a)) (inr (inr b)) = absurd (row_or_not ds b.epc gs fs ys xs b.has a.0 y x e d)
one_failure ds r q fs gs xs ys x y d e (inr (inr a)) (inl b) = absurd (known_or_not ds gs ys (kind_of_parts a.epc) b.0 y e (fields_begin a.epc fs xs ds a.has d))
one_failure ds r q fs gs xs ys x y d e (inr (inr a)) (inr (inl b)) = absurd (row_or_not ds a.epc fs gs xs ys a.has b.0 x y d e)
one_failure ds r q fs gs xs ys x y d e (inr (inr a)) (inr (inr b)) =
    let same : a.epc ≡ b.epc = one_reading a.epc b.epc fs gs xs ys a.has b.has x y (sym d ∙ e) in
    let fields : fs ≡ gs = one_fields b.epc fs gs (subst (λ (z : Parts). HasFields z fs) same a.has) b.has in
    let place : place_of r ≡ place_of q = one_unfit gs (place_of r) (place_of q) (subst (λ (z : List Field). FirstUnfit z (place_of r)) fields a.first) b.first in
    let reason : r ≡ q = sym (reason_of_place r) ∙ ap reason_at place ∙ reason_of_place q in
    (reason, ap (λ (z : WordReason). first_bit z fs) reason ∙ ap (λ (z : List Field). first_bit q z) fields)

-- a word has one fault
pub one_word_fault : (w : ℕ) (f g : WordFault) → HasWordFault w f → HasWordFault w g → f ≡ g
one_word_fault w f g a b =
    let same = one_failure (word_digits w) f.reason g.reason a.fields b.fields a.rest b.rest a.read b.read a.spelled b.spelled (outcome f.reason a.fields a.fails) (outcome g.reason b.fields b.fails) in
    let bit : f.bit ≡ g.bit = a.bit ∙ same.1 ∙ sym b.bit in
    ap (λ (z : ℕ). let fault : WordFault = record { bit = z; reason = f.reason } in fault) bit ∙ ap (λ (z : WordReason). let fault : WordFault = record { bit = g.bit; reason = z } in fault) same.0

-- a lawful word has no failure
lawful_or_failure : (ds : List Bool) (r : WordReason) (i : Parts) (fs gs : List Field) (xs ys : List Bool) → HasFields i fs → AllFit fs → AllRead gs → ds ≡ fields_digits fs ++ xs → ds ≡ fields_digits gs ++ ys → Outcome r gs → ⊥
lawful_or_failure ds r i fs gs xs ys a x y d e (inl b) = known_or_not ds gs ys (kind_of_parts i) b.0 y e (fields_begin i fs xs ds a d)
lawful_or_failure ds r i fs gs xs ys a x y d e (inr (inl b)) = row_or_not ds i fs gs xs ys a b.0 (all_read fs x) y d e
lawful_or_failure ds r i fs gs xs ys a x y d e (inr (inr b)) =
    let same : i ≡ b.epc = one_reading i b.epc fs gs xs ys a b.has (all_read fs x) y (sym d ∙ e) in
    let fields : gs ≡ fs = one_fields b.epc gs fs b.has (subst (λ (z : Parts). HasFields z fs) same a) in
    fit_or_unfit fs (place_of r) x (subst (λ (z : List Field). FirstUnfit z (place_of r)) fields b.first)

-- a lawful word has no fault
pub lawful_or_fault : (w : ℕ) (f : WordFault) → IsLawfulWord w → HasWordFault w f → ⊥
lawful_or_fault w f a b =
    lawful_or_failure (word_digits w) f.reason a.0 a.1.lawful.fields b.fields [] b.rest a.1.lawful.has a.1.lawful.fit b.read (a.1.spelled ∙ sym (append-nil (fields_digits a.1.lawful.fields))) b.spelled (outcome f.reason b.fields b.fails)

-- numbers have one first that does not fit
unfit_place : (e : Parts) (m n : ℕ) → HasUnfit e m → HasUnfit e n → m ≡ n
unfit_place e m n a b =
    let fields : a.fields ≡ b.fields = one_fields e a.fields b.fields a.has b.has in
    one_unfit b.fields m n (subst (λ (z : List Field). FirstUnfit z m) fields a.first) b.first

-- an EPC's numbers all fit
lawful_or_unfit : (e : Parts) (n : ℕ) → IsLawfulEpc e → HasUnfit e n → ⊥
lawful_or_unfit e n a b =
    let fields : b.fields ≡ a.fields = one_fields e b.fields a.fields b.has a.has in
    fit_or_unfit a.fields n a.fit (subst (λ (z : List Field). FirstUnfit z n) fields b.first)

-- the digits of a company prefix that has a row
counted : (k : Kind) (f d c t n : ℕ) (fs : List Field) → HasPartition k f d c t n fs → (6 ≤ d) × (d ≤ 12)
counted k f d c t n fs a =
    let s = (layout_sound k a.layout a.scheme).rows a.partition a.row a.placed in
    (omega (arith, a.counted, s.partition), omega (arith, a.counted))

-- a filter value before a number that does not fit
filter_fits : (k : Kind) (f d c t n m : ℕ) → HasUnfit (Partitioned k f d c t n) (suc (suc (suc m))) → f < 8
filter_fits k f d c t n m a =
    let before = subst (λ (z : List Field). AllFit (take (suc (suc (suc m))) z)) a.has.filled a.first.before in
    before.1.0.bits

-- the fault of a number by its place after the partition value, or after the header of GID-96
abbrev number_fault : ℕ → EpcFault
number_fault m = cond (m == 0) epc.Prefix (cond (m == 1) epc.Reference epc.Last)

-- the ways in which numbers fail
abbrev Failure : Parts → EpcFault → Type 0
Failure (Partitioned k f d c t n) e = ((epc.Filter ≡ e) × (8 ≤ f)) ⊎ (((epc.Digits ≡ e) × (f < 8) × ¬ ((6 ≤ d) × (d ≤ 12)))
    ⊎ ((m : ℕ) × (number_fault m ≡ e) × HasUnfit (Partitioned k f d c t n) (suc (suc (suc m)))))
Failure (General m o s) e = (n : ℕ) × (number_fault n ≡ e) × HasUnfit (General m o s) (suc n)

-- each fault is one of them
failure : (e : Parts) (f : EpcFault) → HasEpcFault e f → Failure e f
failure (Partitioned k f d c t n) epc.Filter a = inl (refl, a)
failure (Partitioned k f d c t n) epc.Digits a = inr (inl (refl, a.0, a.1))
failure (Partitioned k f d c t n) epc.Prefix a = inr (inr (0, refl, a))
failure (Partitioned k f d c t n) epc.Reference a = inr (inr (1, refl, a))
failure (Partitioned k f d c t n) epc.Last a = inr (inr (2, refl, a))
failure (General m o s) epc.Filter a = absurd a
failure (General m o s) epc.Digits a = absurd a
failure (General m o s) epc.Prefix a = (0, refl, a)
failure (General m o s) epc.Reference a = (1, refl, a)
failure (General m o s) epc.Last a = (2, refl, a)

-- two failures of the same numbers are one fault
one_check : (e : Parts) (f g : EpcFault) → Failure e f → Failure e g → f ≡ g
one_check (General m o s) f g a b =
    let place : a.0 ≡ b.0 = let up = unfit_place (General m o s) (suc a.0) (suc b.0) a.2 b.2 in omega arith in
    sym a.1 ∙ ap number_fault place ∙ b.1
one_check (Partitioned k f d c t n) e g (inl a) (inl b) = sym a.0 ∙ b.0
one_check (Partitioned k f d c t n) e g (inl a) (inr (inl b)) = absurd (omega (arith, a.1, b.1))
one_check (Partitioned k f d c t n) e g (inl a) (inr (inr b)) = absurd (omega (arith, a.1, filter_fits k f d c t n b.0 b.2))
one_check (Partitioned k f d c t n) e g (inr (inl a)) (inl b) = absurd (omega (arith, b.1, a.1))
one_check (Partitioned k f d c t n) e g (inr (inl a)) (inr (inl b)) = sym a.0 ∙ b.0
one_check (Partitioned k f d c t n) e g (inr (inl a)) (inr (inr b)) = absurd (a.2 (counted k f d c t n b.2.fields b.2.has))
one_check (Partitioned k f d c t n) e g (inr (inr a)) (inl b) = absurd (omega (arith, b.1, filter_fits k f d c t n a.0 a.2))
one_check (Partitioned k f d c t n) e g (inr (inr a)) (inr (inl b)) = absurd (b.2 (counted k f d c t n a.2.fields a.2.has))
one_check (Partitioned k f d c t n) e g (inr (inr a)) (inr (inr b)) =
    let place : a.0 ≡ b.0 = let up = unfit_place (Partitioned k f d c t n) (suc (suc (suc a.0))) (suc (suc (suc b.0))) a.2 b.2 in omega arith in
    sym a.1 ∙ ap number_fault place ∙ b.1

-- numbers have one fault
pub one_epc_fault : (e : Parts) (f g : EpcFault) → HasEpcFault e f → HasEpcFault e g → f ≡ g
one_epc_fault e f g a b = one_check e f g (failure e f a) (failure e g b)

-- an EPC's numbers do not fail
lawful_or_check : (e : Parts) (f : EpcFault) → IsLawfulEpc e → Failure e f → ⊥
lawful_or_check (General m o s) f a b = lawful_or_unfit (General m o s) (suc b.0) a b.2
lawful_or_check (Partitioned k f d c t n) e a (inl b) =
    let fit = subst (λ (z : List Field). AllFit z) a.has.filled a.fit in
    let small : f < 2 ^ 3 = fit.1.0.bits in
    omega (arith, b.1)
lawful_or_check (Partitioned k f d c t n) e a (inr (inl b)) = b.2 (counted k f d c t n a.fields a.has)
lawful_or_check (Partitioned k f d c t n) e a (inr (inr b)) = lawful_or_unfit (Partitioned k f d c t n) (suc (suc (suc b.0))) a b.2

-- an EPC's numbers have no fault
pub lawful_or_epc_fault : (e : Parts) (f : EpcFault) → IsLawfulEpc e → HasEpcFault e f → ⊥
lawful_or_epc_fault e f a b = lawful_or_check e f a (failure e f b)
