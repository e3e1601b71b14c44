-- The fields of an EPC, and that a word is read in one way.
use Rattle.std.proofs.Common.{◌≡◌, ℕ, ◌^◌, ◌<◌, Bool, true, List, [], ◌∷◌, ◌++◌, length, drop, Option, Some, None, refl, sym, ap, subst, ◌∙◌, arith, length-append}
use Rattle.std.specs.Prelude.{nat_lt, option_map, slice_get, unwrap_or}
use Rattle.std.proofs.lemmas.Bool.{ltb-true}
use Rattle.std.proofs.lemmas.List.{append_assoc}
use Rattle.tag_bits.specs.Digits.{digits, value, word_digits}
use Rattle.tag_bits.proofs.DigitLemmas.{length-digits, digits_from, digits-injective, value-below}
use Rattle.tag_epc.specs.declared.scheme.Row.{Row}
use Rattle.tag_epc.specs.declared.kind.Kind.{Kind}
use Rattle.tag_epc.specs.declared.kind.Kind.TheVariants.{Gid}
use Rattle.tag_epc.specs.declared.epc.Parts.{Parts}
use Rattle.tag_epc.specs.declared.epc.Parts.TheVariants.{Partitioned, General}
use Rattle.tag_epc.proofs.KindLemmas.{listed, place_in}
use Rattle.tag_epc.specs.Private.Layout.{every_kind}
use Rattle.tag_epc.specs.Layout.{Layout, layout_of, header_of, row_at, leading_segments, number_segments, gid_segments, gid_header}
use Rattle.tag_epc.specs.LawfulWord.{Field, fill, fields_digits, HasFields, IsLawfulEpc, Spells, HasWord, kind_of_parts}
use Rattle.tag_epc.specs.Faults.{AllRead}
use Rattle.tag_epc.proofs.Soundness.{layout_sound}
use Rattle.tag_epc.proofs.FieldLemmas.{all_read, same_part, same_numbers}

-- what two equal options hold
pub some_same : {A : Type 0} (a b : A) → Some a ≡ Some b → a ≡ b
some_same a b e = cc

-- the fields of a row of a layout
abbrev pub row_fields : Layout → Row → ℕ → ℕ → ℕ → ℕ → ℕ → List Field
row_fields l r f p c t n = fill leading_segments (l.header ∷ f ∷ p ∷ []) ++ fill (number_segments l r) (c ∷ t ∷ n ∷ [])

-- a scheme has one header
one_kind : (j k : Kind) → header_of j ≡ header_of k → j ≡ k
one_kind j k e = some_same j k (sym (listed j) ∙ ap (λ h. slice_get every_kind (place_in every_kind h)) e ∙ listed k)

-- this computes for each scheme
header_small : (k : Kind) → nat_lt (header_of k) 256 ≡ true
header_small Gid = refl
header_small _ = refl

-- a header has eight bits
pub header_below : (k : Kind) → header_of k < 2 ^ 8
header_below k = ltb-true (header_of k) 256 (header_small k)

-- the header of a scheme with a company prefix
pub header_is : (k : Kind) (l : Layout) → layout_of k ≡ Some l → header_of k ≡ l.header
header_is k l e = ap (λ (o : Option Layout). unwrap_or (option_map (λ (x : Layout). x.header) o) gid_header) e

-- the digits of fields in a row, and what follows them
pub spell-append : (fs gs : List Field) (xs : List Bool) → fields_digits (fs ++ gs) ++ xs ≡ fields_digits fs ++ (fields_digits gs ++ xs)
spell-append [] gs xs = refl
spell-append (f ∷ fs) gs xs =
    append_assoc (digits f.segment.width f.number) (fields_digits (fs ++ gs)) (xs)
    ∙ ap (λ (ds : List Bool). digits f.segment.width f.number ++ ds) (spell-append fs gs xs)
    ∙ sym (append_assoc (digits f.segment.width f.number) (fields_digits fs) (fields_digits gs ++ xs))

-- digits that begin with a header
pub record Begins (ds : List Bool) (k : Kind) : Type 0 where
  pub rest : List Bool
  pub is : ds ≡ digits 8 (header_of k) ++ rest

-- the digits of fields that begin with a header
pub header_first : (k : Kind) (h : ℕ) (fs : List Field) (xs ds : List Bool) (width : ℕ) → width ≡ 8 → header_of k ≡ h → ds ≡ (digits width h ++ fields_digits fs) ++ xs → Begins ds k
header_first k h fs xs ds width w e d = record {
  rest = fields_digits fs ++ xs;
  is = d ∙ append_assoc (digits width h) (fields_digits fs) xs ∙ ap (λ (x : ℕ). digits x h ++ (fields_digits fs ++ xs)) w ∙ ap (λ (x : ℕ). digits 8 x ++ (fields_digits fs ++ xs)) (sym e);
}

-- the digits of an EPC's fields begin with its scheme's header
pub fields_begin : (epc : Parts) (fs : List Field) (xs ds : List Bool) → HasFields epc fs → ds ≡ fields_digits fs ++ xs → Begins ds (kind_of_parts epc)
fields_begin (Partitioned k f d c t n) fs xs ds a e =
    header_first k a.layout.header (drop 1 (row_fields a.layout a.row f a.partition c t n)) xs ds 8 refl (header_is k a.layout a.scheme) (e ∙ ap (λ (x : List Field). fields_digits x ++ xs) a.filled)
fields_begin (General m o s) fs xs ds a e = header_first Gid gid_header (drop 1 (fill gid_segments (gid_header ∷ m ∷ o ∷ s ∷ []))) xs ds 8 refl refl (e ∙ ap (λ (x : List Field). fields_digits x ++ xs) a)

-- digits begin with one header
pub one_beginning : (ds : List Bool) (j k : Kind) → Begins ds j → Begins ds k → j ≡ k
one_beginning ds j k a b = one_kind j k (same_part 8 (header_of j) (header_of k) a.rest b.rest (header_below j) (header_below k) (sym a.is ∙ b.is)).0

-- an EPC has one list of fields
pub one_fields : (epc : Parts) (fs gs : List Field) → HasFields epc fs → HasFields epc gs → fs ≡ gs
one_fields (General m o s) fs gs a b = a ∙ sym b
one_fields (Partitioned k f d c t n) fs gs a b =
    let l : a.layout ≡ b.layout = some_same a.layout b.layout (sym a.scheme ∙ b.scheme) in
    let p : a.partition ≡ b.partition = omega (arith, a.counted, b.counted) in
    let r : a.row ≡ b.row = some_same a.row b.row (sym a.placed ∙ ap (λ (x : Layout). row_at x a.partition) l ∙ ap (λ (x : ℕ). row_at b.layout x) p ∙ b.placed) in
    a.filled ∙ ap (λ (x : Layout). row_fields x a.row f a.partition c t n) l ∙ ap (λ (x : Row). row_fields b.layout x f a.partition c t n) r ∙ ap (λ (x : ℕ). row_fields b.layout b.row f x c t n) p ∙ sym b.filled

-- the numbers in the fields of one layout
pub record SameNumbers (f p c t n g q d u o : ℕ) (r s : Row) : Type 0 where
  pub filter : f ≡ g
  pub partition : p ≡ q
  pub row : r ≡ s
  pub company : c ≡ d
  pub reference : t ≡ u
  pub last : n ≡ o

-- equal digits of the fields of one layout give the same numbers
same_rows : (l : Layout) (r s : Row) (f p c t n g q d u o : ℕ) (xs ys : List Bool) → row_at l p ≡ Some r → row_at l q ≡ Some s
    → AllRead (row_fields l r f p c t n) → AllRead (row_fields l s g q d u o) → fields_digits (row_fields l r f p c t n) ++ xs ≡ fields_digits (row_fields l s g q d u o) ++ ys
    → SameNumbers f p c t n g q d u o r s
same_rows l r s f p c t n g q d u o xs ys x y a b e =
    let numbers = fill (number_segments l r) (c ∷ t ∷ n ∷ []) in
    let others = fill (number_segments l s) (d ∷ u ∷ o ∷ []) in
    let split : fields_digits (fill leading_segments (l.header ∷ f ∷ p ∷ [])) ++ (fields_digits numbers ++ xs) ≡ fields_digits (fill leading_segments (l.header ∷ g ∷ q ∷ [])) ++ (fields_digits others ++ ys)
    = sym (spell-append (fill leading_segments (l.header ∷ f ∷ p ∷ [])) numbers xs) ∙ e ∙ spell-append (fill leading_segments (l.header ∷ g ∷ q ∷ [])) others ys in
    let first = same_numbers leading_segments (l.header ∷ f ∷ p ∷ []) (l.header ∷ g ∷ q ∷ []) (fields_digits numbers ++ xs) (fields_digits others ++ ys) refl refl (a.0, (a.1.0, (a.1.1.0, tt))) (b.0, (b.1.0, (b.1.1.0, tt))) split in
    let filter : f ≡ g = cc in
    let partition : p ≡ q = cc in
    let row : r ≡ s = some_same r s (sym x ∙ ap (λ (k : ℕ). row_at l k) partition ∙ y) in
    let behind : fields_digits numbers ++ xs ≡ fields_digits (fill (number_segments l r) (d ∷ u ∷ o ∷ [])) ++ ys = first.1 ∙ ap (λ (z : Row). fields_digits (fill (number_segments l z) (d ∷ u ∷ o ∷ [])) ++ ys) (sym row) in
    let read : AllRead (fill (number_segments l r) (d ∷ u ∷ o ∷ [])) = subst (λ (z : Row). AllRead (fill (number_segments l z) (d ∷ u ∷ o ∷ []))) (sym row) b.1.1.1 in
    let last = same_numbers (number_segments l r) (c ∷ t ∷ n ∷ []) (d ∷ u ∷ o ∷ []) xs ys refl refl a.1.1.1 read behind in
    record { filter = filter; partition = partition; row = row; company = cc; reference = cc; last = cc }

-- GID-96 has no layout
no_layout : (k : Kind) (l : Layout) → layout_of k ≡ Some l → k ≡ Gid → ⊥
no_layout k l e h = let none : layout_of k ≡ None = ap layout_of h in cc

-- digits are read as the fields of one EPC
pub one_reading : (i j : Parts) (fs gs : List Field) (xs ys : List Bool) → HasFields i fs → HasFields j gs → AllRead fs → AllRead gs → fields_digits fs ++ xs ≡ fields_digits gs ++ ys → i ≡ j
one_reading (General m o s) (General n p t) fs gs xs ys a b x y e =
    let read = subst (λ (z : List Field). AllRead z) a x in
    let reads = subst (λ (z : List Field). AllRead z) b y in
    let same = same_numbers gid_segments (gid_header ∷ m ∷ o ∷ s ∷ []) (gid_header ∷ n ∷ p ∷ t ∷ []) xs ys refl refl read reads (ap (λ (z : List Field). fields_digits z ++ xs) (sym a) ∙ e ∙ ap (λ (z : List Field). fields_digits z ++ ys) b) in
    let manager : m ≡ n = cc in
    let class : o ≡ p = cc in
    let serial : s ≡ t = cc in
    rw (manager, class, serial) refl
one_reading (General m o s) (Partitioned k f d c t n) fs gs xs ys a b x y e =
    let begins = fields_begin (General m o s) fs xs (fields_digits fs ++ xs) a refl in
    absurd (no_layout k b.layout b.scheme (one_beginning (fields_digits fs ++ xs) k Gid (fields_begin (Partitioned k f d c t n) gs ys (fields_digits fs ++ xs) b e) begins))
one_reading (Partitioned k f d c t n) (General m o s) fs gs xs ys a b x y e =
    let begins = fields_begin (Partitioned k f d c t n) fs xs (fields_digits fs ++ xs) a refl in
    absurd (no_layout k a.layout a.scheme (one_beginning (fields_digits fs ++ xs) k Gid begins (fields_begin (General m o s) gs ys (fields_digits fs ++ xs) b e)))
one_reading (Partitioned k f d c t n) (Partitioned j g h u v o) fs gs xs ys a b x y e =
    let kind : k ≡ j = one_beginning (fields_digits fs ++ xs) k j (fields_begin (Partitioned k f d c t n) fs xs (fields_digits fs ++ xs) a refl) (fields_begin (Partitioned j g h u v o) gs ys (fields_digits fs ++ xs) b e) in
    let l : b.layout ≡ a.layout = some_same b.layout a.layout (sym b.scheme ∙ ap layout_of (sym kind) ∙ a.scheme) in
    let filled : gs ≡ row_fields a.layout b.row g b.partition u v o = b.filled ∙ ap (λ (z : Layout). row_fields z b.row g b.partition u v o) l in
    let placed : row_at a.layout b.partition ≡ Some b.row = subst (λ (z : Layout). row_at z b.partition ≡ Some b.row) l b.placed in
    let read = subst (λ (z : List Field). AllRead z) a.filled x in
    let reads = subst (λ (z : List Field). AllRead z) filled y in
    let same = same_rows a.layout a.row b.row f a.partition c t n g b.partition u v o xs ys a.placed placed read reads (ap (λ (z : List Field). fields_digits z ++ xs) (sym a.filled) ∙ e ∙ ap (λ (z : List Field). fields_digits z ++ ys) filled) in
    let counted : d ≡ h = omega (arith, a.counted, b.counted, same.partition) in
    rw (kind, same.filter, counted, same.company, same.reference, same.last) refl

-- the fields of an EPC have 96 digits
fields_fill : (epc : Parts) (fs : List Field) → HasFields epc fs → length (fields_digits fs) ≡ 96
fields_fill (Partitioned k f d c t n) fs a =
    let s = (layout_sound k a.layout a.scheme).rows a.partition a.row a.placed in
    ap (λ (z : List Field). length (fields_digits z)) a.filled ∙ simp (length-append, length-digits) (omega (arith, s.fills))
fields_fill (General m o s) fs a = ap (λ (z : List Field). length (fields_digits z)) a ∙ simp (length-append, length-digits) refl

-- a lawful EPC has a word
pub has_word : (epc : Parts) → IsLawfulEpc epc → (w : ℕ) × (w < 2 ^ 96) × HasWord epc w
unfolding word_digits
has_word epc a =
    let full = fields_fill epc a.fields a.has in
    (value (fields_digits a.fields), subst (λ (k : ℕ). value (fields_digits a.fields) < 2 ^ k) full (value-below (fields_digits a.fields)), record { lawful = a; spelled = digits_from 96 (value (fields_digits a.fields)) (fields_digits a.fields) full refl })

-- an EPC has one word
pub one_word : (epc : Parts) (v w : ℕ) → v < 2 ^ 96 → w < 2 ^ 96 → HasWord epc v → HasWord epc w → v ≡ w
unfolding word_digits
one_word epc v w p q a b = digits-injective 96 v w p q (a.spelled ∙ ap fields_digits (one_fields epc a.lawful.fields b.lawful.fields a.lawful.has b.lawful.has) ∙ sym b.spelled)

-- digits are spelled by one EPC
pub one_epc : (d e : Parts) (ds : List Bool) → Spells d ds → Spells e ds → d ≡ e
one_epc d e ds a b =
    one_reading d e a.lawful.fields b.lawful.fields [] [] a.lawful.has b.lawful.has (all_read a.lawful.fields a.lawful.fit) (all_read b.lawful.fields b.lawful.fit)
    (ap (λ (x : List Bool). x ++ []) (sym a.spelled ∙ b.spelled))
