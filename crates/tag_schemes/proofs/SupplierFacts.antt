-- The words of USDoD-96: one EPC each, and none of the other schemes.
use Rattle.std.proofs.Common.{◌≡◌, ℕ, zero, suc, ◌+◌, ◌*◌, ◌^◌, ◌<◌, Bool, true, false, List, [], ◌∷◌, ◌++◌, length, get_or, take, drop, refl, sym, ap, subst, ◌∙◌, arith, length-drop}
use Rattle.std.specs.Prelude.{◌==◌}
use Rattle.std.proofs.lemmas.Bool.{eq-eqb}
use Rattle.std.proofs.lemmas.List.{append_assoc, append-nil, append_cancel_left, drop-drop, length-take-le, take_at}
use Rattle.std.proofs.Math.Seq.{take-add}
use Rattle.tag_epc.proofs.DigitMoves.{none}
use Rattle.tag_bits.specs.Digits.{digits, digits_of_bytes, word_digits, field, value}
use Rattle.tag_bits.proofs.DigitLemmas.{length-digits, digits-injective, digits-value, drop-seam}
use Rattle.tag_epc.specs.declared.kind.Kind.{Kind}
use Rattle.tag_epc.specs.declared.kind.Kind.TheVariants.{Sgtin, Sscc, Sgln, Grai, Gdti, Gsrn, Gid}
use Rattle.tag_epc.specs.declared.epc.Parts.{Parts}
use Rattle.tag_epc.specs.Layout.{header_of}
use Rattle.tag_epc.specs.LawfulWord as older
use Rattle.tag_epc.specs.LawfulWord.{fields_digits, kind_of_parts}
use Rattle.tag_epc.proofs.FieldLemmas.{same_part}
use Rattle.tag_epc.proofs.OneReading as reading
use Rattle.tag_schemes.specs.declared.scheme.Scheme.{Scheme}
use Rattle.tag_schemes.specs.declared.scheme.Scheme.TheVariants.{Giai, Gsrnp, Sgcn, Cpi}
use Rattle.tag_schemes.specs.declared.supplier.Supplier.{Supplier}
use Rattle.tag_schemes.specs.declared.fault.PartFault.{PartFault}
use Rattle.tag_schemes.specs.declared.fault.PartReason.TheVariants as part
use Rattle.tag_schemes.specs.Schemes.{layout_in}
use Rattle.tag_schemes.specs.Suppliers.{supplier_header, may_stand, IsSupplier, HasSupplierWord, MayStand}
use Rattle.tag_schemes.specs.SupplierRules.{HasSupplierFault, HasSupplierHeader}
use Rattle.tag_schemes.specs.WordFaults.{HasHeader}
use Rattle.tag_schemes.proofs.WordFacts.{header_below, field-cut, field-seam, word_length}

-- ---- characters

-- one more character that may stand
pub stands_more : (p i : ℕ) (cs : List ℕ) → i < length cs → MayStand p (take i cs) → may_stand (p + i) (get_or cs i 0) ≡ true → MayStand p (take (i + 1) cs)
stands_more p i [] few h e = absurd (omega (arith, few))
stands_more p zero (c ∷ cs) few h e =
    let same : p + zero ≡ p = omega arith in
    (subst (λ (k : ℕ). may_stand k c ≡ true) same e, tt)
stands_more p (suc i) (c ∷ cs) few h e =
    let place : p + suc i ≡ p + 1 + i = omega arith in
    let there : MayStand (p + 1) (take (i + 1) cs) = stands_more (p + 1) i cs (omega (arith, few)) h.1 (subst (λ (k : ℕ). may_stand k (get_or cs i 0) ≡ true) place e) in
    let count : suc (i + 1) ≡ suc i + 1 = omega arith in
    subst (λ (k : ℕ). MayStand p (take k (c ∷ cs))) count (h.0, there)

-- a character is an octet
stands_octet : (p c : ℕ) → may_stand p c ≡ true → c < 2 ^ 8
stands_octet p c e = grind arith

differ : (p c d : ℕ) → may_stand p c ≡ false → may_stand p d ≡ true → c ≡ d → ⊥
differ p c d bad good e = let there : may_stand p d ≡ false = subst (λ (x : ℕ). may_stand p x ≡ false) e bad in cc

-- ---- digits of octets

pub bytes_more : (c : ℕ) (cs : List ℕ) → digits_of_bytes (c ∷ cs) ≡ digits 8 c ++ digits_of_bytes cs
unfolding digits_of_bytes
bytes_more c cs = refl

pub bytes_none : digits_of_bytes [] ≡ []
unfolding digits_of_bytes
bytes_none = refl

-- the digits of an octet, those of others, and some more
bytes_then : (c : ℕ) (cs : List ℕ) (xs : List Bool) → digits_of_bytes (c ∷ cs) ++ xs ≡ digits 8 c ++ (digits_of_bytes cs ++ xs)
bytes_then c cs xs = ap (λ (x : List Bool). x ++ xs) (bytes_more c cs) ∙ append_assoc (digits 8 c) (digits_of_bytes cs) xs

none_then : (xs : List Bool) → digits_of_bytes [] ++ xs ≡ xs
none_then xs = ap (λ (x : List Bool). x ++ xs) bytes_none

-- the same digits are the same characters
same_code : (p : ℕ) (a b : List ℕ) (xs ys : List Bool) → length a ≡ length b → MayStand p a → MayStand p b → digits_of_bytes a ++ xs ≡ digits_of_bytes b ++ ys → (a ≡ b) × (xs ≡ ys)
same_code p [] [] xs ys count h i e = (refl, sym (none_then xs) ∙ e ∙ none_then ys)
same_code p [] (d ∷ b) xs ys count h i e = absurd (omega (arith, count))
same_code p (c ∷ a) [] xs ys count h i e = absurd (omega (arith, count))
same_code p (c ∷ a) (d ∷ b) xs ys count h i e =
    let first = same_part 8 c d (digits_of_bytes a ++ xs) (digits_of_bytes b ++ ys) (stands_octet p c h.0) (stands_octet p d i.0) (sym (bytes_then c a xs) ∙ e ∙ bytes_then d b ys) in
    let others = same_code (p + 1) a b xs ys (omega (arith, count)) h.1 i.1 first.1 in
    (ap (λ (x : ℕ). x ∷ a) first.0 ∙ ap (λ (x : List ℕ). d ∷ x) others.0, others.1)

-- a wrong character where a right one stands
wrong_in : (p : ℕ) (a b : List ℕ) (x : ℕ) (xs ys : List Bool) → length a < length b → MayStand p a → MayStand p b → x < 2 ^ 8 → may_stand (p + length a) x ≡ false → digits_of_bytes a ++ (digits 8 x ++ xs) ≡ digits_of_bytes b ++ ys → ⊥
wrong_in p a [] x xs ys few h i low bad e = absurd (omega (arith, few))
wrong_in p [] (d ∷ b) x xs ys few h i low bad e =
    let first = same_part 8 x d xs (digits_of_bytes b ++ ys) low (stands_octet p d i.0) (sym (none_then (digits 8 x ++ xs)) ∙ e ∙ bytes_then d b ys) in
    let place : p + 0 ≡ p = omega arith in
    differ p x d (subst (λ (k : ℕ). may_stand k x ≡ false) place bad) i.0 first.0
wrong_in p (c ∷ a) (d ∷ b) x xs ys few h i low bad e =
    let first = same_part 8 c d (digits_of_bytes a ++ (digits 8 x ++ xs)) (digits_of_bytes b ++ ys) (stands_octet p c h.0) (stands_octet p d i.0) (sym (bytes_then c a (digits 8 x ++ xs)) ∙ e ∙ bytes_then d b ys) in
    let place : p + length (c ∷ a) ≡ p + 1 + length a = omega arith in
    wrong_in (p + 1) a b x xs ys (omega (arith, few)) h.1 i.1 low (subst (λ (k : ℕ). may_stand k x ≡ false) place bad) first.1

-- two first wrong characters stand at one place
one_place : (p : ℕ) (a b : List ℕ) (x y : ℕ) (xs ys : List Bool) → MayStand p a → MayStand p b → x < 2 ^ 8 → y < 2 ^ 8 → may_stand (p + length a) x ≡ false → may_stand (p + length b) y ≡ false
    → digits_of_bytes a ++ (digits 8 x ++ xs) ≡ digits_of_bytes b ++ (digits 8 y ++ ys) → length a ≡ length b
one_place p [] [] x y xs ys h i low under bad worse e = refl
one_place p [] (d ∷ b) x y xs ys h i low under bad worse e = absurd (wrong_in p [] (d ∷ b) x xs (digits 8 y ++ ys) (omega arith) h i low bad e)
one_place p (c ∷ a) [] x y xs ys h i low under bad worse e = absurd (wrong_in p [] (c ∷ a) y ys (digits 8 x ++ xs) (omega arith) i h under worse (sym e))
one_place p (c ∷ a) (d ∷ b) x y xs ys h i low under bad worse e =
    let first = same_part 8 c d (digits_of_bytes a ++ (digits 8 x ++ xs)) (digits_of_bytes b ++ (digits 8 y ++ ys)) (stands_octet p c h.0) (stands_octet p d i.0)
    (sym (bytes_then c a (digits 8 x ++ xs)) ∙ e ∙ bytes_then d b (digits 8 y ++ ys)) in
    let here : p + length (c ∷ a) ≡ p + 1 + length a = omega arith in
    let there : p + length (d ∷ b) ≡ p + 1 + length b = omega arith in
    let others = one_place (p + 1) a b x y xs ys h.1 i.1 low under (subst (λ (k : ℕ). may_stand k x ≡ false) here bad) (subst (λ (k : ℕ). may_stand k y ≡ false) there worse) first.1 in
    ap suc others

-- ---- headers

-- no other scheme has the header
kind_differs : (k : Kind) → (header_of k == supplier_header) ≡ false
kind_differs Sgtin = refl
kind_differs Sscc = refl
kind_differs Sgln = refl
kind_differs Grai = refl
kind_differs Gdti = refl
kind_differs Gsrn = refl
kind_differs Gid = refl

scheme_differs : (s : Scheme) → ((layout_in s).header == supplier_header) ≡ false
scheme_differs Giai = refl
scheme_differs Gsrnp = refl
scheme_differs Sgcn = refl
scheme_differs Cpi = refl

pub kind_apart : (k : Kind) → header_of k ≡ supplier_header → ⊥
kind_apart k e = let a = eq-eqb (header_of k) supplier_header e in let b = kind_differs k in cc

pub scheme_apart : (s : Scheme) → (layout_in s).header ≡ supplier_header → ⊥
scheme_apart s e = let a = eq-eqb (layout_in s).header supplier_header e in let b = scheme_differs s in cc

supplier_below : supplier_header < 2 ^ 8
supplier_below = omega arith

-- what the word of a USDoD-96 begins with
pub supplier_begins : (e : Supplier) (w : ℕ) → HasSupplierWord e w → HasSupplierHeader w
supplier_begins e w h = record { rest = _; begins = h.spelled }

-- a word of another scheme begins otherwise
pub older_apart : (d : Parts) (w : ℕ) → older.HasWord d w → HasSupplierHeader w → ⊥
older_apart d w a b =
    let begins = reading.fields_begin d a.lawful.fields [] (word_digits w) a.lawful.has (a.spelled ∙ sym (append-nil (fields_digits a.lawful.fields))) in
    kind_apart (kind_of_parts d) (same_part 8 (header_of (kind_of_parts d)) supplier_header begins.rest _ (reading.header_below (kind_of_parts d)) supplier_below (sym begins.is ∙ b.begins)).0

pub header_apart : (s : Scheme) (w : ℕ) → HasHeader s w → HasSupplierHeader w → ⊥
header_apart s w a b = scheme_apart s (same_part 8 (layout_in s).header supplier_header a.rest b.rest (header_below s) supplier_below (sym a.begins ∙ b.begins)).0

-- ---- words

-- what follows the header and the filter value
after_filter : (f g : ℕ) (xs ys : List Bool) (w : ℕ) → word_digits w ≡ digits 8 supplier_header ++ (digits 4 f ++ xs) → word_digits w ≡ digits 8 supplier_header ++ (digits 4 g ++ ys) → (digits 4 f ≡ digits 4 g) × (xs ≡ ys)
after_filter f g xs ys w a b =
    let e : digits 4 f ++ xs ≡ digits 4 g ++ ys = append_cancel_left (digits 8 supplier_header) _ _ (sym a ∙ b) in
    let rest : xs ≡ ys = sym (drop-seam 4 (digits 4 f) xs (length-digits 4 f)) ∙ ap (λ (x : List Bool). drop 4 x) e ∙ drop-seam 4 (digits 4 g) ys (length-digits 4 g) in
    let front : digits 4 f ≡ digits 4 g = sym (take_at (digits 4 f) xs 4 (length-digits 4 f)) ∙ ap (λ (x : List Bool). take 4 x) e ∙ take_at (digits 4 g) ys 4 (length-digits 4 g) in
    (front, rest)

-- a USDoD-96 has one word
pub one_supplier_word : (e : Supplier) (v w : ℕ) → v < 2 ^ 96 → w < 2 ^ 96 → HasSupplierWord e v → HasSupplierWord e w → v ≡ w
unfolding word_digits
one_supplier_word e v w p q a b = digits-injective 96 v w p q (a.spelled ∙ sym b.spelled)

abbrev made : ℕ → List ℕ → ℕ → Supplier
made f c s = record { filter = f; code = c; serial = s }

pub same_supplier : (d e : Supplier) → d.filter ≡ e.filter → d.code ≡ e.code → d.serial ≡ e.serial → d ≡ e
same_supplier d e a b c = ap (λ (x : ℕ). made x d.code d.serial) a ∙ ap (λ (x : List ℕ). made e.filter x d.serial) b ∙ ap (λ (x : ℕ). made e.filter e.code x) c

-- a word has one USDoD-96
pub one_supplier : (d e : Supplier) (w : ℕ) → HasSupplierWord d w → HasSupplierWord e w → d ≡ e
one_supplier d e w a b =
    let p = after_filter d.filter e.filter _ _ w a.spelled b.spelled in
    let filter : d.filter ≡ e.filter = digits-injective 4 d.filter e.filter a.lawful.filter b.lawful.filter p.0 in
    let q = same_code 0 d.code e.code (digits 36 d.serial) (digits 36 e.serial) (a.lawful.six ∙ sym b.lawful.six) a.lawful.code b.lawful.code p.1 in
    same_supplier d e filter q.0 (digits-injective 36 d.serial e.serial a.lawful.serial b.lawful.serial q.1)

from_zero : (n x : ℕ) → may_stand n x ≡ false → may_stand (0 + n) x ≡ false
from_zero n x e = let same : n ≡ 0 + n = omega arith in subst (λ (k : ℕ). may_stand k x ≡ false) same e

-- a word with a fault is no USDoD-96's
pub lawful_or_wrong : (n : Supplier) (w : ℕ) (f : PartFault) → HasSupplierWord n w → HasSupplierFault w f → ⊥
lawful_or_wrong n w f a b =
    let p = after_filter b.filter n.filter _ _ w b.spelled a.spelled in
    wrong_in 0 b.before n.code b.wrong b.rest (digits 36 n.serial) (omega (arith, b.few, a.lawful.six)) b.right a.lawful.code b.octet (from_zero (length b.before) b.wrong b.fails) p.1

pub fault_begins : (w : ℕ) (f : PartFault) → HasSupplierFault w f → HasSupplierHeader w
fault_begins w f a = record { rest = _; begins = a.spelled }

-- a word has one fault
pub one_wrong : (w : ℕ) (f g : PartFault) → HasSupplierFault w f → HasSupplierFault w g → f ≡ g
one_wrong w f g a b =
    let p = after_filter a.filter b.filter _ _ w a.spelled b.spelled in
    let place : length a.before ≡ length b.before = one_place 0 a.before b.before a.wrong b.wrong a.rest b.rest a.right b.right a.octet b.octet (from_zero (length a.before) a.wrong a.fails) (from_zero (length b.before) b.wrong b.fails) p.1 in
    a.named ∙ ap (λ (k : ℕ). let fault : PartFault = record { bit = 12 + 8 * k; reason = part.Code } in fault) place ∙ sym b.named

-- ---- words that are read

-- the header that is read
pub header_seen : (w : ℕ) → HasSupplierHeader w → digits 8 supplier_header ≡ field (word_digits w) 0 8
header_seen w a = sym (ap (λ (x : List Bool). field x 0 8) a.begins ∙ field-seam [] (digits 8 supplier_header) a.rest 0 8 refl (length-digits 8 supplier_header))

pub header_found : (w h : ℕ) → h ≡ supplier_header → digits 8 h ≡ field (word_digits w) 0 8 → HasSupplierHeader w
header_found w h e is = record {
  rest = drop 8 (word_digits w);
  begins = field-cut (word_digits w) 0 8 ∙ ap (λ (x : List Bool). x ++ drop 8 (word_digits w)) (sym is) ∙ ap (λ (x : ℕ). digits 8 x ++ drop 8 (word_digits w)) e;
}

pub header_is : (w h : ℕ) → h < 2 ^ 8 → digits 8 h ≡ field (word_digits w) 0 8 → HasSupplierHeader w → h ≡ supplier_header
header_is w h low is a = digits-injective 8 h supplier_header low supplier_below (is ∙ sym (header_seen w a))

-- an octet that is read, before others
pub octet_read : (ds : List Bool) (p n c : ℕ) (cs : List ℕ) → digits 8 c ≡ field ds p 8 → digits_of_bytes cs ≡ field ds (p + 8) n → digits_of_bytes (c ∷ cs) ≡ field ds p (8 + n)
octet_read ds p n c cs first others = bytes_more c cs ∙ ap (λ (x : List Bool). x ++ digits_of_bytes cs) first ∙ ap (λ (x : List Bool). field ds p 8 ++ x) others ∙ joined
  where
    joined : field ds p 8 ++ field ds (p + 8) n ≡ field ds p (8 + n)
    joined = ap (λ (x : List Bool). field ds p 8 ++ take n x) (sym (drop-drop 8 p ds)) ∙ sym (take-add 8 n (drop p ds))

-- the parts of a word
cut_whole : (w : ℕ) (f : ℕ) (cs : List ℕ) → HasSupplierHeader w → digits 4 f ≡ field (word_digits w) 8 4 → digits_of_bytes cs ≡ field (word_digits w) 12 48
    → word_digits w ≡ digits 8 supplier_header ++ (digits 4 f ++ (digits_of_bytes cs ++ drop 60 (word_digits w)))
cut_whole w f cs a filter code =
    let ds : List Bool = word_digits w in
    let a2 : drop 12 ds ≡ digits_of_bytes cs ++ drop 60 ds = field-cut ds 12 48 ∙ ap (λ (x : List Bool). x ++ drop 60 ds) (sym code) in
    let a1 : drop 8 ds ≡ digits 4 f ++ (digits_of_bytes cs ++ drop 60 ds) = field-cut ds 8 4 ∙ ap (λ (x : List Bool). x ++ drop 12 ds) (sym filter) ∙ ap (λ (x : List Bool). digits 4 f ++ x) a2 in
    field-cut ds 0 8 ∙ ap (λ (x : List Bool). x ++ drop 8 ds) (sym (header_seen w a)) ∙ ap (λ (x : List Bool). digits 8 supplier_header ++ x) a1

-- the numbers that are read
pub supplier_read : (w f s : ℕ) (cs : List ℕ) → HasSupplierHeader w → f < 2 ^ 4 → digits 4 f ≡ field (word_digits w) 8 4 → digits_of_bytes cs ≡ field (word_digits w) 12 48 → length cs ≡ 6 → MayStand 0 cs
    → s < 2 ^ 36 → digits 36 s ≡ field (word_digits w) 60 36 → HasSupplierWord (record { filter = f; code = cs; serial = s }) w
supplier_read w f s cs a filter filter_is code six stands serial serial_is =
    let ds : List Bool = word_digits w in
    let end : drop 60 ds ≡ digits 36 s = field-cut ds 60 36 ∙ ap (λ (x : List Bool). x ++ drop 96 ds) (sym serial_is) ∙ ap (λ (x : List Bool). digits 36 s ++ x) (drop_all ds 96 (word_length w)) ∙ append-nil (digits 36 s) in
    record {
      lawful = record { filter = filter; six = six; code = stands; serial = serial };
      spelled = cut_whole w f cs a filter_is code ∙ ap (λ (x : List Bool). digits 8 supplier_header ++ (digits 4 f ++ (digits_of_bytes cs ++ x))) end;
    }
  where
    drop_all : (ds : List Bool) (n : ℕ) → length ds ≡ n → drop n ds ≡ []
    drop_all ds n e = ap (λ (x : List Bool). drop n x) (sym (append-nil ds)) ∙ drop-seam n ds [] e

-- octets before one of them, that one, and those after it
split_at : (k : ℕ) (cs : List ℕ) (xs : List Bool) → k < length cs → digits_of_bytes cs ++ xs ≡ digits_of_bytes (take k cs) ++ (digits 8 (get_or cs k 0) ++ (digits_of_bytes (drop (k + 1) cs) ++ xs))
split_at k [] xs few = absurd (omega (arith, few))
split_at zero (c ∷ cs) xs few = bytes_then c cs xs ∙ sym (none_then (digits 8 c ++ (digits_of_bytes cs ++ xs)))
split_at (suc k) (c ∷ cs) xs few =
    let place : suc k + 1 ≡ suc (k + 1) = omega arith in
    bytes_then c cs xs ∙ ap (λ (x : List Bool). digits 8 c ++ x) (split_at k cs xs (omega (arith, few))) ∙ sym (bytes_then c (take k cs) _)
    ∙ ap (λ (m : ℕ). digits_of_bytes (take (suc k) (c ∷ cs)) ++ (digits 8 (get_or cs k 0) ++ (digits_of_bytes (drop m (c ∷ cs)) ++ xs))) (sym place)

-- the first wrong character that is read
pub wrong_read : (w k bit : ℕ) (cs : List ℕ) → HasSupplierHeader w → digits_of_bytes cs ≡ field (word_digits w) 12 48 → length cs ≡ 6 → k < 6 → MayStand 0 (take k cs) → get_or cs k 0 < 2 ^ 8 → may_stand k (get_or cs k 0) ≡ false
    → bit ≡ 12 + 8 * k → HasSupplierFault w (record { bit = bit; reason = part.Code })
wrong_read w k bit cs a code six few right octet wrong is =
    let f : ℕ = value (field (word_digits w) 8 4) in
    let filter : digits 4 f ≡ field (word_digits w) 8 4 = ap (λ (k : ℕ). digits k f) (sym (four (word_digits w) (word_length w))) ∙ digits-value (field (word_digits w) 8 4) in
    let count : length (take k cs) ≡ k = length-take-le k cs (omega (arith, few, six)) in
    record {
      filter = f;
      before = take k cs;
      wrong = get_or cs k 0;
      rest = digits_of_bytes (drop (k + 1) cs) ++ drop 60 (word_digits w);
      spelled = cut_whole w f cs a filter code ∙ ap (λ (x : List Bool). digits 8 supplier_header ++ (digits 4 f ++ x)) (split_at k cs (drop 60 (word_digits w)) (omega (arith, few, six)));
      few = omega (arith, count, few);
      right = right;
      octet = octet;
      fails = subst (λ (m : ℕ). may_stand m (get_or cs k 0) ≡ false) (sym count) wrong;
      named = ap (λ (m : ℕ). let fault : PartFault = record { bit = m; reason = part.Code } in fault) (omega (arith, is, count));
    }
  where
    four : (ds : List Bool) → length ds ≡ 96 → length (field ds 8 4) ≡ 4
    four ds e = length-take-le 4 (drop 8 ds) (omega (arith, length-drop 8 ds, e))

-- ---- words that are made

-- six characters one by one
six_of : (cs : List ℕ) → length cs ≡ 6 → cs ≡ get_or cs 0 0 ∷ get_or cs 1 0 ∷ get_or cs 2 0 ∷ get_or cs 3 0 ∷ get_or cs 4 0 ∷ get_or cs 5 0 ∷ []
six_of [] e = absurd (omega (arith, e))
six_of (a ∷ []) e = absurd (omega (arith, e))
six_of (a ∷ (b ∷ [])) e = absurd (omega (arith, e))
six_of (a ∷ (b ∷ (c ∷ []))) e = absurd (omega (arith, e))
six_of (a ∷ (b ∷ (c ∷ (d ∷ [])))) e = absurd (omega (arith, e))
six_of (a ∷ (b ∷ (c ∷ (d ∷ (f ∷ []))))) e = absurd (omega (arith, e))
six_of (a ∷ (b ∷ (c ∷ (d ∷ (f ∷ (g ∷ [])))))) e = refl
six_of (a ∷ (b ∷ (c ∷ (d ∷ (f ∷ (g ∷ (h ∷ cs))))))) e = absurd (omega (arith, e))

-- six characters pushed one after another
pub code_made : (cs : List ℕ) (n x1 x2 x3 x4 x5 x6 : ℕ) → length cs ≡ 6 → digits 20 x1 ≡ digits 12 n ++ digits 8 (get_or cs 0 0) → digits 28 x2 ≡ digits 20 x1 ++ digits 8 (get_or cs 1 0) → digits 36 x3 ≡ digits 28 x2 ++ digits 8 (get_or cs 2 0)
    → digits 44 x4 ≡ digits 36 x3 ++ digits 8 (get_or cs 3 0) → digits 52 x5 ≡ digits 44 x4 ++ digits 8 (get_or cs 4 0) → digits 60 x6 ≡ digits 52 x5 ++ digits 8 (get_or cs 5 0) → digits 60 x6 ≡ digits 12 n ++ digits_of_bytes cs
code_made cs n x1 x2 x3 x4 x5 x6 six e1 e2 e3 e4 e5 e6 =
    e6 ∙ rw (e5, e4, e3, e2, e1) (simp (append_assoc, append-nil, bytes_more, bytes_none) refl) ∙ ap (λ (x : List ℕ). digits 12 n ++ digits_of_bytes x) (sym (six_of cs six))

is_digits : (n : ℕ) → word_digits n ≡ digits 96 n
unfolding word_digits
is_digits n = refl

-- the parts of a word pushed one after another
pub supplier_made : (e : Supplier) (x1 x2 x3 x4 w : ℕ) → IsSupplier e → digits 8 x1 ≡ digits 0 0 ++ digits 8 supplier_header → digits 12 x2 ≡ digits 8 x1 ++ digits 4 e.filter → digits 60 x3 ≡ digits 12 x2 ++ digits_of_bytes e.code
    → digits 96 x4 ≡ digits 60 x3 ++ digits 36 e.serial → w ≡ x4 → HasSupplierWord e w
supplier_made e x1 x2 x3 x4 w lawful e1 e2 e3 e4 same = record { lawful = lawful; spelled = ap word_digits same ∙ is_digits x4 ∙ e4 ∙ rw (e3, e2, e1, none) (simp append_assoc refl) }
