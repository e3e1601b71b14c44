-- Fields: which fit, and what follows from their digits.
use Rattle.std.proofs.Common.{◌≡◌, ℕ, zero, suc, ◌^◌, ◌<◌, Bool, List, [], ◌∷◌, ◌++◌, length, take, drop, Some, refl, sym, ap, subst, ◌∙◌, arith}
use Rattle.std.specs.Prelude.{slice_get}
use Rattle.std.proofs.lemmas.List.{append_assoc}
use Rattle.tag_bits.specs.Digits.{digits}
use Rattle.tag_bits.proofs.DigitLemmas.{length-digits, digits-injective, take-seam, drop-seam}
use Rattle.tag_epc.specs.Layout.{Segment}
use Rattle.tag_epc.specs.LawfulWord.{Field, fill, Fits, AllFit, fields_digits}
use Rattle.tag_epc.specs.Faults.{FirstUnfit, AllRead}

-- numbers that fit have no more than their binary digits
pub all_read : (fs : List Field) → AllFit fs → AllRead fs
all_read [] a = tt
all_read (f ∷ fs) a = (a.0.bits, all_read fs a.1)

-- a field among fields that fit
fits_at : (fs : List Field) (n : ℕ) (f : Field) → slice_get fs n ≡ Some f → AllFit fs → Fits f
fits_at [] n f e a = cc
fits_at (x ∷ xs) zero f e a = let same : x ≡ f = cc in subst (λ (y : Field). Fits y) same a.0
fits_at (x ∷ xs) (suc n) f e a = fits_at xs n f e a.1

-- a field among leading fields that fit
fits_before : (fs : List Field) (m n : ℕ) (f : Field) → m < n → slice_get fs m ≡ Some f → AllFit (take n fs) → Fits f
fits_before [] m n f h e a = cc
fits_before (x ∷ xs) m zero f h e a = absurd (omega arith)
fits_before (x ∷ xs) zero (suc n) f h e a = let same : x ≡ f = cc in subst (λ (y : Field). Fits y) same a.0
fits_before (x ∷ xs) (suc m) (suc n) f h e a = fits_before xs m n f (omega arith) e a.1

-- fields that fit have none that does not
pub fit_or_unfit : (fs : List Field) (n : ℕ) → AllFit fs → FirstUnfit fs n → ⊥
fit_or_unfit fs n a u = u.fails (fits_at fs n u.unfit u.stands a)

-- there is one first field that does not fit
pub one_unfit : (fs : List Field) (m n : ℕ) → FirstUnfit fs m → FirstUnfit fs n → m ≡ n
one_unfit fs m n u v =
    let above : m < n → ⊥ = λ h. u.fails (fits_before fs m n u.unfit h u.stands v.before) in
    let below : n < m → ⊥ = λ h. v.fails (fits_before fs n m v.unfit h v.stands u.before) in
    omega (arith, above, below)

-- equal digits of equal width, with what follows them
pub same_part : (w a b : ℕ) (xs ys : List Bool) → a < 2 ^ w → b < 2 ^ w → digits w a ++ xs ≡ digits w b ++ ys → (a ≡ b) × (xs ≡ ys)
same_part w a b xs ys p q e = (
  digits-injective w a b p q (sym (take-seam w (digits w a) xs (length-digits w a)) ∙ ap (λ (x : List Bool). take w x) e ∙ take-seam w (digits w b) ys (length-digits w b)),
  sym (drop-seam w (digits w a) xs (length-digits w a)) ∙ ap (λ (x : List Bool). drop w x) e ∙ drop-seam w (digits w b) ys (length-digits w b),
)

-- equal digits of the same segments give the same numbers
pub same_numbers : (ss : List Segment) (ms ns : List ℕ) (xs ys : List Bool) → length ms ≡ length ss → length ns ≡ length ss
    → AllRead (fill ss ms) → AllRead (fill ss ns) → fields_digits (fill ss ms) ++ xs ≡ fields_digits (fill ss ns) ++ ys → (ms ≡ ns) × (xs ≡ ys)
same_numbers [] [] [] xs ys l k a b e = (refl, e)
same_numbers [] [] (n ∷ ns) xs ys l k a b e = absurd (omega arith)
same_numbers [] (m ∷ ms) ns xs ys l k a b e = absurd (omega arith)
same_numbers (s ∷ ss) [] ns xs ys l k a b e = absurd (omega arith)
same_numbers (s ∷ ss) (m ∷ ms) [] xs ys l k a b e = absurd (omega arith)
same_numbers (s ∷ ss) (m ∷ ms) (n ∷ ns) xs ys l k a b e =
    let split : digits s.width m ++ (fields_digits (fill ss ms) ++ xs) ≡ digits s.width n ++ (fields_digits (fill ss ns) ++ ys) = sym (append_assoc (digits s.width m) (fields_digits (fill ss ms)) xs) ∙ e ∙ append_assoc (digits s.width n) (fields_digits (fill ss ns)) ys in
    let first = same_part s.width m n (fields_digits (fill ss ms) ++ xs) (fields_digits (fill ss ns) ++ ys) a.0 b.0 split in
    let rest = same_numbers ss ms ns xs ys (omega arith) (omega arith) a.1 b.1 first.1 in
    (ap (λ (x : ℕ). x ∷ ms) first.0 ∙ ap (λ (x : List ℕ). n ∷ x) rest.0, rest.1)
