-- The words of a line, and what comes before a first byte of a kind.
use Rattle.std.proofs.Common.{◌≡◌, ℕ, suc, ◌^◌, ◌<◌, ◌≤◌, true, false, List, [], ◌∷◌, ◌++◌, Option, Some, None, refl, sym, ap, subst, ◌∙◌, arith, decimal, ℤ, pos, negsuc}
use Rattle.std.specs.Prelude.{◌==◌, FitsSigned, MatchOption}
use Rattle.std.specs.Char.{is_ascii_digit}
use Rattle.std.specs.Fmt.{signed_decimal}
use Rattle.std.specs.Int.{w8}
use Rattle.std.specs.Str.{all_ascii_digits, bytes_eq}
use Rattle.std.proofs.lemmas.Bool.{eq-eqb, ne_eqb}
use Rattle.std.proofs.lemmas.Slice.Eq.{bytes_eq-Decides}
use Rattle.llrp_listing.specs.Calls.Splits.{Lacks, IsSplit}
use Rattle.llrp_listing.specs.Private.Numeral.{numeral}
use Rattle.llrp_listing.proofs.DecimalWords.{digits_of, numeral_back}
use Rattle.tag_uri.proofs.UriLemmas.{left, right}

-- what holds where there is nothing
pub at_none : {A : Type 0} (o : Option A) (P : Type 0) (Q : A → Type 0) → o ≡ None → P → MatchOption o P Q
at_none None P Q e p = p
at_none (Some a) P Q e p = cc

-- ---- bytes before the first of a kind

-- a byte that is there isn't lacked
lacks_all : (byte : ℕ) (w rest : List ℕ) → Lacks byte (w ++ (byte ∷ rest)) → ⊥
lacks_all byte [] rest h = let t : (byte == byte) ≡ true = eq-eqb byte byte refl in let f = h.0 in cc
lacks_all byte (c ∷ w) rest h = lacks_all byte w rest h.1

-- a byte that is lacked is nowhere
pub lacks_not : (byte : ℕ) (bytes w rest : List ℕ) → Lacks byte bytes → bytes ≡ w ++ (byte ∷ rest) → ⊥
lacks_not byte bytes w rest h e = lacks_all byte w rest (subst (λ (z : List ℕ). Lacks byte z) e h)

-- the first such byte is at one place
pub one_split : (byte : ℕ) (a b x y : List ℕ) → Lacks byte a → Lacks byte b → a ++ (byte ∷ x) ≡ b ++ (byte ∷ y) → (a ≡ b) × (x ≡ y)
one_split byte [] [] x y h k e = (refl, cc)
one_split byte [] (d ∷ b) x y h k e = let t : (d == byte) ≡ true = eq-eqb d byte cc in let f = k.0 in cc
one_split byte (c ∷ a) [] x y h k e = let t : (c == byte) ≡ true = eq-eqb c byte cc in let f = h.0 in cc
one_split byte (c ∷ a) (d ∷ b) x y h k e =
    let first : c ≡ d = cc in
    let more = one_split byte a b x y h.1 k.1 cc in
    (rw (first, more.0) refl, more.1)

-- what both parts lack
pub lacks_append : (byte : ℕ) (a b : List ℕ) → Lacks byte a → Lacks byte b → Lacks byte (a ++ b)
lacks_append byte [] b h k = k
lacks_append byte (c ∷ a) b h k = (h.0, lacks_append byte a b h.1 k)

-- ---- decimal words

-- no digit is below 0
digits_lack : (byte : ℕ) (w : List ℕ) → byte < 48 → all_ascii_digits w ≡ true → Lacks byte w
digits_lack byte [] low h = tt
digits_lack byte (c ∷ w) low h = (ne_eqb c byte (λ e. apart c (left (is_ascii_digit c) _ h) e), digits_lack byte w low (right (is_ascii_digit c) _ h))
  where
    high : (c : ℕ) → is_ascii_digit c ≡ true → 48 ≤ c
    high c e = grind arith

    apart : (c : ℕ) → is_ascii_digit c ≡ true → c ≡ byte → ⊥
    apart c d e = let t = high c d in omega (arith, t, e)

pub decimal_lacks : (byte n : ℕ) → byte < 48 → n < 2 ^ 64 → Lacks byte (decimal n)
decimal_lacks byte n low lt = digits_lack byte (decimal n) low (digits_of n (omega arith)).digits

-- nor is the sign below -
pub signed_lacks : (byte : ℕ) (z : ℤ) → byte < 45 → FitsSigned w8 z → Lacks byte (signed_decimal z)
signed_lacks byte (pos n) low f = let t = f.sfits in decimal_lacks byte n (omega arith) (omega (arith, t))
signed_lacks byte (negsuc n) low f = let t = f.sfits in (ne_eqb 45 byte (λ e. omega (arith, e)), decimal_lacks byte (suc n) (omega arith) (omega (arith, t)))

-- a word that is no numeral is no number's
pub no_number : (w : List ℕ) (n : ℕ) → None ≡ numeral w → n < 2 ^ 64 → w ≡ decimal n → ⊥
no_number w n none lt e = let some : numeral w ≡ Some n = ap numeral e ∙ numeral_back n (omega arith) in cc

-- a numeral is the number's word
pub that_number : (w : List ℕ) (m n : ℕ) → Some m ≡ numeral w → n < 2 ^ 64 → w ≡ decimal n → m ≡ n
that_number w m n some lt e = let same : numeral w ≡ Some n = ap numeral e ∙ numeral_back n (omega arith) in cc

-- after - comes the number's magnitude
pub after_sign : (digits : List ℕ) (z : ℤ) → FitsSigned w8 z → 45 ∷ digits ≡ signed_decimal z → (n : ℕ) × (z ≡ negsuc n) × (n < 128) × (digits ≡ decimal (suc n))
after_sign digits (pos n) f e = let t = f.sfits in absurd (no_sign n digits (omega (arith, t)) e)
  where
    no_sign : (n : ℕ) (digits : List ℕ) → n < 2 ^ 64 → 45 ∷ digits ≡ decimal n → ⊥
    no_sign n digits lt e = lacks_not 45 (decimal n) [] digits (decimal_lacks 45 n (omega arith) lt) (sym e)
after_sign digits (negsuc n) f e = let t = f.sfits in (n, refl, omega (arith, t), cc)

-- ---- two words and what follows them

-- the words of a line that has two and more
pub two_words : (line a rest b more x y z : List ℕ) → IsSplit 32 line a rest → IsSplit 32 rest b more → Lacks 32 x → Lacks 32 y → line ≡ x ++ (32 ∷ (y ++ (32 ∷ z))) → (a ≡ x) × (b ≡ y) × (more ≡ z)
two_words line a rest b more x y z p q lx ly e =
    let first = one_split 32 a x rest (y ++ (32 ∷ z)) p.0 lx (sym p.1 ∙ e) in
    let second = one_split 32 b y more z q.0 ly (sym q.1 ∙ first.1) in
    (first.0, second.0, second.1)

-- a line with a second word has a second space
pub no_second : (line a rest x y z : List ℕ) → IsSplit 32 line a rest → Lacks 32 rest → Lacks 32 x → line ≡ x ++ (32 ∷ (y ++ (32 ∷ z))) → ⊥
no_second line a rest x y z p none lx e =
    let first = one_split 32 a x rest (y ++ (32 ∷ z)) p.0 lx (sym p.1 ∙ e) in
    lacks_not 32 rest y z none first.1

-- bytes that were compared and found different
pub not_equal : (xs ys zs : List ℕ) → ys ≡ zs → false ≡ bytes_eq xs ys → xs ≡ zs → ⊥
not_equal xs ys zs is differ same = let yes = (bytes_eq-Decides xs ys).1 (same ∙ sym is) in cc
