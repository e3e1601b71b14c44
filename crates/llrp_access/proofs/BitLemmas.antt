-- The bits of words, and patterns of bits in them.
use Rattle.std.proofs.Common.{◌≡◌, ◌∙◌, ℕ, zero, suc, ◌+◌, ◌*◌, ◌/◌, ◌%◌, ◌^◌, ◌<◌, ◌≤◌, Bool, true, false, not, ◌&&◌, ◌||◌, List, [], ◌∷◌, ◌++◌, length, take, drop, get_or, Option, Some, None, refl, sym, ap, subst, rules, arith, replicate}
use Rattle.std.specs.Prelude.{◌==◌, nat_eq}
use Rattle.std.specs.Bool.{beq}
use Rattle.tag_bits.specs.Digits.{field}
use Rattle.std.proofs.lemmas.List.{append-nil, drop-append-le, drop-drop, drop_all, length-append}
use Rattle.std.proofs.Math.Seq.{drop-cons}
use Rattle.tag_bits.specs.Digits.{digits, digits_of_bytes}
use Rattle.tag_bits.proofs.ByteLemmas.{bytes-nil, bytes-cons}
use Rattle.tag_bits.proofs.DigitLemmas.{digits-split, length-digits}
use Rattle.llrp_access.specs.Calls.Targets.{agrees, agrees_at, bits_of, first}

-- ---- words

pub two_octets : (w : ℕ) → w < 65536 → digits_of_bytes (w / 256 ∷ w % 256 ∷ []) ≡ digits 16 w
two_octets w h =
    bytes-cons (w / 256) (w % 256 ∷ []) ∙ ap (λ (x : List Bool). digits 8 (w / 256) ++ x) (bytes-cons (w % 256) [] ∙ ap (λ (x : List Bool). digits 8 (w % 256) ++ x) bytes-nil ∙ append-nil (digits 8 (w % 256)))
    ∙ sym (digits-split 8 8 w h)

pub bits-cons : (w : ℕ) (ws : List ℕ) → bits_of (w ∷ ws) ≡ digits 16 w ++ bits_of ws
bits-cons w ws = refl

drop_seam : {X : Type 0} → (n : ℕ) (xs ys : List X) → length xs ≡ n → drop n (xs ++ ys) ≡ ys
drop_seam n [] ys h = rw (sym h) refl
drop_seam zero (x ∷ xs) ys h = absurd (search (rules, h))
drop_seam (suc n) (x ∷ xs) ys h = drop_seam n xs ys (omega (arith, h))

pub past_words : (q : ℕ) (ws : List ℕ) → q ≤ length ws → drop (16 * q) (bits_of ws) ≡ bits_of (drop q ws)
past_words zero ws h = refl
past_words (suc q) [] h = absurd (search (rules, h))
past_words (suc q) (w ∷ ws) h =
    let e : 16 * suc q ≡ 16 + 16 * q = omega arith in
    ap (λ (n : ℕ). drop n (digits 16 w ++ bits_of ws)) e ∙ sym (drop-drop (16 * q) 16 (digits 16 w ++ bits_of ws))
    ∙ ap (λ (x : List Bool). drop (16 * q) x) (drop_seam 16 (digits 16 w) (bits_of ws) (length-digits 16 w)) ∙ past_words q ws (omega (arith, h))

one_bit : (n : ℕ) → n < 2 → digits 1 n ≡ nat_eq n 1 ∷ []
unfolding digits
one_bit zero h = refl
one_bit (suc zero) h = refl
one_bit (suc (suc n)) h = absurd (omega (arith, h))

first_of : (xs : List Bool) (b : Bool) → take 1 xs ≡ b ∷ [] → xs ≡ b ∷ drop 1 xs
first_of [] b h = absurd (search (rules, h))
first_of (x ∷ xs) b h = search (rules, h)

-- the bit at a place is that of its word
pub bit_at_is : (ws : List ℕ) (place w n : ℕ) → place / 16 < length ws → w ≡ get_or ws (place / 16) 0 → w < 65536 → n < 2 → digits 1 n ≡ field (digits_of_bytes (w / 256 ∷ w % 256 ∷ [])) (place % 16) 1
    → Some (nat_eq n 1) ≡ first (drop place (bits_of ws))
bit_at_is ws place w n within is small bit so =
    let q = place / 16 in
    let r = place % 16 in
    let at : place ≡ 16 * q + r = omega arith in
    let low : r < 16 = omega arith in
    let here : drop q ws ≡ w ∷ drop (suc q) ws = drop-cons ws q 0 within ∙ ap (λ (x : ℕ). x ∷ drop (suc q) ws) (sym is) in
    let ds = digits 16 w in
    let rest = bits_of (drop (suc q) ws) in
    let short : r ≤ length ds = rw (length-digits 16 w) (omega (arith, low)) in
    let parts : drop place (bits_of ws) ≡ drop r ds ++ rest =
    ap (λ (x : ℕ). drop x (bits_of ws)) at ∙ sym (drop-drop r (16 * q) (bits_of ws)) ∙ ap (λ (x : List Bool). drop r x) (past_words q ws (omega (arith, within)) ∙ ap bits_of here) ∙ drop-append-le r ds rest short in
    let one : take 1 (drop r ds) ≡ nat_eq n 1 ∷ [] = sym (ap (λ (x : List Bool). take 1 (drop r x)) (two_octets w small)) ∙ sym so ∙ one_bit n bit in
    let found : drop place (bits_of ws) ≡ nat_eq n 1 ∷ (drop 1 (drop r ds) ++ rest) = parts ∙ ap (λ (x : List Bool). x ++ rest) (first_of (drop r ds) (nat_eq n 1) one) in
    sym (ap first found)

pub length-bits : (ws : List ℕ) → length (bits_of ws) ≡ 16 * length ws
length-bits [] = refl
length-bits (w ∷ ws) = length-append (digits 16 w) (bits_of ws) ∙ rw (length-digits 16 w, length-bits ws) (omega arith)

pub no_bit : (ws : List ℕ) (place : ℕ) → length ws ≤ place / 16 → None ≡ first (drop place (bits_of ws))
no_bit ws place h = sym (ap first (drop_all place (bits_of ws) (rw (length-bits ws) (omega (arith, h)))))

-- ---- one more bit of a pattern

-- what is left is one bit and the others
pub one_bit_more : (ms ws bs : List Bool) (i at : ℕ) (m d : Bool) → i < length ms → m ≡ get_or ms i d
    → agrees (drop i ms) (drop i ws) (drop at bs) ≡ (agrees_at m (first (drop i ws)) (first (drop at bs)) && agrees (drop (i + 1) ms) (drop (i + 1) ws) (drop (at + 1) bs))
one_bit_more ms ws bs i at m d within is =
    let more : suc i ≡ i + 1 = omega arith in
    let next : drop i ms ≡ m ∷ drop (i + 1) ms = drop-cons ms i d within ∙ ap (λ (x : Bool). x ∷ drop (suc i) ms) (sym is) ∙ ap (λ (n : ℕ). m ∷ drop n ms) more in
    ap (λ (x : List Bool). agrees x (drop i ws) (drop at bs)) next
    ∙ ap (λ (x : List Bool). agrees_at m (first (drop i ws)) (first (drop at bs)) && agrees (drop (i + 1) ms) x (drop 1 (drop at bs))) (drop-drop 1 i ws)
    ∙ ap (λ (x : List Bool). agrees_at m (first (drop i ws)) (first (drop at bs)) && agrees (drop (i + 1) ms) (drop (i + 1) ws) x) (drop-drop 1 at bs)

pub bit_fails : (ms ws bs : List Bool) (p i : ℕ) (m d : Bool) (w b : Option Bool) (t all : Bool) → i < length ms → m ≡ get_or ms i d → w ≡ first (drop i ws) → b ≡ first (drop (p + i) bs) → t ≡ agrees_at m w b → t ≡ false
    → agrees (drop i ms) (drop i ws) (drop (p + i) bs) ≡ all → false ≡ all
bit_fails ms ws bs p i m d w b t all within is wi bi ti f so =
    let no : agrees_at m (first (drop i ws)) (first (drop (p + i) bs)) ≡ false = ap (λ (x : Option Bool). agrees_at m x (first (drop (p + i) bs))) (sym wi) ∙ ap (λ (x : Option Bool). agrees_at m w x) (sym bi) ∙ sym ti ∙ f in
    sym (one_bit_more ms ws bs i (p + i) m d within is ∙ ap (λ (x : Bool). x && agrees (drop (i + 1) ms) (drop (i + 1) ws) (drop (p + i + 1) bs)) no) ∙ so

pub bit_holds : (ms ws bs : List Bool) (p i : ℕ) (m d : Bool) (w b : Option Bool) (t all : Bool) → i < length ms → m ≡ get_or ms i d → w ≡ first (drop i ws) → b ≡ first (drop (p + i) bs) → t ≡ agrees_at m w b → t ≡ true
    → agrees (drop i ms) (drop i ws) (drop (p + i) bs) ≡ all → agrees (drop (i + 1) ms) (drop (i + 1) ws) (drop (p + (i + 1)) bs) ≡ all
bit_holds ms ws bs p i m d w b t all within is wi bi ti y so =
    let yes : agrees_at m (first (drop i ws)) (first (drop (p + i) bs)) ≡ true = ap (λ (x : Option Bool). agrees_at m x (first (drop (p + i) bs))) (sym wi) ∙ ap (λ (x : Option Bool). agrees_at m w x) (sym bi) ∙ sym ti ∙ y in
    let at : p + (i + 1) ≡ p + i + 1 = omega arith in
    ap (λ (n : ℕ). agrees (drop (i + 1) ms) (drop (i + 1) ws) (drop n bs)) at
    ∙ sym (one_bit_more ms ws bs i (p + i) m d within is ∙ ap (λ (x : Bool). x && agrees (drop (i + 1) ms) (drop (i + 1) ws) (drop (p + i + 1) bs)) yes) ∙ so

-- ---- a mask of ones

pub ones : (n : ℕ) (ws bs : List Bool) → length ws ≡ n → agrees (replicate n true) ws bs ≡ true → take n bs ≡ ws
ones zero [] bs l h = refl
ones zero (w ∷ ws) bs l h = absurd (search (rules, l))
ones (suc n) [] bs l h = absurd (search (rules, l))
ones (suc n) (w ∷ ws) [] l h = absurd (search (rules, h))
ones (suc n) (w ∷ ws) (b ∷ bs) l h = go w b (ones n ws bs (omega (arith, l))) h
  where
    go : (w b : Bool) → (agrees (replicate n true) ws bs ≡ true → take n bs ≡ ws) → (beq w b && agrees (replicate n true) ws bs) ≡ true → b ∷ take n bs ≡ w ∷ ws
    go true true later h = ap (λ (x : List Bool). true ∷ x) (later h)
    go false false later h = ap (λ (x : List Bool). false ∷ x) (later h)
    go true false later h = absurd (search (rules, h))
    go false true later h = absurd (search (rules, h))

pub agree_ones : (n : ℕ) (ws bs : List Bool) → length ws ≡ n → take n bs ≡ ws → agrees (replicate n true) ws bs ≡ true
agree_ones zero ws bs l h = refl
agree_ones (suc n) [] bs l h = absurd (search (rules, l))
agree_ones (suc n) (w ∷ ws) [] l h = absurd (search (rules, h))
agree_ones (suc n) (w ∷ ws) (b ∷ bs) l h =
    let same : (b ≡ w) × (take n bs ≡ ws) = search (rules, h) in
    rw (sym same.0) (go b (agree_ones n ws bs (omega (arith, l)) same.1))
  where
    go : (b : Bool) → agrees (replicate n true) ws bs ≡ true → (beq b b && agrees (replicate n true) ws bs) ≡ true
    go true h = h
    go false h = h
