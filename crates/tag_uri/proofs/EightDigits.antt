-- Eight decimal digits as octets of one number.
use Rattle.std.proofs.Common.{◌≡◌, ℕ, zero, suc, ◌+◌, ◌*◌, ◌/◌, ◌%◌, ◌^◌, ◌<◌, ◌≤◌, List, [], ◌∷◌, length, refl, sym, ap, ◌∙◌, arith, bit_and}
use Rattle.std.specs.Int.{w64, from_be_bytes}
use Rattle.std.proofs.Math.Nat.{pow-suc}
use Rattle.std.proofs.lemmas.Nat.{and_block, and_mask, mod_low, shr_high, div-mul-add}
use Rattle.std.proofs.lemmas.Nat.Bits.{and_pow}
use Rattle.tag_uri.specs.Decimal.{padded}
use Rattle.tag_uri.proofs.DecimalLemmas.{mod_small}

-- octets as a number, the last octet first
abbrev pub low : List ℕ → ℕ
low [] = 0
low (b ∷ bs) = low bs * 256 + b

-- each number is below m
abbrev pub Below : ℕ → List ℕ → Type 0
Below m [] = Unit {0}
Below m (b ∷ bs) = (b < m) × Below m bs

-- an octet k times
abbrev spread : ℕ → ℕ → ℕ
spread m zero = 0
spread m (suc k) = spread m k * 256 + m

-- ---- a test of each octet

-- no octet has the bit 128
no_high_bit : (k : ℕ) (xs : List ℕ) → length xs ≡ k → Below 256 xs → bit_and (low xs) (spread 128 k) ≡ 0 → Below 128 xs
no_high_bit zero [] l h e = tt
no_high_bit zero (x ∷ xs) l h e = absurd (omega arith)
no_high_bit (suc k) [] l h e = absurd (omega arith)
no_high_bit (suc k) (x ∷ xs) l h e =
    let block : bit_and (low xs * 2 ^ 8 + x) (spread 128 k * 2 ^ 8 + 128) ≡ bit_and (low xs) (spread 128 k) * 2 ^ 8 + bit_and x 128 = and_block 8 (low xs) (spread 128 k) x 128 (omega (arith, h.0)) (omega arith) in
    let both : bit_and (low xs) (spread 128 k) * 2 ^ 8 + bit_and x 128 ≡ 0 = sym block ∙ e in
    let here : x / 2 ^ 7 % 2 * 2 ^ 7 ≡ bit_and x 128 = sym (and_pow x 7) in
    (omega (arith, here, both, h.0), no_high_bit k xs (omega arith) h.1 (omega (arith, both)))

-- 118 more in each octet
abbrev raise : List ℕ → List ℕ
raise [] = []
raise (x ∷ xs) = (x + 118) ∷ raise xs

raised : (k : ℕ) (xs : List ℕ) → length xs ≡ k → low xs + spread 118 k ≡ low (raise xs)
raised zero [] l = refl
raised zero (x ∷ xs) l = absurd (omega arith)
raised (suc k) [] l = absurd (omega arith)
raised (suc k) (x ∷ xs) l = omega (arith, raised k xs (omega arith))

length-raise : (xs : List ℕ) → length (raise xs) ≡ length xs
length-raise [] = refl
length-raise (x ∷ xs) = ap suc (length-raise xs)

raise_fits : (xs : List ℕ) → Below 128 xs → Below 256 (raise xs)
raise_fits [] h = tt
raise_fits (x ∷ xs) h = (omega (arith, h.0), raise_fits xs h.1)

few_raised : (xs : List ℕ) → Below 128 (raise xs) → Below 10 xs
few_raised [] h = tt
few_raised (x ∷ xs) h = (omega (arith, h.0), few_raised xs h.1)

low_below : (k : ℕ) (xs : List ℕ) → length xs ≡ k → Below 256 xs → low xs < 256 ^ k
low_below zero [] l h = omega arith
low_below zero (x ∷ xs) l h = absurd (omega arith)
low_below (suc k) [] l h = absurd (omega arith)
low_below (suc k) (x ∷ xs) l h =
    let rest = low_below k xs (omega arith) h.1 in
    let e = pow-suc 256 k in
    omega (arith, rest, e, h.0)

-- the octets of a number
record Octets (k y : ℕ) : Type 0 where
  octets : List ℕ
  count : length octets ≡ k
  fit : Below 256 octets
  is : y ≡ low octets

octets_of : (k y : ℕ) → y < 256 ^ k → Octets k y
octets_of zero y h = record { octets = []; count = refl; fit = tt; is = omega arith }
octets_of (suc k) y h =
    let e = pow-suc 256 k in
    let rest = octets_of k (y / 256) (omega (arith, h, e)) in
    let same = rest.is in
    record { octets = y % 256 ∷ rest.octets; count = ap suc rest.count; fit = (omega arith, rest.fit); is = omega (arith, same) }

-- eight octets, each at most 9
pub record OctetDigits (y : ℕ) : Type 0 where
  pub a : ℕ
  pub b : ℕ
  pub c : ℕ
  pub d : ℕ
  pub e : ℕ
  pub f : ℕ
  pub g : ℕ
  pub h : ℕ
  pub a_fits : a ≤ 9
  pub b_fits : b ≤ 9
  pub c_fits : c ≤ 9
  pub d_fits : d ≤ 9
  pub e_fits : e ≤ 9
  pub f_fits : f ≤ 9
  pub g_fits : g ≤ 9
  pub h_fits : h ≤ 9
  pub is : y ≡ a * 72057594037927936 + b * 281474976710656 + c * 1099511627776 + d * 4294967296 + e * 16777216 + f * 65536 + g * 256 + h

as_digits : (xs : List ℕ) (y : ℕ) → length xs ≡ 8 → Below 10 xs → y ≡ low xs → OctetDigits y
as_digits [] y l fit is = absurd (omega arith)
as_digits (h ∷ []) y l fit is = absurd (omega arith)
as_digits (h ∷ g ∷ []) y l fit is = absurd (omega arith)
as_digits (h ∷ g ∷ f ∷ []) y l fit is = absurd (omega arith)
as_digits (h ∷ g ∷ f ∷ e ∷ []) y l fit is = absurd (omega arith)
as_digits (h ∷ g ∷ f ∷ e ∷ d ∷ []) y l fit is = absurd (omega arith)
as_digits (h ∷ g ∷ f ∷ e ∷ d ∷ c ∷ []) y l fit is = absurd (omega arith)
as_digits (h ∷ g ∷ f ∷ e ∷ d ∷ c ∷ b ∷ []) y l fit is = absurd (omega arith)
as_digits (h ∷ g ∷ f ∷ e ∷ d ∷ c ∷ b ∷ a ∷ []) y l fit is = record {
  a = a;
  b = b;
  c = c;
  d = d;
  e = e;
  f = f;
  g = g;
  h = h;
  h_fits = omega (arith, fit.0);
  g_fits = omega (arith, fit.1.0);
  f_fits = omega (arith, fit.1.1.0);
  e_fits = omega (arith, fit.1.1.1.0);
  d_fits = omega (arith, fit.1.1.1.1.0);
  c_fits = omega (arith, fit.1.1.1.1.1.0);
  b_fits = omega (arith, fit.1.1.1.1.1.1.0);
  a_fits = omega (arith, fit.1.1.1.1.1.1.1.0);
  is = omega (arith, is);
}
as_digits (h ∷ g ∷ f ∷ e ∷ d ∷ c ∷ b ∷ a ∷ x ∷ xs) y l fit is = absurd (omega arith)

-- what the test finds
pub tested : (y : ℕ) → y < 2 ^ 64 → bit_and y 0x8080808080808080 ≡ 0 → bit_and ((y + 0x7676767676767676) % 2 ^ 64) 0x8080808080808080 ≡ 0 → OctetDigits y
tested y small first second =
    let parts = octets_of 8 y small in
    let xs : List ℕ = parts.octets in
    let l = parts.count in
    let low_bits : Below 128 xs = no_high_bit 8 xs l parts.fit (ap (λ (i : ℕ). bit_and i 0x8080808080808080) (sym parts.is) ∙ first) in
    let fit : Below 256 (raise xs) = raise_fits xs low_bits in
    let count : length (raise xs) ≡ 8 = length-raise xs ∙ l in
    let more : y + 0x7676767676767676 ≡ low (raise xs) = ap (λ (i : ℕ). i + 0x7676767676767676) parts.is ∙ raised 8 xs l in
    let whole : (y + 0x7676767676767676) % 2 ^ 64 ≡ low (raise xs) = ap (λ (i : ℕ). i % 2 ^ 64) more ∙ mod_small (low (raise xs)) (2 ^ 64) (low_below 8 (raise xs) count fit) in
    as_digits xs y l (few_raised xs (no_high_bit 8 (raise xs) count fit (ap (λ (i : ℕ). bit_and i 0x8080808080808080) (sym whole) ∙ second))) parts.is

-- ---- neighbours joined by products

-- the lower octets of four numbers of 16 bits
lower_octets : (s t u v : ℕ) → t < 2 ^ 16 → u < 2 ^ 16 → v < 2 ^ 16
    → bit_and (((s * 2 ^ 16 + t) * 2 ^ 16 + u) * 2 ^ 16 + v) 0x00FF00FF00FF00FF ≡ ((s % 256 * 65536 + t % 256) * 65536 + u % 256) * 65536 + v % 256
lower_octets s t u v q r p =
    let i = and_block 16 ((s * 2 ^ 16 + t) * 2 ^ 16 + u) 0x00FF00FF00FF v 0xFF p (omega arith) in
    let j = and_block 16 (s * 2 ^ 16 + t) 0x00FF00FF u 0xFF r (omega arith) in
    let k = and_block 16 s 0x00FF t 0xFF q (omega arith) in
    omega (arith, i, j, k, and_mask s 8, and_mask t 8, and_mask u 8, and_mask v 8)

-- the lower halves of two numbers of 32 bits
lower_halves : (u v : ℕ) → v < 2 ^ 32 → bit_and (u * 2 ^ 32 + v) 0x0000FFFF0000FFFF ≡ u % 65536 * 4294967296 + v % 65536
lower_halves u v p =
    let i = and_block 32 u 0xFFFF v 0xFFFF p (omega arith) in
    omega (arith, i, and_mask u 16, and_mask v 16)

-- what is left of a product within 64 bits, shifted
shifted : (x top s k r : ℕ) → x ≡ top * 2 ^ 64 + (s * 2 ^ k + r) → s * 2 ^ k + r < 2 ^ 64 → r < 2 ^ k → x % 2 ^ 64 / 2 ^ k ≡ s
shifted x top s k r e below small =
    ap (λ (i : ℕ). i % 2 ^ 64 / 2 ^ k) e ∙ ap (λ (i : ℕ). i / 2 ^ k) (mod_low top 64 (s * 2 ^ k + r) below) ∙ shr_high s k r small

pairs_of : (a b c d e f g h : ℕ) → a ≤ 9 → b ≤ 9 → c ≤ 9 → d ≤ 9 → e ≤ 9 → f ≤ 9 → g ≤ 9 → h ≤ 9
    → bit_and ((a * 72057594037927936 + b * 281474976710656 + c * 1099511627776 + d * 4294967296 + e * 16777216 + f * 65536 + g * 256 + h) * 266 % 2 ^ 64 / 2 ^ 8) 0x00FF00FF00FF00FF ≡ (((a * 10 + b) * 65536 + (c * 10 + d)) * 65536 + (e * 10 + f)) * 65536 + (g * 10 + h)
pairs_of a b c d e f g h ha hb hc hd he hf hg hh =
    let t : ℕ = (b * 10 + c) * 256 + (c * 10 + d) in
    let u : ℕ = (d * 10 + e) * 256 + (e * 10 + f) in
    let v : ℕ = (f * 10 + g) * 256 + (g * 10 + h) in
    let s : ℕ = (((a * 10 + b) * 2 ^ 16 + t) * 2 ^ 16 + u) * 2 ^ 16 + v in
    let whole : (a * 72057594037927936 + b * 281474976710656 + c * 1099511627776 + d * 4294967296 + e * 16777216 + f * 65536 + g * 256 + h) * 266 ≡ a * 2 ^ 64 + (s * 2 ^ 8 + h * 10) = omega arith in
    let left = shifted ((a * 72057594037927936 + b * 281474976710656 + c * 1099511627776 + d * 4294967296 + e * 16777216 + f * 65536 + g * 256 + h) * 266) a s 8 (h * 10) whole (omega arith) (omega arith) in
    ap (λ (i : ℕ). bit_and i 0x00FF00FF00FF00FF) left ∙ lower_octets (a * 10 + b) t u v (omega arith) (omega arith) (omega arith) ∙ omega arith

fours_of : (p q r s : ℕ) → p ≤ 99 → q ≤ 99 → r ≤ 99 → s ≤ 99
    → bit_and ((((p * 65536 + q) * 65536 + r) * 65536 + s) * 65636 % 2 ^ 64 / 2 ^ 16) 0x0000FFFF0000FFFF ≡ (p * 100 + q) * 4294967296 + (r * 100 + s)
fours_of p q r s hp hq hr hs =
    let v : ℕ = (q * 100 + r) * 65536 + (r * 100 + s) in
    let t : ℕ = (p * 100 + q) * 2 ^ 32 + v in
    let whole : (((p * 65536 + q) * 65536 + r) * 65536 + s) * 65636 ≡ p * 2 ^ 64 + (t * 2 ^ 16 + s * 100) = omega arith in
    let left = shifted ((((p * 65536 + q) * 65536 + r) * 65536 + s) * 65636) p t 16 (s * 100) whole (omega arith) (omega arith) in
    ap (λ (i : ℕ). bit_and i 0x0000FFFF0000FFFF) left ∙ lower_halves (p * 100 + q) v (omega arith) ∙ omega arith

eight_of : (u v : ℕ) → u ≤ 9999 → v ≤ 9999 → (u * 4294967296 + v) * 4294977296 % 2 ^ 64 / 2 ^ 32 ≡ u * 10000 + v
eight_of u v hu hv = shifted ((u * 4294967296 + v) * 4294977296) u (u * 10000 + v) 32 (v * 10000) (omega arith) (omega arith) (omega arith)

-- the number that the products give
abbrev pub joined : ℕ → ℕ
joined y = bit_and (bit_and (y * 266 % 2 ^ 64 / 2 ^ 8) 0x00FF00FF00FF00FF * 65636 % 2 ^ 64 / 2 ^ 16) 0x0000FFFF0000FFFF * 4294977296 % 2 ^ 64 / 2 ^ 32

joined_is : (y : ℕ) (x : OctetDigits y) → joined y ≡ ((x.a * 10 + x.b) * 100 + (x.c * 10 + x.d)) * 10000 + ((x.e * 10 + x.f) * 100 + (x.g * 10 + x.h))
joined_is y x =
    let a = x.a in let ha = x.a_fits in
    let b = x.b in let hb = x.b_fits in
    let c = x.c in let hc = x.c_fits in
    let d = x.d in let hd = x.d_fits in
    let e = x.e in let he = x.e_fits in
    let f = x.f in let hf = x.f_fits in
    let g = x.g in let hg = x.g_fits in
    let h = x.h in let hh = x.h_fits in
    let one : bit_and (y * 266 % 2 ^ 64 / 2 ^ 8) 0x00FF00FF00FF00FF ≡ (((a * 10 + b) * 65536 + (c * 10 + d)) * 65536 + (e * 10 + f)) * 65536 + (g * 10 + h) =
    ap (λ (i : ℕ). bit_and (i * 266 % 2 ^ 64 / 2 ^ 8) 0x00FF00FF00FF00FF) x.is ∙ pairs_of a b c d e f g h ha hb hc hd he hf hg hh in
    let two : bit_and (bit_and (y * 266 % 2 ^ 64 / 2 ^ 8) 0x00FF00FF00FF00FF * 65636 % 2 ^ 64 / 2 ^ 16) 0x0000FFFF0000FFFF ≡ ((a * 10 + b) * 100 + (c * 10 + d)) * 4294967296 + ((e * 10 + f) * 100 + (g * 10 + h)) =
    ap (λ (i : ℕ). bit_and (i * 65636 % 2 ^ 64 / 2 ^ 16) 0x0000FFFF0000FFFF) one ∙ fours_of (a * 10 + b) (c * 10 + d) (e * 10 + f) (g * 10 + h) (omega arith) (omega arith) (omega arith) (omega arith) in
    ap (λ (i : ℕ). i * 4294977296 % 2 ^ 64 / 2 ^ 32) two ∙ eight_of ((a * 10 + b) * 100 + (c * 10 + d)) ((e * 10 + f) * 100 + (g * 10 + h)) (omega arith) (omega arith)

pub joined_below : (y : ℕ) → OctetDigits y → joined y < 10 ^ 8
joined_below y x =
    let ha = x.a_fits in
    let hb = x.b_fits in
    let hc = x.c_fits in
    let hd = x.d_fits in
    let he = x.e_fits in
    let hf = x.f_fits in
    let hg = x.g_fits in
    let hh = x.h_fits in
    omega (arith, joined_is y x)

-- a digit of a number in three parts
digit_at : (n x d m r : ℕ) → n ≡ (x * 10 + d) * m + r → d ≤ 9 → r < m → n / m % 10 ≡ d
digit_at n x d m r e few small = ap (λ (i : ℕ). i / m % 10) e ∙ ap (λ (i : ℕ). i % 10) (div-mul-add (x * 10 + d) m r small) ∙ omega arith

eight_padded : (n a b c d e f g h : ℕ) → a ≤ 9 → b ≤ 9 → c ≤ 9 → d ≤ 9 → e ≤ 9 → f ≤ 9 → g ≤ 9 → h ≤ 9 → n ≡ ((a * 10 + b) * 100 + (c * 10 + d)) * 10000 + ((e * 10 + f) * 100 + (g * 10 + h))
    → padded 8 n ≡ (48 + a) ∷ (48 + b) ∷ (48 + c) ∷ (48 + d) ∷ (48 + e) ∷ (48 + f) ∷ (48 + g) ∷ (48 + h) ∷ []
unfolding padded
eight_padded n a b c d e f g h ha hb hc hd he hf hg hh is =
    let ea : n / 10000000 % 10 ≡ a = digit_at n (0) a 10000000 (b * 1000000 + c * 100000 + d * 10000 + e * 1000 + f * 100 + g * 10 + h) (omega arith) ha (omega arith) in
    let eb : n / 1000000 % 10 ≡ b = digit_at n (a) b 1000000 (c * 100000 + d * 10000 + e * 1000 + f * 100 + g * 10 + h) (omega arith) hb (omega arith) in
    let ec : n / 100000 % 10 ≡ c = digit_at n (a * 10 + b) c 100000 (d * 10000 + e * 1000 + f * 100 + g * 10 + h) (omega arith) hc (omega arith) in
    let ed : n / 10000 % 10 ≡ d = digit_at n (a * 100 + b * 10 + c) d 10000 (e * 1000 + f * 100 + g * 10 + h) (omega arith) hd (omega arith) in
    let ee : n / 1000 % 10 ≡ e = digit_at n (a * 1000 + b * 100 + c * 10 + d) e 1000 (f * 100 + g * 10 + h) (omega arith) he (omega arith) in
    let ef : n / 100 % 10 ≡ f = digit_at n (a * 10000 + b * 1000 + c * 100 + d * 10 + e) f 100 (g * 10 + h) (omega arith) hf (omega arith) in
    let eg : n / 10 % 10 ≡ g = digit_at n (a * 100000 + b * 10000 + c * 1000 + d * 100 + e * 10 + f) g 10 (h) (omega arith) hg (omega arith) in
    let eh : n / 1 % 10 ≡ h = digit_at n (a * 1000000 + b * 100000 + c * 10000 + d * 1000 + e * 100 + f * 10 + g) h 1 (0) (omega arith) hh (omega arith) in
    rw (ea, eb, ec, ed, ee, ef, eg, eh) refl

pub joined_digits : (y : ℕ) → OctetDigits y → y + 0x3030303030303030 ≡ from_be_bytes w64 (padded 8 (joined y))
joined_digits y x =
    let p = eight_padded (joined y) x.a x.b x.c x.d x.e x.f x.g x.h x.a_fits x.b_fits x.c_fits x.d_fits x.e_fits x.f_fits x.g_fits x.h_fits (joined_is y x) in
    let is = x.is in
    let s : y + 0x3030303030303030 ≡ from_be_bytes w64 ((48 + x.a) ∷ (48 + x.b) ∷ (48 + x.c) ∷ (48 + x.d) ∷ (48 + x.e) ∷ (48 + x.f) ∷ (48 + x.g) ∷ (48 + x.h) ∷ []) = omega (arith, is) in
    s ∙ ap (λ (ds : List ℕ). from_be_bytes w64 ds) (sym p)
