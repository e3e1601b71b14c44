-- The last digits of eight octets.
use Rattle.std.proofs.Common.{◌≡◌, ℕ, zero, suc, ◌+◌, ◌-◌, ◌*◌, ◌/◌, ◌%◌, ◌^◌, ◌<◌, ◌≤◌, List, [], ◌∷◌, ◌++◌, length, take, drop, get_or, refl, sym, ap, ◌∙◌, arith, bit_and, append_assoc}
use Rattle.std.specs.Prelude.{reverse, true, false, nat_lt, ◌==◌, ◌&&◌}
use Rattle.std.proofs.lemmas.Bool.{lt-ltb, eq-eqb, ne_eqb}
use Rattle.std.specs.Int.{w64, from_be_bytes}
use Rattle.std.proofs.Math.Arith.{mod-mul}
use Rattle.std.proofs.Math.Nat.{pow-suc}
use Rattle.std.proofs.lemmas.Nat.{and_mask, same_from_place, div-mul-add, pow-add}
use Rattle.std.proofs.lemmas.Nat.Bits.{ones_shr}
use Rattle.std.proofs.lemmas.List.{drop-append-le, get_or-drop}
use Rattle.tag_uri.specs.Decimal.{padded, plain}
use Rattle.tag_uri.specs.TagText.{is_zero_led}
use Rattle.tag_uri.proofs.DecimalLemmas.{last_part, mod_small, length-padded, digits-padded, value-padded, plain_text}
use Rattle.tag_uri.proofs.EightDigits.{low, Below}
use Rattle.tag_uri.proofs.WritingLemmas.{padded-drop, padded-append, padded-mod, drop_drop, below_of}

-- octets that agree below a power of 256 have the same last octets
same_last : (k : ℕ) (xs ys : List ℕ) → k ≤ length xs → k ≤ length ys → Below 256 xs → Below 256 ys → low xs % 256 ^ k ≡ low ys % 256 ^ k → take k xs ≡ take k ys
same_last zero xs ys a b h g e = refl
same_last (suc k) [] ys a b h g e = absurd (omega arith)
same_last (suc k) (x ∷ xs) [] a b h g e = absurd (omega arith)
same_last (suc k) (x ∷ xs) (y ∷ ys) a b h g e =
    let m : 256 ^ suc k ≡ 256 ^ k * 256 = omega (arith, pow-suc 256 k) in
    let left = parts (low xs) x k h.0 in
    let right = parts (low ys) y k g.0 in
    let both : low xs % 256 ^ k * 256 + x ≡ low ys % 256 ^ k * 256 + y = sym left ∙ ap (λ (i : ℕ). (low xs * 256 + x) % i) (sym m) ∙ e ∙ ap (λ (i : ℕ). (low ys * 256 + y) % i) m ∙ right in
    let same = same_from_place (low xs % 256 ^ k) x (low ys % 256 ^ k) y 256 h.0 g.0 both in
    rw (same.1, same_last k xs ys (omega arith) (omega arith) h.1 g.1 same.0) refl
  where
    pos : (k : ℕ) → 0 < 256 ^ k
    pos zero = omega arith
    pos (suc k) = omega (arith, pos k, pow-suc 256 k)

    parts : (r x k : ℕ) → x < 256 → (r * 256 + x) % (256 ^ k * 256) ≡ r % 256 ^ k * 256 + x
    parts r x k h =
        let up : (r * 256 + x) / 256 ≡ r = div-mul-add r 256 x h in
        let down : (r * 256 + x) % 256 ≡ x = omega (arith, h) in
        mod-mul (r * 256 + x) {m = 256 ^ k} {c = 256} (pos k) (omega arith) ∙ rw (up, down) refl

few_1 : (g0 g1 g2 g3 g4 g5 g6 g7 d : ℕ) → g0 ≤ 9 → g1 ≤ 9 → g2 ≤ 9 → g3 ≤ 9 → g4 ≤ 9 → g5 ≤ 9 → g6 ≤ 9 → g7 ≤ 9 → d < 256 → d + 0x3030303030303030 ≡ (48 + g0) * 72057594037927936 + (48 + g1) * 281474976710656 + (48 + g2) * 1099511627776 + (48 + g3) * 4294967296 + (48 + g4) * 16777216 + (48 + g5) * 65536 + (48 + g6) * 256 + (48 + g7) → g0 * 10000000 + g1 * 1000000 + g2 * 100000 + g3 * 10000 + g4 * 1000 + g5 * 100 + g6 * 10 + g7 < 10
few_1 g0 g1 g2 g3 g4 g5 g6 g7 d q0 q1 q2 q3 q4 q5 q6 q7 small e = omega arith

same_1 : (x g0 g1 g2 g3 g4 g5 g6 g7 b0 b1 b2 b3 b4 b5 b6 b7 : ℕ) → g0 ≤ 9 → g1 ≤ 9 → g2 ≤ 9 → g3 ≤ 9 → g4 ≤ 9 → g5 ≤ 9 → g6 ≤ 9 → g7 ≤ 9 → b0 < 256 → b1 < 256 → b2 < 256 → b3 < 256 → b4 < 256 → b5 < 256 → b6 < 256 → b7 < 256 → x ≡ b0 * 72057594037927936 + b1 * 281474976710656 + b2 * 1099511627776 + b3 * 4294967296 + b4 * 16777216 + b5 * 65536 + b6 * 256 + b7
    → (x + 14974415777481871312) % 2 ^ 64 % 256 + 0x3030303030303030 ≡ (48 + g0) * 72057594037927936 + (48 + g1) * 281474976710656 + (48 + g2) * 1099511627776 + (48 + g3) * 4294967296 + (48 + g4) * 16777216 + (48 + g5) * 65536 + (48 + g6) * 256 + (48 + g7)
    → (g0 * 10000000 + g1 * 1000000 + g2 * 100000 + g3 * 10000 + g4 * 1000 + g5 * 100 + g6 * 10 + g7 < 10) × (take 1 (b7 ∷ b6 ∷ b5 ∷ b4 ∷ b3 ∷ b2 ∷ b1 ∷ b0 ∷ []) ≡ take 1 ((48 + g7) ∷ (48 + g6) ∷ (48 + g5) ∷ (48 + g4) ∷ (48 + g3) ∷ (48 + g2) ∷ (48 + g1) ∷ (48 + g0) ∷ []))
same_1 x g0 g1 g2 g3 g4 g5 g6 g7 b0 b1 b2 b3 b4 b5 b6 b7 q0 q1 q2 q3 q4 q5 q6 q7 p0 p1 p2 p3 p4 p5 p6 p7 is e = (
  few_1 g0 g1 g2 g3 g4 g5 g6 g7 ((x + 14974415777481871312) % 2 ^ 64 % 256) q0 q1 q2 q3 q4 q5 q6 q7 (omega arith) e,
  (
      let lower : ((x + 14974415777481871312) % 2 ^ 64 % 256 + 0x3030303030303030) % 256 ≡ x % 256 = mods x in
      let left : low (b7 ∷ b6 ∷ b5 ∷ b4 ∷ b3 ∷ b2 ∷ b1 ∷ b0 ∷ []) ≡ x = omega (arith, is) in
      let right : low ((48 + g7) ∷ (48 + g6) ∷ (48 + g5) ∷ (48 + g4) ∷ (48 + g3) ∷ (48 + g2) ∷ (48 + g1) ∷ (48 + g0) ∷ []) ≡ (x + 14974415777481871312) % 2 ^ 64 % 256 + 0x3030303030303030 = omega (arith, e) in
      same_last 1 (b7 ∷ b6 ∷ b5 ∷ b4 ∷ b3 ∷ b2 ∷ b1 ∷ b0 ∷ []) ((48 + g7) ∷ (48 + g6) ∷ (48 + g5) ∷ (48 + g4) ∷ (48 + g3) ∷ (48 + g2) ∷ (48 + g1) ∷ (48 + g0) ∷ []) (omega arith) (omega arith)
      (p7, (p6, (p5, (p4, (p3, (p2, (p1, (p0, tt))))))))
      (below g7 q7, (below g6 q6, (below g5 q5, (below g4 q4, (below g3 q3, (below g2 q2, (below g1 q1, (below g0 q0, tt))))))))
      (ap (λ (i : ℕ). i % 256) left ∙ sym lower ∙ ap (λ (i : ℕ). i % 256) (sym right))
      ),
)
  where
    mods : (x : ℕ) → ((x + 14974415777481871312) % 2 ^ 64 % 256 + 0x3030303030303030) % 256 ≡ x % 256
    mods x = omega arith

    below : (g : ℕ) → g ≤ 9 → 48 + g < 256
    below g h = omega arith

few_2 : (g0 g1 g2 g3 g4 g5 g6 g7 d : ℕ) → g0 ≤ 9 → g1 ≤ 9 → g2 ≤ 9 → g3 ≤ 9 → g4 ≤ 9 → g5 ≤ 9 → g6 ≤ 9 → g7 ≤ 9 → d < 65536 → d + 0x3030303030303030 ≡ (48 + g0) * 72057594037927936 + (48 + g1) * 281474976710656 + (48 + g2) * 1099511627776 + (48 + g3) * 4294967296 + (48 + g4) * 16777216 + (48 + g5) * 65536 + (48 + g6) * 256 + (48 + g7) → g0 * 10000000 + g1 * 1000000 + g2 * 100000 + g3 * 10000 + g4 * 1000 + g5 * 100 + g6 * 10 + g7 < 100
few_2 g0 g1 g2 g3 g4 g5 g6 g7 d q0 q1 q2 q3 q4 q5 q6 q7 small e = omega arith

same_2 : (x g0 g1 g2 g3 g4 g5 g6 g7 b0 b1 b2 b3 b4 b5 b6 b7 : ℕ) → g0 ≤ 9 → g1 ≤ 9 → g2 ≤ 9 → g3 ≤ 9 → g4 ≤ 9 → g5 ≤ 9 → g6 ≤ 9 → g7 ≤ 9 → b0 < 256 → b1 < 256 → b2 < 256 → b3 < 256 → b4 < 256 → b5 < 256 → b6 < 256 → b7 < 256 → x ≡ b0 * 72057594037927936 + b1 * 281474976710656 + b2 * 1099511627776 + b3 * 4294967296 + b4 * 16777216 + b5 * 65536 + b6 * 256 + b7
    → (x + 14974415777481871312) % 2 ^ 64 % 65536 + 0x3030303030303030 ≡ (48 + g0) * 72057594037927936 + (48 + g1) * 281474976710656 + (48 + g2) * 1099511627776 + (48 + g3) * 4294967296 + (48 + g4) * 16777216 + (48 + g5) * 65536 + (48 + g6) * 256 + (48 + g7)
    → (g0 * 10000000 + g1 * 1000000 + g2 * 100000 + g3 * 10000 + g4 * 1000 + g5 * 100 + g6 * 10 + g7 < 100) × (take 2 (b7 ∷ b6 ∷ b5 ∷ b4 ∷ b3 ∷ b2 ∷ b1 ∷ b0 ∷ []) ≡ take 2 ((48 + g7) ∷ (48 + g6) ∷ (48 + g5) ∷ (48 + g4) ∷ (48 + g3) ∷ (48 + g2) ∷ (48 + g1) ∷ (48 + g0) ∷ []))
same_2 x g0 g1 g2 g3 g4 g5 g6 g7 b0 b1 b2 b3 b4 b5 b6 b7 q0 q1 q2 q3 q4 q5 q6 q7 p0 p1 p2 p3 p4 p5 p6 p7 is e = (
  few_2 g0 g1 g2 g3 g4 g5 g6 g7 ((x + 14974415777481871312) % 2 ^ 64 % 65536) q0 q1 q2 q3 q4 q5 q6 q7 (omega arith) e,
  (
      let lower : ((x + 14974415777481871312) % 2 ^ 64 % 65536 + 0x3030303030303030) % 65536 ≡ x % 65536 = mods x in
      let left : low (b7 ∷ b6 ∷ b5 ∷ b4 ∷ b3 ∷ b2 ∷ b1 ∷ b0 ∷ []) ≡ x = omega (arith, is) in
      let right : low ((48 + g7) ∷ (48 + g6) ∷ (48 + g5) ∷ (48 + g4) ∷ (48 + g3) ∷ (48 + g2) ∷ (48 + g1) ∷ (48 + g0) ∷ []) ≡ (x + 14974415777481871312) % 2 ^ 64 % 65536 + 0x3030303030303030 = omega (arith, e) in
      same_last 2 (b7 ∷ b6 ∷ b5 ∷ b4 ∷ b3 ∷ b2 ∷ b1 ∷ b0 ∷ []) ((48 + g7) ∷ (48 + g6) ∷ (48 + g5) ∷ (48 + g4) ∷ (48 + g3) ∷ (48 + g2) ∷ (48 + g1) ∷ (48 + g0) ∷ []) (omega arith) (omega arith)
      (p7, (p6, (p5, (p4, (p3, (p2, (p1, (p0, tt))))))))
      (below g7 q7, (below g6 q6, (below g5 q5, (below g4 q4, (below g3 q3, (below g2 q2, (below g1 q1, (below g0 q0, tt))))))))
      (ap (λ (i : ℕ). i % 65536) left ∙ sym lower ∙ ap (λ (i : ℕ). i % 65536) (sym right))
      ),
)
  where
    mods : (x : ℕ) → ((x + 14974415777481871312) % 2 ^ 64 % 65536 + 0x3030303030303030) % 65536 ≡ x % 65536
    mods x = omega arith

    below : (g : ℕ) → g ≤ 9 → 48 + g < 256
    below g h = omega arith

few_3 : (g0 g1 g2 g3 g4 g5 g6 g7 d : ℕ) → g0 ≤ 9 → g1 ≤ 9 → g2 ≤ 9 → g3 ≤ 9 → g4 ≤ 9 → g5 ≤ 9 → g6 ≤ 9 → g7 ≤ 9 → d < 16777216 → d + 0x3030303030303030 ≡ (48 + g0) * 72057594037927936 + (48 + g1) * 281474976710656 + (48 + g2) * 1099511627776 + (48 + g3) * 4294967296 + (48 + g4) * 16777216 + (48 + g5) * 65536 + (48 + g6) * 256 + (48 + g7) → g0 * 10000000 + g1 * 1000000 + g2 * 100000 + g3 * 10000 + g4 * 1000 + g5 * 100 + g6 * 10 + g7 < 1000
few_3 g0 g1 g2 g3 g4 g5 g6 g7 d q0 q1 q2 q3 q4 q5 q6 q7 small e = omega arith

same_3 : (x g0 g1 g2 g3 g4 g5 g6 g7 b0 b1 b2 b3 b4 b5 b6 b7 : ℕ) → g0 ≤ 9 → g1 ≤ 9 → g2 ≤ 9 → g3 ≤ 9 → g4 ≤ 9 → g5 ≤ 9 → g6 ≤ 9 → g7 ≤ 9 → b0 < 256 → b1 < 256 → b2 < 256 → b3 < 256 → b4 < 256 → b5 < 256 → b6 < 256 → b7 < 256 → x ≡ b0 * 72057594037927936 + b1 * 281474976710656 + b2 * 1099511627776 + b3 * 4294967296 + b4 * 16777216 + b5 * 65536 + b6 * 256 + b7
    → (x + 14974415777481871312) % 2 ^ 64 % 16777216 + 0x3030303030303030 ≡ (48 + g0) * 72057594037927936 + (48 + g1) * 281474976710656 + (48 + g2) * 1099511627776 + (48 + g3) * 4294967296 + (48 + g4) * 16777216 + (48 + g5) * 65536 + (48 + g6) * 256 + (48 + g7)
    → (g0 * 10000000 + g1 * 1000000 + g2 * 100000 + g3 * 10000 + g4 * 1000 + g5 * 100 + g6 * 10 + g7 < 1000) × (take 3 (b7 ∷ b6 ∷ b5 ∷ b4 ∷ b3 ∷ b2 ∷ b1 ∷ b0 ∷ []) ≡ take 3 ((48 + g7) ∷ (48 + g6) ∷ (48 + g5) ∷ (48 + g4) ∷ (48 + g3) ∷ (48 + g2) ∷ (48 + g1) ∷ (48 + g0) ∷ []))
same_3 x g0 g1 g2 g3 g4 g5 g6 g7 b0 b1 b2 b3 b4 b5 b6 b7 q0 q1 q2 q3 q4 q5 q6 q7 p0 p1 p2 p3 p4 p5 p6 p7 is e = (
  few_3 g0 g1 g2 g3 g4 g5 g6 g7 ((x + 14974415777481871312) % 2 ^ 64 % 16777216) q0 q1 q2 q3 q4 q5 q6 q7 (omega arith) e,
  (
      let lower : ((x + 14974415777481871312) % 2 ^ 64 % 16777216 + 0x3030303030303030) % 16777216 ≡ x % 16777216 = mods x in
      let left : low (b7 ∷ b6 ∷ b5 ∷ b4 ∷ b3 ∷ b2 ∷ b1 ∷ b0 ∷ []) ≡ x = omega (arith, is) in
      let right : low ((48 + g7) ∷ (48 + g6) ∷ (48 + g5) ∷ (48 + g4) ∷ (48 + g3) ∷ (48 + g2) ∷ (48 + g1) ∷ (48 + g0) ∷ []) ≡ (x + 14974415777481871312) % 2 ^ 64 % 16777216 + 0x3030303030303030 = omega (arith, e) in
      same_last 3 (b7 ∷ b6 ∷ b5 ∷ b4 ∷ b3 ∷ b2 ∷ b1 ∷ b0 ∷ []) ((48 + g7) ∷ (48 + g6) ∷ (48 + g5) ∷ (48 + g4) ∷ (48 + g3) ∷ (48 + g2) ∷ (48 + g1) ∷ (48 + g0) ∷ []) (omega arith) (omega arith)
      (p7, (p6, (p5, (p4, (p3, (p2, (p1, (p0, tt))))))))
      (below g7 q7, (below g6 q6, (below g5 q5, (below g4 q4, (below g3 q3, (below g2 q2, (below g1 q1, (below g0 q0, tt))))))))
      (ap (λ (i : ℕ). i % 16777216) left ∙ sym lower ∙ ap (λ (i : ℕ). i % 16777216) (sym right))
      ),
)
  where
    mods : (x : ℕ) → ((x + 14974415777481871312) % 2 ^ 64 % 16777216 + 0x3030303030303030) % 16777216 ≡ x % 16777216
    mods x = omega arith

    below : (g : ℕ) → g ≤ 9 → 48 + g < 256
    below g h = omega arith

few_4 : (g0 g1 g2 g3 g4 g5 g6 g7 d : ℕ) → g0 ≤ 9 → g1 ≤ 9 → g2 ≤ 9 → g3 ≤ 9 → g4 ≤ 9 → g5 ≤ 9 → g6 ≤ 9 → g7 ≤ 9 → d < 4294967296 → d + 0x3030303030303030 ≡ (48 + g0) * 72057594037927936 + (48 + g1) * 281474976710656 + (48 + g2) * 1099511627776 + (48 + g3) * 4294967296 + (48 + g4) * 16777216 + (48 + g5) * 65536 + (48 + g6) * 256 + (48 + g7) → g0 * 10000000 + g1 * 1000000 + g2 * 100000 + g3 * 10000 + g4 * 1000 + g5 * 100 + g6 * 10 + g7 < 10000
few_4 g0 g1 g2 g3 g4 g5 g6 g7 d q0 q1 q2 q3 q4 q5 q6 q7 small e = omega arith

same_4 : (x g0 g1 g2 g3 g4 g5 g6 g7 b0 b1 b2 b3 b4 b5 b6 b7 : ℕ) → g0 ≤ 9 → g1 ≤ 9 → g2 ≤ 9 → g3 ≤ 9 → g4 ≤ 9 → g5 ≤ 9 → g6 ≤ 9 → g7 ≤ 9 → b0 < 256 → b1 < 256 → b2 < 256 → b3 < 256 → b4 < 256 → b5 < 256 → b6 < 256 → b7 < 256 → x ≡ b0 * 72057594037927936 + b1 * 281474976710656 + b2 * 1099511627776 + b3 * 4294967296 + b4 * 16777216 + b5 * 65536 + b6 * 256 + b7
    → (x + 14974415777481871312) % 2 ^ 64 % 4294967296 + 0x3030303030303030 ≡ (48 + g0) * 72057594037927936 + (48 + g1) * 281474976710656 + (48 + g2) * 1099511627776 + (48 + g3) * 4294967296 + (48 + g4) * 16777216 + (48 + g5) * 65536 + (48 + g6) * 256 + (48 + g7)
    → (g0 * 10000000 + g1 * 1000000 + g2 * 100000 + g3 * 10000 + g4 * 1000 + g5 * 100 + g6 * 10 + g7 < 10000) × (take 4 (b7 ∷ b6 ∷ b5 ∷ b4 ∷ b3 ∷ b2 ∷ b1 ∷ b0 ∷ []) ≡ take 4 ((48 + g7) ∷ (48 + g6) ∷ (48 + g5) ∷ (48 + g4) ∷ (48 + g3) ∷ (48 + g2) ∷ (48 + g1) ∷ (48 + g0) ∷ []))
same_4 x g0 g1 g2 g3 g4 g5 g6 g7 b0 b1 b2 b3 b4 b5 b6 b7 q0 q1 q2 q3 q4 q5 q6 q7 p0 p1 p2 p3 p4 p5 p6 p7 is e = (
  few_4 g0 g1 g2 g3 g4 g5 g6 g7 ((x + 14974415777481871312) % 2 ^ 64 % 4294967296) q0 q1 q2 q3 q4 q5 q6 q7 (omega arith) e,
  (
      let lower : ((x + 14974415777481871312) % 2 ^ 64 % 4294967296 + 0x3030303030303030) % 4294967296 ≡ x % 4294967296 = mods x in
      let left : low (b7 ∷ b6 ∷ b5 ∷ b4 ∷ b3 ∷ b2 ∷ b1 ∷ b0 ∷ []) ≡ x = omega (arith, is) in
      let right : low ((48 + g7) ∷ (48 + g6) ∷ (48 + g5) ∷ (48 + g4) ∷ (48 + g3) ∷ (48 + g2) ∷ (48 + g1) ∷ (48 + g0) ∷ []) ≡ (x + 14974415777481871312) % 2 ^ 64 % 4294967296 + 0x3030303030303030 = omega (arith, e) in
      same_last 4 (b7 ∷ b6 ∷ b5 ∷ b4 ∷ b3 ∷ b2 ∷ b1 ∷ b0 ∷ []) ((48 + g7) ∷ (48 + g6) ∷ (48 + g5) ∷ (48 + g4) ∷ (48 + g3) ∷ (48 + g2) ∷ (48 + g1) ∷ (48 + g0) ∷ []) (omega arith) (omega arith)
      (p7, (p6, (p5, (p4, (p3, (p2, (p1, (p0, tt))))))))
      (below g7 q7, (below g6 q6, (below g5 q5, (below g4 q4, (below g3 q3, (below g2 q2, (below g1 q1, (below g0 q0, tt))))))))
      (ap (λ (i : ℕ). i % 4294967296) left ∙ sym lower ∙ ap (λ (i : ℕ). i % 4294967296) (sym right))
      ),
)
  where
    mods : (x : ℕ) → ((x + 14974415777481871312) % 2 ^ 64 % 4294967296 + 0x3030303030303030) % 4294967296 ≡ x % 4294967296
    mods x = omega arith

    below : (g : ℕ) → g ≤ 9 → 48 + g < 256
    below g h = omega arith

few_5 : (g0 g1 g2 g3 g4 g5 g6 g7 d : ℕ) → g0 ≤ 9 → g1 ≤ 9 → g2 ≤ 9 → g3 ≤ 9 → g4 ≤ 9 → g5 ≤ 9 → g6 ≤ 9 → g7 ≤ 9 → d < 1099511627776 → d + 0x3030303030303030 ≡ (48 + g0) * 72057594037927936 + (48 + g1) * 281474976710656 + (48 + g2) * 1099511627776 + (48 + g3) * 4294967296 + (48 + g4) * 16777216 + (48 + g5) * 65536 + (48 + g6) * 256 + (48 + g7) → g0 * 10000000 + g1 * 1000000 + g2 * 100000 + g3 * 10000 + g4 * 1000 + g5 * 100 + g6 * 10 + g7 < 100000
few_5 g0 g1 g2 g3 g4 g5 g6 g7 d q0 q1 q2 q3 q4 q5 q6 q7 small e = omega arith

same_5 : (x g0 g1 g2 g3 g4 g5 g6 g7 b0 b1 b2 b3 b4 b5 b6 b7 : ℕ) → g0 ≤ 9 → g1 ≤ 9 → g2 ≤ 9 → g3 ≤ 9 → g4 ≤ 9 → g5 ≤ 9 → g6 ≤ 9 → g7 ≤ 9 → b0 < 256 → b1 < 256 → b2 < 256 → b3 < 256 → b4 < 256 → b5 < 256 → b6 < 256 → b7 < 256 → x ≡ b0 * 72057594037927936 + b1 * 281474976710656 + b2 * 1099511627776 + b3 * 4294967296 + b4 * 16777216 + b5 * 65536 + b6 * 256 + b7
    → (x + 14974415777481871312) % 2 ^ 64 % 1099511627776 + 0x3030303030303030 ≡ (48 + g0) * 72057594037927936 + (48 + g1) * 281474976710656 + (48 + g2) * 1099511627776 + (48 + g3) * 4294967296 + (48 + g4) * 16777216 + (48 + g5) * 65536 + (48 + g6) * 256 + (48 + g7)
    → (g0 * 10000000 + g1 * 1000000 + g2 * 100000 + g3 * 10000 + g4 * 1000 + g5 * 100 + g6 * 10 + g7 < 100000) × (take 5 (b7 ∷ b6 ∷ b5 ∷ b4 ∷ b3 ∷ b2 ∷ b1 ∷ b0 ∷ []) ≡ take 5 ((48 + g7) ∷ (48 + g6) ∷ (48 + g5) ∷ (48 + g4) ∷ (48 + g3) ∷ (48 + g2) ∷ (48 + g1) ∷ (48 + g0) ∷ []))
same_5 x g0 g1 g2 g3 g4 g5 g6 g7 b0 b1 b2 b3 b4 b5 b6 b7 q0 q1 q2 q3 q4 q5 q6 q7 p0 p1 p2 p3 p4 p5 p6 p7 is e = (
  few_5 g0 g1 g2 g3 g4 g5 g6 g7 ((x + 14974415777481871312) % 2 ^ 64 % 1099511627776) q0 q1 q2 q3 q4 q5 q6 q7 (omega arith) e,
  (
      let lower : ((x + 14974415777481871312) % 2 ^ 64 % 1099511627776 + 0x3030303030303030) % 1099511627776 ≡ x % 1099511627776 = mods x in
      let left : low (b7 ∷ b6 ∷ b5 ∷ b4 ∷ b3 ∷ b2 ∷ b1 ∷ b0 ∷ []) ≡ x = omega (arith, is) in
      let right : low ((48 + g7) ∷ (48 + g6) ∷ (48 + g5) ∷ (48 + g4) ∷ (48 + g3) ∷ (48 + g2) ∷ (48 + g1) ∷ (48 + g0) ∷ []) ≡ (x + 14974415777481871312) % 2 ^ 64 % 1099511627776 + 0x3030303030303030 = omega (arith, e) in
      same_last 5 (b7 ∷ b6 ∷ b5 ∷ b4 ∷ b3 ∷ b2 ∷ b1 ∷ b0 ∷ []) ((48 + g7) ∷ (48 + g6) ∷ (48 + g5) ∷ (48 + g4) ∷ (48 + g3) ∷ (48 + g2) ∷ (48 + g1) ∷ (48 + g0) ∷ []) (omega arith) (omega arith)
      (p7, (p6, (p5, (p4, (p3, (p2, (p1, (p0, tt))))))))
      (below g7 q7, (below g6 q6, (below g5 q5, (below g4 q4, (below g3 q3, (below g2 q2, (below g1 q1, (below g0 q0, tt))))))))
      (ap (λ (i : ℕ). i % 1099511627776) left ∙ sym lower ∙ ap (λ (i : ℕ). i % 1099511627776) (sym right))
      ),
)
  where
    mods : (x : ℕ) → ((x + 14974415777481871312) % 2 ^ 64 % 1099511627776 + 0x3030303030303030) % 1099511627776 ≡ x % 1099511627776
    mods x = omega arith

    below : (g : ℕ) → g ≤ 9 → 48 + g < 256
    below g h = omega arith

few_6 : (g0 g1 g2 g3 g4 g5 g6 g7 d : ℕ) → g0 ≤ 9 → g1 ≤ 9 → g2 ≤ 9 → g3 ≤ 9 → g4 ≤ 9 → g5 ≤ 9 → g6 ≤ 9 → g7 ≤ 9 → d < 281474976710656 → d + 0x3030303030303030 ≡ (48 + g0) * 72057594037927936 + (48 + g1) * 281474976710656 + (48 + g2) * 1099511627776 + (48 + g3) * 4294967296 + (48 + g4) * 16777216 + (48 + g5) * 65536 + (48 + g6) * 256 + (48 + g7) → g0 * 10000000 + g1 * 1000000 + g2 * 100000 + g3 * 10000 + g4 * 1000 + g5 * 100 + g6 * 10 + g7 < 1000000
few_6 g0 g1 g2 g3 g4 g5 g6 g7 d q0 q1 q2 q3 q4 q5 q6 q7 small e = omega arith

same_6 : (x g0 g1 g2 g3 g4 g5 g6 g7 b0 b1 b2 b3 b4 b5 b6 b7 : ℕ) → g0 ≤ 9 → g1 ≤ 9 → g2 ≤ 9 → g3 ≤ 9 → g4 ≤ 9 → g5 ≤ 9 → g6 ≤ 9 → g7 ≤ 9 → b0 < 256 → b1 < 256 → b2 < 256 → b3 < 256 → b4 < 256 → b5 < 256 → b6 < 256 → b7 < 256 → x ≡ b0 * 72057594037927936 + b1 * 281474976710656 + b2 * 1099511627776 + b3 * 4294967296 + b4 * 16777216 + b5 * 65536 + b6 * 256 + b7
    → (x + 14974415777481871312) % 2 ^ 64 % 281474976710656 + 0x3030303030303030 ≡ (48 + g0) * 72057594037927936 + (48 + g1) * 281474976710656 + (48 + g2) * 1099511627776 + (48 + g3) * 4294967296 + (48 + g4) * 16777216 + (48 + g5) * 65536 + (48 + g6) * 256 + (48 + g7)
    → (g0 * 10000000 + g1 * 1000000 + g2 * 100000 + g3 * 10000 + g4 * 1000 + g5 * 100 + g6 * 10 + g7 < 1000000) × (take 6 (b7 ∷ b6 ∷ b5 ∷ b4 ∷ b3 ∷ b2 ∷ b1 ∷ b0 ∷ []) ≡ take 6 ((48 + g7) ∷ (48 + g6) ∷ (48 + g5) ∷ (48 + g4) ∷ (48 + g3) ∷ (48 + g2) ∷ (48 + g1) ∷ (48 + g0) ∷ []))
same_6 x g0 g1 g2 g3 g4 g5 g6 g7 b0 b1 b2 b3 b4 b5 b6 b7 q0 q1 q2 q3 q4 q5 q6 q7 p0 p1 p2 p3 p4 p5 p6 p7 is e = (
  few_6 g0 g1 g2 g3 g4 g5 g6 g7 ((x + 14974415777481871312) % 2 ^ 64 % 281474976710656) q0 q1 q2 q3 q4 q5 q6 q7 (omega arith) e,
  (
      let lower : ((x + 14974415777481871312) % 2 ^ 64 % 281474976710656 + 0x3030303030303030) % 281474976710656 ≡ x % 281474976710656 = mods x in
      let left : low (b7 ∷ b6 ∷ b5 ∷ b4 ∷ b3 ∷ b2 ∷ b1 ∷ b0 ∷ []) ≡ x = omega (arith, is) in
      let right : low ((48 + g7) ∷ (48 + g6) ∷ (48 + g5) ∷ (48 + g4) ∷ (48 + g3) ∷ (48 + g2) ∷ (48 + g1) ∷ (48 + g0) ∷ []) ≡ (x + 14974415777481871312) % 2 ^ 64 % 281474976710656 + 0x3030303030303030 = omega (arith, e) in
      same_last 6 (b7 ∷ b6 ∷ b5 ∷ b4 ∷ b3 ∷ b2 ∷ b1 ∷ b0 ∷ []) ((48 + g7) ∷ (48 + g6) ∷ (48 + g5) ∷ (48 + g4) ∷ (48 + g3) ∷ (48 + g2) ∷ (48 + g1) ∷ (48 + g0) ∷ []) (omega arith) (omega arith)
      (p7, (p6, (p5, (p4, (p3, (p2, (p1, (p0, tt))))))))
      (below g7 q7, (below g6 q6, (below g5 q5, (below g4 q4, (below g3 q3, (below g2 q2, (below g1 q1, (below g0 q0, tt))))))))
      (ap (λ (i : ℕ). i % 281474976710656) left ∙ sym lower ∙ ap (λ (i : ℕ). i % 281474976710656) (sym right))
      ),
)
  where
    mods : (x : ℕ) → ((x + 14974415777481871312) % 2 ^ 64 % 281474976710656 + 0x3030303030303030) % 281474976710656 ≡ x % 281474976710656
    mods x = omega arith

    below : (g : ℕ) → g ≤ 9 → 48 + g < 256
    below g h = omega arith

few_7 : (g0 g1 g2 g3 g4 g5 g6 g7 d : ℕ) → g0 ≤ 9 → g1 ≤ 9 → g2 ≤ 9 → g3 ≤ 9 → g4 ≤ 9 → g5 ≤ 9 → g6 ≤ 9 → g7 ≤ 9 → d < 72057594037927936 → d + 0x3030303030303030 ≡ (48 + g0) * 72057594037927936 + (48 + g1) * 281474976710656 + (48 + g2) * 1099511627776 + (48 + g3) * 4294967296 + (48 + g4) * 16777216 + (48 + g5) * 65536 + (48 + g6) * 256 + (48 + g7) → g0 * 10000000 + g1 * 1000000 + g2 * 100000 + g3 * 10000 + g4 * 1000 + g5 * 100 + g6 * 10 + g7 < 10000000
few_7 g0 g1 g2 g3 g4 g5 g6 g7 d q0 q1 q2 q3 q4 q5 q6 q7 small e = omega arith

same_7 : (x g0 g1 g2 g3 g4 g5 g6 g7 b0 b1 b2 b3 b4 b5 b6 b7 : ℕ) → g0 ≤ 9 → g1 ≤ 9 → g2 ≤ 9 → g3 ≤ 9 → g4 ≤ 9 → g5 ≤ 9 → g6 ≤ 9 → g7 ≤ 9 → b0 < 256 → b1 < 256 → b2 < 256 → b3 < 256 → b4 < 256 → b5 < 256 → b6 < 256 → b7 < 256 → x ≡ b0 * 72057594037927936 + b1 * 281474976710656 + b2 * 1099511627776 + b3 * 4294967296 + b4 * 16777216 + b5 * 65536 + b6 * 256 + b7
    → (x + 14974415777481871312) % 2 ^ 64 % 72057594037927936 + 0x3030303030303030 ≡ (48 + g0) * 72057594037927936 + (48 + g1) * 281474976710656 + (48 + g2) * 1099511627776 + (48 + g3) * 4294967296 + (48 + g4) * 16777216 + (48 + g5) * 65536 + (48 + g6) * 256 + (48 + g7)
    → (g0 * 10000000 + g1 * 1000000 + g2 * 100000 + g3 * 10000 + g4 * 1000 + g5 * 100 + g6 * 10 + g7 < 10000000) × (take 7 (b7 ∷ b6 ∷ b5 ∷ b4 ∷ b3 ∷ b2 ∷ b1 ∷ b0 ∷ []) ≡ take 7 ((48 + g7) ∷ (48 + g6) ∷ (48 + g5) ∷ (48 + g4) ∷ (48 + g3) ∷ (48 + g2) ∷ (48 + g1) ∷ (48 + g0) ∷ []))
same_7 x g0 g1 g2 g3 g4 g5 g6 g7 b0 b1 b2 b3 b4 b5 b6 b7 q0 q1 q2 q3 q4 q5 q6 q7 p0 p1 p2 p3 p4 p5 p6 p7 is e = (
  few_7 g0 g1 g2 g3 g4 g5 g6 g7 ((x + 14974415777481871312) % 2 ^ 64 % 72057594037927936) q0 q1 q2 q3 q4 q5 q6 q7 (omega arith) e,
  (
      let lower : ((x + 14974415777481871312) % 2 ^ 64 % 72057594037927936 + 0x3030303030303030) % 72057594037927936 ≡ x % 72057594037927936 = mods x in
      let left : low (b7 ∷ b6 ∷ b5 ∷ b4 ∷ b3 ∷ b2 ∷ b1 ∷ b0 ∷ []) ≡ x = omega (arith, is) in
      let right : low ((48 + g7) ∷ (48 + g6) ∷ (48 + g5) ∷ (48 + g4) ∷ (48 + g3) ∷ (48 + g2) ∷ (48 + g1) ∷ (48 + g0) ∷ []) ≡ (x + 14974415777481871312) % 2 ^ 64 % 72057594037927936 + 0x3030303030303030 = omega (arith, e) in
      same_last 7 (b7 ∷ b6 ∷ b5 ∷ b4 ∷ b3 ∷ b2 ∷ b1 ∷ b0 ∷ []) ((48 + g7) ∷ (48 + g6) ∷ (48 + g5) ∷ (48 + g4) ∷ (48 + g3) ∷ (48 + g2) ∷ (48 + g1) ∷ (48 + g0) ∷ []) (omega arith) (omega arith)
      (p7, (p6, (p5, (p4, (p3, (p2, (p1, (p0, tt))))))))
      (below g7 q7, (below g6 q6, (below g5 q5, (below g4 q4, (below g3 q3, (below g2 q2, (below g1 q1, (below g0 q0, tt))))))))
      (ap (λ (i : ℕ). i % 72057594037927936) left ∙ sym lower ∙ ap (λ (i : ℕ). i % 72057594037927936) (sym right))
      ),
)
  where
    mods : (x : ℕ) → ((x + 14974415777481871312) % 2 ^ 64 % 72057594037927936 + 0x3030303030303030) % 72057594037927936 ≡ x % 72057594037927936
    mods x = omega arith

    below : (g : ℕ) → g ≤ 9 → 48 + g < 256
    below g h = omega arith

few_8 : (g0 g1 g2 g3 g4 g5 g6 g7 d : ℕ) → g0 ≤ 9 → g1 ≤ 9 → g2 ≤ 9 → g3 ≤ 9 → g4 ≤ 9 → g5 ≤ 9 → g6 ≤ 9 → g7 ≤ 9 → d < 18446744073709551616 → d + 0x3030303030303030 ≡ (48 + g0) * 72057594037927936 + (48 + g1) * 281474976710656 + (48 + g2) * 1099511627776 + (48 + g3) * 4294967296 + (48 + g4) * 16777216 + (48 + g5) * 65536 + (48 + g6) * 256 + (48 + g7) → g0 * 10000000 + g1 * 1000000 + g2 * 100000 + g3 * 10000 + g4 * 1000 + g5 * 100 + g6 * 10 + g7 < 100000000
few_8 g0 g1 g2 g3 g4 g5 g6 g7 d q0 q1 q2 q3 q4 q5 q6 q7 small e = omega arith

same_8 : (x g0 g1 g2 g3 g4 g5 g6 g7 b0 b1 b2 b3 b4 b5 b6 b7 : ℕ) → g0 ≤ 9 → g1 ≤ 9 → g2 ≤ 9 → g3 ≤ 9 → g4 ≤ 9 → g5 ≤ 9 → g6 ≤ 9 → g7 ≤ 9 → b0 < 256 → b1 < 256 → b2 < 256 → b3 < 256 → b4 < 256 → b5 < 256 → b6 < 256 → b7 < 256 → x ≡ b0 * 72057594037927936 + b1 * 281474976710656 + b2 * 1099511627776 + b3 * 4294967296 + b4 * 16777216 + b5 * 65536 + b6 * 256 + b7
    → (x + 14974415777481871312) % 2 ^ 64 % 18446744073709551616 + 0x3030303030303030 ≡ (48 + g0) * 72057594037927936 + (48 + g1) * 281474976710656 + (48 + g2) * 1099511627776 + (48 + g3) * 4294967296 + (48 + g4) * 16777216 + (48 + g5) * 65536 + (48 + g6) * 256 + (48 + g7)
    → (g0 * 10000000 + g1 * 1000000 + g2 * 100000 + g3 * 10000 + g4 * 1000 + g5 * 100 + g6 * 10 + g7 < 100000000) × (take 8 (b7 ∷ b6 ∷ b5 ∷ b4 ∷ b3 ∷ b2 ∷ b1 ∷ b0 ∷ []) ≡ take 8 ((48 + g7) ∷ (48 + g6) ∷ (48 + g5) ∷ (48 + g4) ∷ (48 + g3) ∷ (48 + g2) ∷ (48 + g1) ∷ (48 + g0) ∷ []))
same_8 x g0 g1 g2 g3 g4 g5 g6 g7 b0 b1 b2 b3 b4 b5 b6 b7 q0 q1 q2 q3 q4 q5 q6 q7 p0 p1 p2 p3 p4 p5 p6 p7 is e = (
  few_8 g0 g1 g2 g3 g4 g5 g6 g7 ((x + 14974415777481871312) % 2 ^ 64 % 18446744073709551616) q0 q1 q2 q3 q4 q5 q6 q7 (omega arith) e,
  (
      let lower : ((x + 14974415777481871312) % 2 ^ 64 % 18446744073709551616 + 0x3030303030303030) % 18446744073709551616 ≡ x % 18446744073709551616 = mods x in
      let left : low (b7 ∷ b6 ∷ b5 ∷ b4 ∷ b3 ∷ b2 ∷ b1 ∷ b0 ∷ []) ≡ x = omega (arith, is) in
      let right : low ((48 + g7) ∷ (48 + g6) ∷ (48 + g5) ∷ (48 + g4) ∷ (48 + g3) ∷ (48 + g2) ∷ (48 + g1) ∷ (48 + g0) ∷ []) ≡ (x + 14974415777481871312) % 2 ^ 64 % 18446744073709551616 + 0x3030303030303030 = omega (arith, e) in
      same_last 8 (b7 ∷ b6 ∷ b5 ∷ b4 ∷ b3 ∷ b2 ∷ b1 ∷ b0 ∷ []) ((48 + g7) ∷ (48 + g6) ∷ (48 + g5) ∷ (48 + g4) ∷ (48 + g3) ∷ (48 + g2) ∷ (48 + g1) ∷ (48 + g0) ∷ []) (omega arith) (omega arith)
      (p7, (p6, (p5, (p4, (p3, (p2, (p1, (p0, tt))))))))
      (below g7 q7, (below g6 q6, (below g5 q5, (below g4 q4, (below g3 q3, (below g2 q2, (below g1 q1, (below g0 q0, tt))))))))
      (ap (λ (i : ℕ). i % 18446744073709551616) left ∙ sym lower ∙ ap (λ (i : ℕ). i % 18446744073709551616) (sym right))
      ),
)
  where
    mods : (x : ℕ) → ((x + 14974415777481871312) % 2 ^ 64 % 18446744073709551616 + 0x3030303030303030) % 18446744073709551616 ≡ x % 18446744073709551616
    mods x = omega arith

    below : (g : ℕ) → g ≤ 9 → 48 + g < 256
    below g h = omega arith

sum_of : (n : ℕ) → n < 10 ^ 8 → n / 10000000 % 10 * 10000000 + n / 1000000 % 10 * 1000000 + n / 100000 % 10 * 100000 + n / 10000 % 10 * 10000 + n / 1000 % 10 * 1000 + n / 100 % 10 * 100 + n / 10 % 10 * 10 + n / 1 % 10 ≡ n
sum_of n small =
    let z : n % 1 ≡ 0 = omega arith in
    let w : n % 10 ^ 8 ≡ n = mod_small n (10 ^ 8) small in
    let one : n / 1 ≡ n = omega arith in
    let e7 : n % 100000000 ≡ n / 10000000 % 10 * 10000000 + n % 10000000 = last_part 7 n in
    let e6 : n % 10000000 ≡ n / 1000000 % 10 * 1000000 + n % 1000000 = last_part 6 n in
    let e5 : n % 1000000 ≡ n / 100000 % 10 * 100000 + n % 100000 = last_part 5 n in
    let e4 : n % 100000 ≡ n / 10000 % 10 * 10000 + n % 10000 = last_part 4 n in
    let e3 : n % 10000 ≡ n / 1000 % 10 * 1000 + n % 1000 = last_part 3 n in
    let e2 : n % 1000 ≡ n / 100 % 10 * 100 + n % 100 = last_part 2 n in
    let e1 : n % 100 ≡ n / 10 % 10 * 10 + n % 10 = last_part 1 n in
    let e0 : n % 10 ≡ n / 1 % 10 * 1 + n % 1 = last_part 0 n in
    omega (arith, z, w, e7, e6, e5, e4, e3, e2, e1, e0)

digit_few : (n : ℕ) → n % 10 ≤ 9
digit_few n = omega arith

-- what is wanted of the last k of eight octets
abbrev Last : ℕ → ℕ → List ℕ → Type 0
Last k n bs = (n < 10 ^ k) × (drop (8 - k) bs ≡ padded k n)

last_1 : (x n b0 b1 b2 b3 b4 b5 b6 b7 : ℕ) → b0 < 256 → b1 < 256 → b2 < 256 → b3 < 256 → b4 < 256 → b5 < 256 → b6 < 256 → b7 < 256 → x ≡ b0 * 72057594037927936 + b1 * 281474976710656 + b2 * 1099511627776 + b3 * 4294967296 + b4 * 16777216 + b5 * 65536 + b6 * 256 + b7 → n < 10 ^ 8 → (x + 14974415777481871312) % 2 ^ 64 % 256 + 0x3030303030303030 ≡ from_be_bytes w64 (padded 8 n) → Last 1 n (b0 ∷ b1 ∷ b2 ∷ b3 ∷ b4 ∷ b5 ∷ b6 ∷ b7 ∷ [])
unfolding padded
last_1 x n b0 b1 b2 b3 b4 b5 b6 b7 p0 p1 p2 p3 p4 p5 p6 p7 is small e =
    let s = same_1 x (n / 10000000 % 10) (n / 1000000 % 10) (n / 100000 % 10) (n / 10000 % 10) (n / 1000 % 10) (n / 100 % 10) (n / 10 % 10) (n / 1 % 10) b0 b1 b2 b3 b4 b5 b6 b7 (digit_few (n / 10000000)) (digit_few (n / 1000000)) (digit_few (n / 100000)) (digit_few (n / 10000)) (digit_few (n / 1000)) (digit_few (n / 100)) (digit_few (n / 10)) (digit_few (n / 1)) p0 p1 p2 p3 p4 p5 p6 p7 is e in
    let few : n < 10 = rw (sum_of n small) at s.0 in
    (few, ap reverse s.1 ∙ padded-drop 7 1 8 n refl)

last_2 : (x n b0 b1 b2 b3 b4 b5 b6 b7 : ℕ) → b0 < 256 → b1 < 256 → b2 < 256 → b3 < 256 → b4 < 256 → b5 < 256 → b6 < 256 → b7 < 256 → x ≡ b0 * 72057594037927936 + b1 * 281474976710656 + b2 * 1099511627776 + b3 * 4294967296 + b4 * 16777216 + b5 * 65536 + b6 * 256 + b7 → n < 10 ^ 8 → (x + 14974415777481871312) % 2 ^ 64 % 65536 + 0x3030303030303030 ≡ from_be_bytes w64 (padded 8 n) → Last 2 n (b0 ∷ b1 ∷ b2 ∷ b3 ∷ b4 ∷ b5 ∷ b6 ∷ b7 ∷ [])
unfolding padded
last_2 x n b0 b1 b2 b3 b4 b5 b6 b7 p0 p1 p2 p3 p4 p5 p6 p7 is small e =
    let s = same_2 x (n / 10000000 % 10) (n / 1000000 % 10) (n / 100000 % 10) (n / 10000 % 10) (n / 1000 % 10) (n / 100 % 10) (n / 10 % 10) (n / 1 % 10) b0 b1 b2 b3 b4 b5 b6 b7 (digit_few (n / 10000000)) (digit_few (n / 1000000)) (digit_few (n / 100000)) (digit_few (n / 10000)) (digit_few (n / 1000)) (digit_few (n / 100)) (digit_few (n / 10)) (digit_few (n / 1)) p0 p1 p2 p3 p4 p5 p6 p7 is e in
    let few : n < 100 = rw (sum_of n small) at s.0 in
    (few, ap reverse s.1 ∙ padded-drop 6 2 8 n refl)

last_3 : (x n b0 b1 b2 b3 b4 b5 b6 b7 : ℕ) → b0 < 256 → b1 < 256 → b2 < 256 → b3 < 256 → b4 < 256 → b5 < 256 → b6 < 256 → b7 < 256 → x ≡ b0 * 72057594037927936 + b1 * 281474976710656 + b2 * 1099511627776 + b3 * 4294967296 + b4 * 16777216 + b5 * 65536 + b6 * 256 + b7 → n < 10 ^ 8 → (x + 14974415777481871312) % 2 ^ 64 % 16777216 + 0x3030303030303030 ≡ from_be_bytes w64 (padded 8 n) → Last 3 n (b0 ∷ b1 ∷ b2 ∷ b3 ∷ b4 ∷ b5 ∷ b6 ∷ b7 ∷ [])
unfolding padded
last_3 x n b0 b1 b2 b3 b4 b5 b6 b7 p0 p1 p2 p3 p4 p5 p6 p7 is small e =
    let s = same_3 x (n / 10000000 % 10) (n / 1000000 % 10) (n / 100000 % 10) (n / 10000 % 10) (n / 1000 % 10) (n / 100 % 10) (n / 10 % 10) (n / 1 % 10) b0 b1 b2 b3 b4 b5 b6 b7 (digit_few (n / 10000000)) (digit_few (n / 1000000)) (digit_few (n / 100000)) (digit_few (n / 10000)) (digit_few (n / 1000)) (digit_few (n / 100)) (digit_few (n / 10)) (digit_few (n / 1)) p0 p1 p2 p3 p4 p5 p6 p7 is e in
    let few : n < 1000 = rw (sum_of n small) at s.0 in
    (few, ap reverse s.1 ∙ padded-drop 5 3 8 n refl)

last_4 : (x n b0 b1 b2 b3 b4 b5 b6 b7 : ℕ) → b0 < 256 → b1 < 256 → b2 < 256 → b3 < 256 → b4 < 256 → b5 < 256 → b6 < 256 → b7 < 256 → x ≡ b0 * 72057594037927936 + b1 * 281474976710656 + b2 * 1099511627776 + b3 * 4294967296 + b4 * 16777216 + b5 * 65536 + b6 * 256 + b7 → n < 10 ^ 8 → (x + 14974415777481871312) % 2 ^ 64 % 4294967296 + 0x3030303030303030 ≡ from_be_bytes w64 (padded 8 n) → Last 4 n (b0 ∷ b1 ∷ b2 ∷ b3 ∷ b4 ∷ b5 ∷ b6 ∷ b7 ∷ [])
unfolding padded
last_4 x n b0 b1 b2 b3 b4 b5 b6 b7 p0 p1 p2 p3 p4 p5 p6 p7 is small e =
    let s = same_4 x (n / 10000000 % 10) (n / 1000000 % 10) (n / 100000 % 10) (n / 10000 % 10) (n / 1000 % 10) (n / 100 % 10) (n / 10 % 10) (n / 1 % 10) b0 b1 b2 b3 b4 b5 b6 b7 (digit_few (n / 10000000)) (digit_few (n / 1000000)) (digit_few (n / 100000)) (digit_few (n / 10000)) (digit_few (n / 1000)) (digit_few (n / 100)) (digit_few (n / 10)) (digit_few (n / 1)) p0 p1 p2 p3 p4 p5 p6 p7 is e in
    let few : n < 10000 = rw (sum_of n small) at s.0 in
    (few, ap reverse s.1 ∙ padded-drop 4 4 8 n refl)

last_5 : (x n b0 b1 b2 b3 b4 b5 b6 b7 : ℕ) → b0 < 256 → b1 < 256 → b2 < 256 → b3 < 256 → b4 < 256 → b5 < 256 → b6 < 256 → b7 < 256 → x ≡ b0 * 72057594037927936 + b1 * 281474976710656 + b2 * 1099511627776 + b3 * 4294967296 + b4 * 16777216 + b5 * 65536 + b6 * 256 + b7 → n < 10 ^ 8 → (x + 14974415777481871312) % 2 ^ 64 % 1099511627776 + 0x3030303030303030 ≡ from_be_bytes w64 (padded 8 n) → Last 5 n (b0 ∷ b1 ∷ b2 ∷ b3 ∷ b4 ∷ b5 ∷ b6 ∷ b7 ∷ [])
unfolding padded
last_5 x n b0 b1 b2 b3 b4 b5 b6 b7 p0 p1 p2 p3 p4 p5 p6 p7 is small e =
    let s = same_5 x (n / 10000000 % 10) (n / 1000000 % 10) (n / 100000 % 10) (n / 10000 % 10) (n / 1000 % 10) (n / 100 % 10) (n / 10 % 10) (n / 1 % 10) b0 b1 b2 b3 b4 b5 b6 b7 (digit_few (n / 10000000)) (digit_few (n / 1000000)) (digit_few (n / 100000)) (digit_few (n / 10000)) (digit_few (n / 1000)) (digit_few (n / 100)) (digit_few (n / 10)) (digit_few (n / 1)) p0 p1 p2 p3 p4 p5 p6 p7 is e in
    let few : n < 100000 = rw (sum_of n small) at s.0 in
    (few, ap reverse s.1 ∙ padded-drop 3 5 8 n refl)

last_6 : (x n b0 b1 b2 b3 b4 b5 b6 b7 : ℕ) → b0 < 256 → b1 < 256 → b2 < 256 → b3 < 256 → b4 < 256 → b5 < 256 → b6 < 256 → b7 < 256 → x ≡ b0 * 72057594037927936 + b1 * 281474976710656 + b2 * 1099511627776 + b3 * 4294967296 + b4 * 16777216 + b5 * 65536 + b6 * 256 + b7 → n < 10 ^ 8 → (x + 14974415777481871312) % 2 ^ 64 % 281474976710656 + 0x3030303030303030 ≡ from_be_bytes w64 (padded 8 n) → Last 6 n (b0 ∷ b1 ∷ b2 ∷ b3 ∷ b4 ∷ b5 ∷ b6 ∷ b7 ∷ [])
unfolding padded
last_6 x n b0 b1 b2 b3 b4 b5 b6 b7 p0 p1 p2 p3 p4 p5 p6 p7 is small e =
    let s = same_6 x (n / 10000000 % 10) (n / 1000000 % 10) (n / 100000 % 10) (n / 10000 % 10) (n / 1000 % 10) (n / 100 % 10) (n / 10 % 10) (n / 1 % 10) b0 b1 b2 b3 b4 b5 b6 b7 (digit_few (n / 10000000)) (digit_few (n / 1000000)) (digit_few (n / 100000)) (digit_few (n / 10000)) (digit_few (n / 1000)) (digit_few (n / 100)) (digit_few (n / 10)) (digit_few (n / 1)) p0 p1 p2 p3 p4 p5 p6 p7 is e in
    let few : n < 1000000 = rw (sum_of n small) at s.0 in
    (few, ap reverse s.1 ∙ padded-drop 2 6 8 n refl)

last_7 : (x n b0 b1 b2 b3 b4 b5 b6 b7 : ℕ) → b0 < 256 → b1 < 256 → b2 < 256 → b3 < 256 → b4 < 256 → b5 < 256 → b6 < 256 → b7 < 256 → x ≡ b0 * 72057594037927936 + b1 * 281474976710656 + b2 * 1099511627776 + b3 * 4294967296 + b4 * 16777216 + b5 * 65536 + b6 * 256 + b7 → n < 10 ^ 8 → (x + 14974415777481871312) % 2 ^ 64 % 72057594037927936 + 0x3030303030303030 ≡ from_be_bytes w64 (padded 8 n) → Last 7 n (b0 ∷ b1 ∷ b2 ∷ b3 ∷ b4 ∷ b5 ∷ b6 ∷ b7 ∷ [])
unfolding padded
last_7 x n b0 b1 b2 b3 b4 b5 b6 b7 p0 p1 p2 p3 p4 p5 p6 p7 is small e =
    let s = same_7 x (n / 10000000 % 10) (n / 1000000 % 10) (n / 100000 % 10) (n / 10000 % 10) (n / 1000 % 10) (n / 100 % 10) (n / 10 % 10) (n / 1 % 10) b0 b1 b2 b3 b4 b5 b6 b7 (digit_few (n / 10000000)) (digit_few (n / 1000000)) (digit_few (n / 100000)) (digit_few (n / 10000)) (digit_few (n / 1000)) (digit_few (n / 100)) (digit_few (n / 10)) (digit_few (n / 1)) p0 p1 p2 p3 p4 p5 p6 p7 is e in
    let few : n < 10000000 = rw (sum_of n small) at s.0 in
    (few, ap reverse s.1 ∙ padded-drop 1 7 8 n refl)

last_8 : (x n b0 b1 b2 b3 b4 b5 b6 b7 : ℕ) → b0 < 256 → b1 < 256 → b2 < 256 → b3 < 256 → b4 < 256 → b5 < 256 → b6 < 256 → b7 < 256 → x ≡ b0 * 72057594037927936 + b1 * 281474976710656 + b2 * 1099511627776 + b3 * 4294967296 + b4 * 16777216 + b5 * 65536 + b6 * 256 + b7 → n < 10 ^ 8 → (x + 14974415777481871312) % 2 ^ 64 % 18446744073709551616 + 0x3030303030303030 ≡ from_be_bytes w64 (padded 8 n) → Last 8 n (b0 ∷ b1 ∷ b2 ∷ b3 ∷ b4 ∷ b5 ∷ b6 ∷ b7 ∷ [])
unfolding padded
last_8 x n b0 b1 b2 b3 b4 b5 b6 b7 p0 p1 p2 p3 p4 p5 p6 p7 is small e =
    let s = same_8 x (n / 10000000 % 10) (n / 1000000 % 10) (n / 100000 % 10) (n / 10000 % 10) (n / 1000 % 10) (n / 100 % 10) (n / 10 % 10) (n / 1 % 10) b0 b1 b2 b3 b4 b5 b6 b7 (digit_few (n / 10000000)) (digit_few (n / 1000000)) (digit_few (n / 100000)) (digit_few (n / 10000)) (digit_few (n / 1000)) (digit_few (n / 100)) (digit_few (n / 10)) (digit_few (n / 1)) p0 p1 p2 p3 p4 p5 p6 p7 is e in
    let few : n < 100000000 = rw (sum_of n small) at s.0 in
    (few, ap reverse s.1 ∙ padded-drop 0 8 8 n refl)

last_of_eight : (k x n b0 b1 b2 b3 b4 b5 b6 b7 : ℕ) → 1 ≤ k → k ≤ 8 → b0 < 256 → b1 < 256 → b2 < 256 → b3 < 256 → b4 < 256 → b5 < 256 → b6 < 256 → b7 < 256 → x ≡ b0 * 72057594037927936 + b1 * 281474976710656 + b2 * 1099511627776 + b3 * 4294967296 + b4 * 16777216 + b5 * 65536 + b6 * 256 + b7 → n < 10 ^ 8 → (x + 14974415777481871312) % 2 ^ 64 % 2 ^ (8 * k) + 0x3030303030303030 ≡ from_be_bytes w64 (padded 8 n) → Last k n (b0 ∷ b1 ∷ b2 ∷ b3 ∷ b4 ∷ b5 ∷ b6 ∷ b7 ∷ [])
last_of_eight zero x n b0 b1 b2 b3 b4 b5 b6 b7 some few p0 p1 p2 p3 p4 p5 p6 p7 is small e = absurd (omega arith)
last_of_eight (suc zero) x n b0 b1 b2 b3 b4 b5 b6 b7 some few p0 p1 p2 p3 p4 p5 p6 p7 is small e = last_1 x n b0 b1 b2 b3 b4 b5 b6 b7 p0 p1 p2 p3 p4 p5 p6 p7 is small e
last_of_eight (suc (suc zero)) x n b0 b1 b2 b3 b4 b5 b6 b7 some few p0 p1 p2 p3 p4 p5 p6 p7 is small e = last_2 x n b0 b1 b2 b3 b4 b5 b6 b7 p0 p1 p2 p3 p4 p5 p6 p7 is small e
last_of_eight (suc (suc (suc zero))) x n b0 b1 b2 b3 b4 b5 b6 b7 some few p0 p1 p2 p3 p4 p5 p6 p7 is small e = last_3 x n b0 b1 b2 b3 b4 b5 b6 b7 p0 p1 p2 p3 p4 p5 p6 p7 is small e
last_of_eight (suc (suc (suc (suc zero)))) x n b0 b1 b2 b3 b4 b5 b6 b7 some few p0 p1 p2 p3 p4 p5 p6 p7 is small e = last_4 x n b0 b1 b2 b3 b4 b5 b6 b7 p0 p1 p2 p3 p4 p5 p6 p7 is small e
last_of_eight (suc (suc (suc (suc (suc zero))))) x n b0 b1 b2 b3 b4 b5 b6 b7 some few p0 p1 p2 p3 p4 p5 p6 p7 is small e = last_5 x n b0 b1 b2 b3 b4 b5 b6 b7 p0 p1 p2 p3 p4 p5 p6 p7 is small e
last_of_eight (suc (suc (suc (suc (suc (suc zero)))))) x n b0 b1 b2 b3 b4 b5 b6 b7 some few p0 p1 p2 p3 p4 p5 p6 p7 is small e = last_6 x n b0 b1 b2 b3 b4 b5 b6 b7 p0 p1 p2 p3 p4 p5 p6 p7 is small e
last_of_eight (suc (suc (suc (suc (suc (suc (suc zero))))))) x n b0 b1 b2 b3 b4 b5 b6 b7 some few p0 p1 p2 p3 p4 p5 p6 p7 is small e = last_7 x n b0 b1 b2 b3 b4 b5 b6 b7 p0 p1 p2 p3 p4 p5 p6 p7 is small e
last_of_eight (suc (suc (suc (suc (suc (suc (suc (suc zero)))))))) x n b0 b1 b2 b3 b4 b5 b6 b7 some few p0 p1 p2 p3 p4 p5 p6 p7 is small e = last_8 x n b0 b1 b2 b3 b4 b5 b6 b7 p0 p1 p2 p3 p4 p5 p6 p7 is small e
last_of_eight (suc (suc (suc (suc (suc (suc (suc (suc (suc k))))))))) x n b0 b1 b2 b3 b4 b5 b6 b7 some few p0 p1 p2 p3 p4 p5 p6 p7 is small e = absurd (omega arith)

-- the last digits of eight octets, as the code masks them
pub last_digits : (k x n : ℕ) (bs : List ℕ) → 1 ≤ k → k ≤ 8 → length bs ≡ 8 → ((i : ℕ) → get_or bs i 0 < 256) → x ≡ from_be_bytes w64 bs → n < 10 ^ 8
    → bit_and ((x + 14974415777481871312) % 2 ^ 64) ((2 ^ 64 - 1) / 2 ^ (64 - 8 * k)) + 0x3030303030303030 ≡ from_be_bytes w64 (padded 8 n) → Last k n bs
last_digits k x n [] some few l fit is small e = absurd (omega arith)
last_digits k x n (b0 ∷ []) some few l fit is small e = absurd (omega arith)
last_digits k x n (b0 ∷ b1 ∷ []) some few l fit is small e = absurd (omega arith)
last_digits k x n (b0 ∷ b1 ∷ b2 ∷ []) some few l fit is small e = absurd (omega arith)
last_digits k x n (b0 ∷ b1 ∷ b2 ∷ b3 ∷ []) some few l fit is small e = absurd (omega arith)
last_digits k x n (b0 ∷ b1 ∷ b2 ∷ b3 ∷ b4 ∷ []) some few l fit is small e = absurd (omega arith)
last_digits k x n (b0 ∷ b1 ∷ b2 ∷ b3 ∷ b4 ∷ b5 ∷ []) some few l fit is small e = absurd (omega arith)
last_digits k x n (b0 ∷ b1 ∷ b2 ∷ b3 ∷ b4 ∷ b5 ∷ b6 ∷ []) some few l fit is small e = absurd (omega arith)
last_digits k x n (b0 ∷ b1 ∷ b2 ∷ b3 ∷ b4 ∷ b5 ∷ b6 ∷ b7 ∷ []) some few l fit is small e =
    let place : 64 - (64 - 8 * k) ≡ 8 * k = omega arith in
    let mask : (2 ^ 64 - 1) / 2 ^ (64 - 8 * k) ≡ 2 ^ (8 * k) - 1 = ones_shr 64 (64 - 8 * k) (omega arith) ∙ ap (λ (i : ℕ). 2 ^ i - 1) place in
    let part : bit_and ((x + 14974415777481871312) % 2 ^ 64) ((2 ^ 64 - 1) / 2 ^ (64 - 8 * k)) ≡ (x + 14974415777481871312) % 2 ^ 64 % 2 ^ (8 * k) = ap (λ (i : ℕ). bit_and ((x + 14974415777481871312) % 2 ^ 64) i) mask ∙ and_mask ((x + 14974415777481871312) % 2 ^ 64) (8 * k) in
    last_of_eight k x n b0 b1 b2 b3 b4 b5 b6 b7 some few (fit 0) (fit 1) (fit 2) (fit 3) (fit 4) (fit 5) (fit 6) (fit 7) (omega (arith, is)) small (ap (λ (i : ℕ). i + 0x3030303030303030) (sym part) ∙ e)
last_digits k x n (b0 ∷ b1 ∷ b2 ∷ b3 ∷ b4 ∷ b5 ∷ b6 ∷ b7 ∷ b ∷ bs) some few l fit is small e = absurd (omega arith)

pub no_digits : (bs : List ℕ) → length bs ≡ 8 → drop 8 bs ≡ padded 0 0
unfolding padded
no_digits [] l = absurd (omega arith)
no_digits (b0 ∷ []) l = absurd (omega arith)
no_digits (b0 ∷ b1 ∷ []) l = absurd (omega arith)
no_digits (b0 ∷ b1 ∷ b2 ∷ []) l = absurd (omega arith)
no_digits (b0 ∷ b1 ∷ b2 ∷ b3 ∷ []) l = absurd (omega arith)
no_digits (b0 ∷ b1 ∷ b2 ∷ b3 ∷ b4 ∷ []) l = absurd (omega arith)
no_digits (b0 ∷ b1 ∷ b2 ∷ b3 ∷ b4 ∷ b5 ∷ []) l = absurd (omega arith)
no_digits (b0 ∷ b1 ∷ b2 ∷ b3 ∷ b4 ∷ b5 ∷ b6 ∷ []) l = absurd (omega arith)
no_digits (b0 ∷ b1 ∷ b2 ∷ b3 ∷ b4 ∷ b5 ∷ b6 ∷ b7 ∷ []) l = refl
no_digits (b0 ∷ b1 ∷ b2 ∷ b3 ∷ b4 ∷ b5 ∷ b6 ∷ b7 ∷ b ∷ bs) l = absurd (omega arith)

-- ---- in front of a place of a text

-- the last of eight octets in front of a place
pub last_in_front : (k n end : ℕ) (text bs : List ℕ) → k ≤ 8 → 8 ≤ end → length bs ≡ 8 → drop (end - 8) text ≡ bs ++ drop end text → drop (8 - k) bs ≡ padded k n → drop (end - k) text ≡ padded k n ++ drop end text
last_in_front k n end text bs few ahead l e is =
    let split : end - k ≡ (end - 8) + (8 - k) = omega arith in
    sym (drop_drop (end - 8) (8 - k) (end - k) text split)
    ∙ ap (λ (x : List ℕ). drop (8 - k) x) e
    ∙ drop-append-le (8 - k) bs (drop end text) (omega (arith, l))
    ∙ ap (λ (x : List ℕ). x ++ drop end text) is

-- eight digits after others
pub more_in_front : (k u n end : ℕ) (text : List ℕ) → 8 ≤ k → k ≤ end → n < 10 ^ 8 → drop (end - 8) text ≡ padded 8 n ++ drop end text
    → drop (end - 8 - (k - 8)) text ≡ padded (k - 8) u ++ drop (end - 8) text → drop (end - k) text ≡ padded k (u * 100000000 + n) ++ drop end text
more_in_front k u n end text some ahead small e f =
    let m : ℕ = u * 100000000 + n in
    let place : end - 8 - (k - 8) ≡ end - k = omega arith in
    let upper : m / 10 ^ 8 ≡ u = div-mul-add u 100000000 n small in
    let lower : m % 10 ^ 8 ≡ n = omega arith in
    let all : padded k m ≡ padded (k - 8) u ++ padded 8 n =
    padded-append (k - 8) 8 k m (omega arith) ∙ ap (λ (i : ℕ). padded (k - 8) i ++ padded 8 m) upper
    ∙ ap (λ (x : List ℕ). padded (k - 8) u ++ x) (sym (padded-mod 8 m) ∙ ap (λ (i : ℕ). padded 8 i) lower) in
    ap (λ (i : ℕ). drop i text) (sym place) ∙ f ∙ ap (λ (x : List ℕ). padded (k - 8) u ++ x) e
    ∙ sym (append_assoc (padded (k - 8) u) (padded 8 n) (drop end text)) ∙ ap (λ (x : List ℕ). x ++ drop end text) (sym all)

pub more_below : (k u n : ℕ) → 8 ≤ k → n < 10 ^ 8 → u < 10 ^ (k - 8) → u * 100000000 + n < 10 ^ k
more_below k u n some small below =
    let whole : (k - 8) + 8 ≡ k = omega arith in
    let e : 10 ^ k ≡ 10 ^ (k - 8) * 10 ^ 8 = ap (λ (i : ℕ). 10 ^ i) (sym whole) ∙ pow-add 10 (k - 8) 8 in
    omega (arith, e, small, below)

-- digits that begin with no zero are the plain text of their number
pub plain_digits : (k n : ℕ) (text rest : List ℕ) → 1 ≤ k → n < 10 ^ k → n < 2 ^ 64 → (1 < k → get_or text 0 0 ≡ 48 → ⊥) → text ≡ padded k n ++ rest → text ≡ plain n ++ rest
unfolding padded
plain_digits zero n text rest some below small led e = absurd (omega arith)
plain_digits (suc k) n text rest some below small led e =
    let value = value-padded (suc k) n ∙ mod_small n (10 ^ suc k) below in
    let no : is_zero_led (padded (suc k) n) ≡ false = not_led k n (λ one h. led one (ap (λ (x : List ℕ). get_or x 0 0) e ∙ h)) in
    e ∙ ap (λ (x : List ℕ). x ++ rest) (plain_text (padded (suc k) n) n (digits-padded (suc k) n) (omega (arith, length-padded (suc k) n)) no small (sym value))
  where
    not_led : (k n : ℕ) → (1 < suc k → 48 + n / 10 ^ k % 10 ≡ 48 → ⊥) → is_zero_led (padded (suc k) n) ≡ false
    not_led zero n h = refl
    not_led (suc k) n h =
        let two : nat_lt 1 (length (padded (suc (suc k)) n)) ≡ true = lt-ltb 1 (length (padded (suc (suc k)) n)) (omega (arith, length-padded (suc (suc k)) n)) in
        let other : (48 + n / 10 ^ suc k % 10 == 48) ≡ false = ne_eqb (48 + n / 10 ^ suc k % 10) 48 (h (omega arith)) in
        rw (two, other) refl

-- the text between two places, of digits that are not led by a zero
pub plain_at : (from end n : ℕ) (text : List ℕ) → from ≤ end → end ≤ length text → (end - from ≡ 0 → ⊥) → end - from ≤ 16 → n < 10 ^ (end - from) → false ≡ (nat_lt 1 (end - from) && (get_or text from 0 == 48))
    → drop (end - (end - from)) text ≡ padded (end - from) n ++ drop end text → drop from text ≡ plain n ++ drop end text
plain_at from end n text order within some few below led e =
    let place : end - (end - from) ≡ from = omega arith in
    let d : drop from text ≡ padded (end - from) n ++ drop end text = ap (λ (i : ℕ). drop i text) (sym place) ∙ e in
    let wide : n < 10 ^ 16 = below_of (end - from) 16 n few below in
    let first : get_or (drop from text) 0 0 ≡ get_or text from 0 = get_or-drop from text 0 0 ∙ ap (λ (i : ℕ). get_or text i 0) (let z : from + 0 ≡ from = omega arith in z) in
    plain_digits (end - from) n (drop from text) (drop end text) (omega (arith, some)) below (omega (arith, wide))
    (λ one h.
    let two : nat_lt 1 (end - from) ≡ true = lt-ltb 1 (end - from) one in
    let zero_first : (get_or text from 0 == 48) ≡ true = eq-eqb (get_or text from 0) 48 (sym first ∙ h) in
    let no : false ≡ true = rw (two, zero_first) at led in
    cc)
    d
