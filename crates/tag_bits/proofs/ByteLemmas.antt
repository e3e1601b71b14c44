-- Digits of bytes: what comes before, within and after one of them.
use Rattle.std.proofs.Common.{◌≡◌, ℕ, ◌+◌, ◌*◌, ◌<◌, ◌≤◌, Bool, List, [], ◌∷◌, ◌++◌, length, take, drop, refl, sym, ap, ◌∙◌, arith, length-append, get_or}
use Rattle.std.proofs.Math.Seq.{take-add}
use Rattle.std.proofs.lemmas.Grind.{flat_map-append}
use Rattle.std.proofs.lemmas.List.{length-take, take-append-drop, take-append-le, drop-append-le, drop-drop, drop_more}
use Rattle.tag_bits.specs.Digits.{digits, digits_of_bytes}
use Rattle.tag_bits.proofs.DigitLemmas.{length-digits, take-seam, drop-seam}

-- eight digits a byte
pub length-bytes : (bs : List ℕ) → length (digits_of_bytes bs) ≡ 8 * length bs
unfolding digits_of_bytes
length-bytes [] = refl
length-bytes (b ∷ bs) = omega (arith, length-append (digits 8 b) (digits_of_bytes bs), length-digits 8 b, length-bytes bs)

pub bytes-nil : digits_of_bytes [] ≡ []
unfolding digits_of_bytes
bytes-nil = refl

pub bytes-cons : (b : ℕ) (bs : List ℕ) → digits_of_bytes (b ∷ bs) ≡ digits 8 b ++ digits_of_bytes bs
unfolding digits_of_bytes
bytes-cons b bs = refl

pub bytes-append : (xs ys : List ℕ) → digits_of_bytes (xs ++ ys) ≡ digits_of_bytes xs ++ digits_of_bytes ys
unfolding digits_of_bytes
bytes-append xs ys = flat_map-append (λ (b : ℕ). digits 8 b) xs ys

-- the digits before byte i, and those from it on
halves : (i : ℕ) (bs : List ℕ) → digits_of_bytes bs ≡ digits_of_bytes (take i bs) ++ digits_of_bytes (drop i bs)
halves i bs = ap digits_of_bytes (sym (take-append-drop i bs)) ∙ bytes-append (take i bs) (drop i bs)

length-before : (i : ℕ) (bs : List ℕ) → i ≤ length bs → length (digits_of_bytes (take i bs)) ≡ 8 * i
length-before i bs h = omega (arith, length-bytes (take i bs), length-take i bs)

pub take-bytes : (i : ℕ) (bs : List ℕ) → i ≤ length bs → take (8 * i) (digits_of_bytes bs) ≡ digits_of_bytes (take i bs)
take-bytes i bs h =
    ap (λ (x : List Bool). take (8 * i) x) (halves i bs) ∙ take-seam (8 * i) (digits_of_bytes (take i bs)) (digits_of_bytes (drop i bs)) (length-before i bs h)

pub drop-bytes : (i : ℕ) (bs : List ℕ) → i ≤ length bs → drop (8 * i) (digits_of_bytes bs) ≡ digits_of_bytes (drop i bs)
drop-bytes i bs h =
    ap (λ (x : List Bool). drop (8 * i) x) (halves i bs) ∙ drop-seam (8 * i) (digits_of_bytes (take i bs)) (digits_of_bytes (drop i bs)) (length-before i bs h)

-- the digits from byte i on begin with its own
from_byte : (i : ℕ) (bs : List ℕ) → i < length bs → drop (8 * i) (digits_of_bytes bs) ≡ digits 8 (get_or bs i 0) ++ digits_of_bytes (drop (i + 1) bs)
from_byte i bs h =
    drop-bytes i bs (omega arith) ∙ ap digits_of_bytes (drop_more bs i 0 h) ∙ bytes-cons (get_or bs i 0) (drop (i + 1) bs)

-- up to digit k of byte i
pub take_within : (i k : ℕ) (bs : List ℕ) → i < length bs → k ≤ 8
    → take (8 * i + k) (digits_of_bytes bs) ≡ digits_of_bytes (take i bs) ++ take k (digits 8 (get_or bs i 0))
take_within i k bs h few =
    let own = digits 8 (get_or bs i 0) in
    let room : k ≤ length own = omega (arith, length-digits 8 (get_or bs i 0)) in
    take-add (8 * i) k (digits_of_bytes bs)
    ∙ ap (λ (x : List Bool). x ++ take k (drop (8 * i) (digits_of_bytes bs))) (take-bytes i bs (omega arith))
    ∙ ap (λ (x : List Bool). digits_of_bytes (take i bs) ++ take k x) (from_byte i bs h)
    ∙ ap (λ (x : List Bool). digits_of_bytes (take i bs) ++ x) (take-append-le k own (digits_of_bytes (drop (i + 1) bs)) room)

-- from digit k of byte i on
pub drop_within : (i k : ℕ) (bs : List ℕ) → i < length bs → k ≤ 8
    → drop (8 * i + k) (digits_of_bytes bs) ≡ drop k (digits 8 (get_or bs i 0)) ++ digits_of_bytes (drop (i + 1) bs)
drop_within i k bs h few =
    let own = digits 8 (get_or bs i 0) in
    let room : k ≤ length own = omega (arith, length-digits 8 (get_or bs i 0)) in
    sym (drop-drop k (8 * i) (digits_of_bytes bs))
    ∙ ap (λ (x : List Bool). drop k x) (from_byte i bs h)
    ∙ drop-append-le k own (digits_of_bytes (drop (i + 1) bs)) room
