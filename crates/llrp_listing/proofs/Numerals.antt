-- Decimal words that are read from their front on.
use Rattle.std.proofs.Common.{◌≡◌, ℕ, zero, suc, ◌+◌, ◌-◌, ◌*◌, ◌/◌, ◌%◌, ◌^◌, ◌<◌, ◌≤◌, Bool, true, false, List, [], ◌∷◌, ◌++◌, length, get_or, take, drop, refl, sym, ap, ◌∙◌, subst, arith, append_assoc, length-append, Some, None}
use Rattle.std.specs.Prelude.{◌&&◌, if◌then◌else◌}
use Rattle.std.specs.Char.{is_ascii_digit, digit_value}
use Rattle.std.specs.Str.{all_ascii_digits}
use Rattle.std.specs.Str.Parse.{digits_value}
use Rattle.std.proofs.Math.Nat.{add-mul, pow-le-pow_right, pow-suc}
use Rattle.std.proofs.Math.Seq.{take-append-add, drop-append-add, take-append_seam, drop-append_seam, drop-cons}
use Rattle.std.proofs.lemmas.Int.Digits.{digits_value_push}
use Rattle.std.proofs.lemmas.List.{append-nil, take-append-drop, length-take-le, length-drop, drop_all}
use Rattle.std.proofs.lemmas.Nat.{mul-add-lt, pow-add}
use Rattle.std.proofs.lemmas.Str.{digit_value_digit}
use Rattle.std.proofs.lemmas.Str.Parse.{tells_all_ascii_digits}
use Rattle.tag_uri.specs.Decimal.{padded}
use Rattle.tag_uri.proofs.DecimalLemmas.{last_part, length-padded, mod_small}
use Rattle.llrp_listing.specs.Private.Numeral.{ReadsFront}
use Rattle.llrp_tree.proofs.ChildLemmas.{and_not as and_false}

-- ---- lists of digits

pub digit_small : (c : ℕ) → is_ascii_digit c ≡ true → c - 48 < 10
digit_small c e = grind arith

all_more : (xs ys : List ℕ) → all_ascii_digits xs ≡ true → all_ascii_digits ys ≡ true → all_ascii_digits (xs ++ ys) ≡ true
all_more [] ys a b = b
all_more (c ∷ xs) ys a b = let p = tells_all_ascii_digits.parts c xs a in tells_all_ascii_digits.more c (xs ++ ys) p.0 (all_more xs ys p.1 b)

all_padded : (k n : ℕ) → all_ascii_digits (padded k n) ≡ true
unfolding padded
all_padded zero n = refl
all_padded (suc k) n = tells_all_ascii_digits.more (48 + n / 10 ^ k % 10) (padded k n) (omega arith, omega arith) (all_padded k n)

digit_is : (d : ℕ) → d < 10 → digit_value (48 + d) ≡ d
digit_is d lt = let e = digit_value_digit (48 + d) (omega arith, omega arith) in omega (arith, e)

-- the number of digits that k more follow
value_padded : (k n : ℕ) (xs : List ℕ) → digits_value 10 (xs ++ padded k n) ≡ digits_value 10 xs * 10 ^ k + n % 10 ^ k
unfolding padded
value_padded zero n xs = ap (λ (z : List ℕ). digits_value 10 z) (append-nil xs) ∙ omega arith
value_padded (suc k) n xs =
    let d = n / 10 ^ k % 10 in
    let first : digits_value 10 (xs ++ ((48 + d) ∷ [])) ≡ digits_value 10 xs * 10 + d = digits_value_push 10 xs (48 + d) ∙ ap (λ (z : ℕ). digits_value 10 xs * 10 + z) (digit_is d (omega arith)) in
    ap (λ (z : List ℕ). digits_value 10 z) (sym (append_assoc xs ((48 + d) ∷ []) (padded k n)))
    ∙ value_padded k n (xs ++ ((48 + d) ∷ []))
    ∙ ap (λ (v : ℕ). v * 10 ^ k + n % 10 ^ k) first
    ∙ shifted (digits_value 10 xs) d (10 ^ k) (10 ^ suc k) (n % 10 ^ k) (n % 10 ^ suc k) (pow-suc 10 k) (last_part k n)
  where
    shifted : (v d p q m s : ℕ) → q ≡ p * 10 → s ≡ d * p + m → (v * 10 + d) * p + m ≡ v * q + s
    shifted v d p q m s e f = rw (e, f) (omega (arith, add-mul (v * 10) d p))

-- ---- what was read so far

-- nothing yet
pub front_none : (digits : List ℕ) → ReadsFront digits digits 0
front_none digits = record { count = 0; within = omega arith; rest_is = refl; all = refl; value = refl; below = omega arith }

-- this many digits more
pub front_more : (k : ℕ) (digits rest after : List ℕ) (n m : ℕ) → ReadsFront digits rest n → rest ≡ padded k m ++ after → m < 10 ^ k → ReadsFront digits after (n * 10 ^ k + m)
front_more k digits rest after n m r e small =
    let t = take r.count digits in
    let p = padded k m in
    let parts : digits ≡ t ++ (p ++ after) = sym (take-append-drop r.count digits) ∙ ap (λ (z : List ℕ). t ++ z) (sym r.rest_is ∙ e) in
    let there : r.count + k ≡ length t + length p = omega (arith, length-take-le r.count digits r.within, length-padded k m) in
    let front : take (r.count + k) digits ≡ t ++ p = ap (λ (i : ℕ). take i digits) there ∙ ap (λ (z : List ℕ). take (length t + length p) z) parts ∙ take-append-add t (p ++ after) (length p) ∙ ap (λ (z : List ℕ). t ++ z) (take-append_seam p after) in
    let back : drop (r.count + k) digits ≡ after = ap (λ (i : ℕ). drop i digits) there ∙ ap (λ (z : List ℕ). drop (length t + length p) z) parts ∙ drop-append-add t (p ++ after) (length p) ∙ drop-append_seam p after in
    let whole : 10 ^ (r.count + k) ≡ 10 ^ k * 10 ^ r.count = ap (λ (i : ℕ). 10 ^ i) (omega arith) ∙ pow-add 10 k r.count in
    record {
      count = r.count + k;
      within = omega (arith, ap (λ (z : List ℕ). length z) parts, length-append t (p ++ after), length-append p after, there);
      rest_is = sym back;
      all = ap (λ (z : List ℕ). all_ascii_digits z) front ∙ all_more t p r.all (all_padded k m);
      value =
          ap (λ (v : ℕ). v * 10 ^ k + m) r.value
          ∙ sym (ap (λ (z : List ℕ). digits_value 10 z) front ∙ value_padded k m t ∙ ap (λ (v : ℕ). digits_value 10 t * 10 ^ k + v) (mod_small m (10 ^ k) small));
      below = subst (λ (z : ℕ). n * 10 ^ k + m < z) (sym whole) (mul-add-lt n (10 ^ k) m (10 ^ r.count) r.below small);
    }

ahead : (rest : List ℕ) (i : ℕ) → i < length rest → drop i rest ≡ get_or rest i 0 ∷ drop (i + 1) rest
ahead rest i lt = let next : suc i ≡ i + 1 = omega arith in subst (λ (k : ℕ). drop i rest ≡ get_or rest i 0 ∷ drop k rest) next (drop-cons rest i 0 lt)

-- one digit more
pub front_one : (digits rest : List ℕ) (i n : ℕ) → ReadsFront digits (drop i rest) n → i < length rest → is_ascii_digit (get_or rest i 0) ≡ true → ReadsFront digits (drop (i + 1) rest) (n * 10 + (get_or rest i 0 - 48))
unfolding padded
front_one digits rest i n r lt good =
    let c = get_or rest i 0 in
    let small : c - 48 < 10 = digit_small c good in
    let is : c ≡ 48 + (c - 48) / 1 % 10 = grind arith in
    front_more 1 digits (drop i rest) (drop (i + 1) rest) n (c - 48) r (ahead rest i lt ∙ ap (λ (z : ℕ). z ∷ drop (i + 1) rest) is) small

-- all of them
pub front_all : (digits rest : List ℕ) (i n : ℕ) → ReadsFront digits (drop i rest) n → length rest ≤ i → Some n ≡ (if all_ascii_digits digits then Some (digits_value 10 digits) else None)
front_all digits rest i n r le =
    let none : drop r.count digits ≡ [] = sym r.rest_is ∙ drop_all i rest le in
    let same : take r.count digits ≡ digits = sym (append-nil (take r.count digits)) ∙ ap (λ (z : List ℕ). take r.count digits ++ z) (sym none) ∙ take-append-drop r.count digits in
    let all : all_ascii_digits digits ≡ true = ap (λ (z : List ℕ). all_ascii_digits z) (sym same) ∙ r.all in
    rw all (ap Some (r.value ∙ ap (λ (z : List ℕ). digits_value 10 z) same))

not_all : (t after : List ℕ) (c : ℕ) → is_ascii_digit c ≡ false → all_ascii_digits (t ++ (c ∷ after)) ≡ false
not_all [] after c bad = rw bad refl
not_all (b ∷ t) after c bad = ap (λ (z : Bool). is_ascii_digit b && z) (not_all t after c bad) ∙ and_false (is_ascii_digit b)

pub front_fails : (digits rest : List ℕ) (i n : ℕ) → ReadsFront digits (drop i rest) n → i < length rest → is_ascii_digit (get_or rest i 0) ≡ false → None ≡ (if all_ascii_digits digits then Some (digits_value 10 digits) else None)
front_fails digits rest i n r lt bad =
    let parts : digits ≡ take r.count digits ++ (get_or rest i 0 ∷ drop (i + 1) rest) = sym (take-append-drop r.count digits) ∙ ap (λ (z : List ℕ). take r.count digits ++ z) (sym r.rest_is ∙ ahead rest i lt) in
    let none : all_ascii_digits digits ≡ false = ap (λ (z : List ℕ). all_ascii_digits z) parts ∙ not_all (take r.count digits) (drop (i + 1) rest) (get_or rest i 0) bad in
    rw none refl

-- where digits are left, the number so far is small
pub front_small : (most left : ℕ) (digits rest : List ℕ) (n : ℕ) → ReadsFront digits rest n → left ≤ length rest → length digits ≤ most + left → n < 10 ^ most
front_small most left digits rest n r some short =
    let long : length rest ≡ length digits - r.count = ap (λ (z : List ℕ). length z) r.rest_is ∙ length-drop r.count digits in
    let few : r.count ≤ most = omega (arith, long, r.within) in
    let bound : 10 ^ r.count ≤ 10 ^ most = pow-le-pow_right (omega arith) few in
    omega (arith, r.below, bound)

pub length_ahead : (k : ℕ) (rest after : List ℕ) (m : ℕ) → rest ≡ padded k m ++ after → length rest ≡ k + length after
length_ahead k rest after m e = ap (λ (z : List ℕ). length z) e ∙ length-append (padded k m) after ∙ ap (λ (l : ℕ). l + length after) (length-padded k m)
