-- Text that comes in pieces: how far it is UTF-8.
use Rattle.std.proofs.Common.{◌≡◌, ℕ, zero, suc, ◌+◌, ◌-◌, ◌<◌, ◌≤◌, ◌⊎◌, inl, inr, Bool, true, false, List, [], ◌∷◌, ◌++◌, length, take, drop, refl, sym, ap, subst, ◌∙◌, arith, length-append}
use Rattle.std.specs.Prelude.{if◌then◌else◌, nat_le, ◌&&◌}
use Rattle.std.specs.Str.{IsUtf8, is_utf8, IsCharBoundary, encode_utf8_all}
use Rattle.std.specs.Str.Lossy.{utf8_valid_len, valid_len_up_to}
use Rattle.std.specs.Char.{len_utf8, encode_utf8}
use Rattle.std.proofs.Math.Utf8.{scalar, scalars}
use Rattle.std.proofs.lemmas.Bool.{leb-true, leb-false}
use Rattle.std.proofs.lemmas.List.{append-nil, take-append-le, drop-append-le, take_all, drop_all, drop-take, length-take-le}
use Rattle.std.proofs.lemmas.Str.{IsUtf8-nil, IsUtf8-between, IsUtf8-from_is_utf8, is_utf8-from_IsUtf8, IsCharBoundary-from_take, length-encode, len_utf8_bounds, utf8_valid_len-IsValidUpTo}

not_last : (bs : List ℕ) (n k : ℕ) → k ≤ suc n → is_utf8 (take k bs) ≡ true → is_utf8 (take (suc n) bs) ≡ false → k ≤ n
not_last bs n k le u e =
    (elim (nat_le k n) as (λ b. nat_le k n ≡ b → k ≤ n) [
      | true ↦ λ t. leb-true k n t
      | false ↦ λ f. absurd (let lt = leb-false k n f in let same : k ≡ suc n = omega (arith, lt, le) in let z : true ≡ false = sym u ∙ ap (λ (m : ℕ). is_utf8 (take m bs)) same ∙ e in cc)
    ]) refl

-- no front that is UTF-8 is longer than the longest
pub at_most_valid : (bs : List ℕ) (n k : ℕ) → k ≤ n → is_utf8 (take k bs) ≡ true → k ≤ valid_len_up_to bs n
at_most_valid bs zero k le u = le
at_most_valid bs (suc n) k le u =
    (elim (is_utf8 (take (suc n) bs)) as (λ b. is_utf8 (take (suc n) bs) ≡ b → k ≤ (if b then suc n else valid_len_up_to bs n)) [
      | true ↦ λ e. le
      | false ↦ λ e. at_most_valid bs n k (not_last bs n k le u e) u
    ]) refl

-- and the longest is
pub valid_front : (bs : List ℕ) (n : ℕ) → is_utf8 (take (valid_len_up_to bs n) bs) ≡ true
valid_front bs zero = is_utf8-from_IsUtf8 [] IsUtf8-nil
valid_front bs (suc n) =
    (elim (is_utf8 (take (suc n) bs)) as (λ b. is_utf8 (take (suc n) bs) ≡ b → is_utf8 (take (if b then suc n else valid_len_up_to bs n) bs) ≡ true) [
      | true ↦ λ e. e
      | false ↦ λ e. valid_front bs n
    ]) refl

pub longest_is : (bs : List ℕ) → utf8_valid_len bs ≡ valid_len_up_to bs (length bs)
unfolding utf8_valid_len
longest_is bs = refl

-- the octets that are as far as some are UTF-8 are text
pub valid_is_text : (bs : List ℕ) → IsUtf8 (take (utf8_valid_len bs) bs)
valid_is_text bs = subst (λ (n : ℕ). IsUtf8 (take n bs)) (sym (longest_is bs)) (IsUtf8-from_is_utf8 (take (valid_len_up_to bs (length bs)) bs) (valid_front bs (length bs)))

-- the first character of some text
pub record FirstChar (bs : List ℕ) : Type 0 where
  pub octets : ℕ
  pub some : 1 ≤ octets
  pub few : octets ≤ 4
  pub within : octets ≤ length bs
  pub text : IsUtf8 (take octets bs)

both_left : (a b : Bool) → (a && b) ≡ true → a ≡ true
both_left true b e = refl
both_left false b e = absurd (let z : false ≡ true = e in cc)

alone : (a : Bool) → a ≡ true → (a && true) ≡ true
alone true e = refl
alone false e = e

pub first_char : (bs : List ℕ) → IsUtf8 bs → 1 ≤ length bs → FirstChar bs
first_char bs ([], (s, e)) le = absurd (let z = ap (λ (x : List ℕ). length x) e in omega (arith, z, le))
first_char bs (c ∷ cs, (s, e)) le =
    let w : List ℕ = encode_utf8 c in
    let rest : List ℕ = encode_utf8_all cs in
    let long : length w ≡ len_utf8 c = length-encode c in
    let bounds = len_utf8_bounds c in
    let whole : bs ≡ w ++ rest = sym e in
    let total : length bs ≡ length w + length rest = ap (λ (x : List ℕ). length x) whole ∙ length-append w rest in
    let front : take (len_utf8 c) bs ≡ w = ap (λ (x : List ℕ). take (len_utf8 c) x) whole ∙ take-append-le (len_utf8 c) w rest (omega (arith, long)) ∙ take_all (len_utf8 c) w (omega (arith, long)) in
    let one : IsUtf8 w = (c ∷ [], (alone (scalar c) (both_left (scalar c) (scalars cs) s), append-nil w)) in
    record { octets = len_utf8 c; some = bounds.0; few = bounds.1; within = omega (arith, total, long); text = subst IsUtf8 (sym front) one }

pub take_take : (n m : ℕ) (xs : List ℕ) → n ≤ m → take n (take m xs) ≡ take n xs
take_take zero m xs le = refl
take_take (suc n) zero xs le = absurd (omega (arith, le))
take_take (suc n) (suc m) [] le = refl
take_take (suc n) (suc m) (x ∷ xs) le = ap (λ (l : List ℕ). x ∷ l) (take_take n m xs (omega (arith, le)))

drop_take : (n m : ℕ) (xs : List ℕ) → n ≤ m → drop n (take m xs) ≡ take (m - n) (drop n xs)
drop_take n m xs le = ap (λ (k : ℕ). drop n (take k xs)) (let z : m ≡ n + (m - n) = omega (arith, le) in z) ∙ drop-take n (m - n) xs

-- where no character begins in the first octets of the rest, the text before it is as far as it is UTF-8
module _ (so_far near others : List ℕ) (valid : IsUtf8 so_far) (begins : take (length near) others ≡ near) (some : 1 ≤ length others) (within : length near ≤ length others) (none : utf8_valid_len near ≡ 0) (seen : (near ≡ others) ⊎ (4 ≤ length near)) where
  total : length (so_far ++ others) ≡ length so_far + length others
  total = length-append so_far others

  enough : (k : ℕ) → k ≤ 4 → k ≤ length others → k ≤ length near
  enough k few le = elim seen [ inl e ↦ (let a = ap (λ (x : List ℕ). length x) e in omega (arith, a, le)) | inr four ↦ omega (arith, four, few) ]

  no_char : (k : ℕ) → 1 ≤ k → k ≤ length others → IsUtf8 (take k others) → ⊥
  no_char k one le u =
      let long : length (take k others) ≡ k = length-take-le k others le in
      let c = first_char (take k others) u (omega (arith, long)) in
      let j : ℕ = c.octets in
      let near_long : j ≤ length near = enough j c.few (omega (arith, c.within, long)) in
      let same : take j near ≡ take j (take k others) = ap (λ (x : List ℕ). take j x) (sym begins) ∙ take_take j (length near) others near_long ∙ sym (take_take j k others (omega (arith, c.within, long))) in
      let a = at_most_valid near (length near) j near_long (is_utf8-from_IsUtf8 (take j near) (subst IsUtf8 (sym same) c.text)) in
      omega (arith, a, none, c.some, longest_is near)

  shorter : (m : ℕ) → length so_far < m → m ≤ length (so_far ++ others) → IsUtf8 (take m (so_far ++ others)) → ⊥
  shorter m lt le u =
      let bs : List ℕ = take m (so_far ++ others) in
      let long : length bs ≡ m = length-take-le m (so_far ++ others) le in
      let n : ℕ = length so_far in
      let front : take n bs ≡ so_far = take_take n m (so_far ++ others) (omega (arith, lt)) ∙ take-append-le n so_far others (omega arith) ∙ take_all n so_far (omega arith) in
      let at_n : IsCharBoundary bs n = IsCharBoundary-from_take bs n u (omega (arith, long, lt)) (subst IsUtf8 (sym front) valid) in
      let at_end : IsCharBoundary bs m = IsCharBoundary-from_take bs m u (omega (arith, long)) (subst IsUtf8 (sym (take_all m bs (omega (arith, long)))) u) in
      let mid = IsUtf8-between bs n m u (omega (arith, lt)) at_n at_end in
      let back : take (m - n) (drop n bs) ≡ take (m - n) others = ap (λ (x : List ℕ). take (m - n) x) (drop_take n m (so_far ++ others) (omega (arith, lt)) ∙ ap (λ (x : List ℕ). take (m - n) x) (drop-append-le n so_far others (omega arith) ∙ ap (λ (x : List ℕ). x ++ others) (drop_all n so_far (omega arith)))) ∙ take_take (m - n) (m - n) others (omega arith) in
      no_char (m - n) (omega (arith, lt)) (omega (arith, le, total)) (subst IsUtf8 back mid)

  longest : (m : ℕ) → length so_far < m → IsUtf8 (take m (so_far ++ others)) → ⊥
  longest m lt u =
      elim (nat_le m (length (so_far ++ others))) as (λ b. nat_le m (length (so_far ++ others)) ≡ b → ⊥) [
        | true ↦ λ t. shorter m lt (leb-true m (length (so_far ++ others)) t) u
        | false ↦ λ f. (let past = leb-false m (length (so_far ++ others)) f in shorter (length (so_far ++ others)) (omega (arith, total, some)) (omega arith) (subst IsUtf8 (take_all m (so_far ++ others) (omega (arith, past)) ∙ sym (take_all (length (so_far ++ others)) (so_far ++ others) (omega arith))) u))
      ] refl

  pub valid_is : utf8_valid_len (so_far ++ others) ≡ length so_far
  valid_is = utf8_valid_len-IsValidUpTo (so_far ++ others) (length so_far) (record {
    short = omega (arith, total, some);
    front = subst IsUtf8 (sym (take-append-le (length so_far) so_far others (omega arith) ∙ take_all (length so_far) so_far (omega arith))) valid;
    longest = longest;
  })

  pub not_text : is_utf8 (so_far ++ others) ≡ false
  not_text =
      (elim (is_utf8 (so_far ++ others)) as (λ b. is_utf8 (so_far ++ others) ≡ b → b ≡ false) [
        | true ↦ λ t. absurd (longest (length (so_far ++ others)) (omega (arith, total, some)) (subst IsUtf8 (sym (take_all (length (so_far ++ others)) (so_far ++ others) (omega arith))) (IsUtf8-from_is_utf8 (so_far ++ others) t)))
        | false ↦ λ f. refl
      ]) refl
