-- The first octets of a text, up to a byte, and those that are a row's.
use Rattle.std.proofs.Common.{◌≡◌, ℕ, zero, suc, ◌+◌, ◌<◌, ◌≤◌, Bool, true, false, cond, eqb, not, List, [], ◌∷◌, ◌++◌, length, map, take, drop, get_or, refl, sym, ap, ◌∙◌, append_assoc, subst, arith}
use Rattle.std.specs.Prelude.{◌==◌}
use Rattle.std.specs.List.{prefix_len}
use lib.Count.{count_trailing_zeros}
use Rattle.std.specs.Simd.Lanes.{mask_l, zip2}
use Rattle.std.proofs.lemmas.Simd.{leading_from_mask_l, length-zip2, trailing_mask_l}
use Rattle.std.proofs.lemmas.Bool.{eqb-true}
use Rattle.std.proofs.lemmas.List.{drop-drop, drop_more, length-take, take-append-drop, take_all}
use Rattle.std.proofs.Math.Seq.{take-add}
use Rattle.std.proofs.lemmas.List.Sums.{prefix_len-le-length, prefix_len_stops}
use Rattle.llrp_listing.specs.Calls.Splits.{IsSplit, Lacks}
use Rattle.tag_uri.proofs.ComponentLemmas.{not_false as no_not}
use Rattle.llrp_stream.proofs.TextLemmas.{take_take as take_taken}

-- no such byte comes before the first one
before_lacks : (byte : ℕ) (xs : List ℕ) → Lacks byte (take (prefix_len (λ x. not (x == byte)) xs) xs)
before_lacks byte [] = tt
before_lacks byte (x ∷ xs) = on (x == byte) refl (before_lacks byte xs)
  where
    on : (b : Bool) → (x == byte) ≡ b → Lacks byte (take (prefix_len (λ y. not (y == byte)) xs) xs) → Lacks byte (take (cond (not b) (1 + prefix_len (λ y. not (y == byte)) xs) 0) (x ∷ xs))
    on true e rest = tt
    on false e rest =
        let more : suc (prefix_len (λ y. not (y == byte)) xs) ≡ 1 + prefix_len (λ y. not (y == byte)) xs = omega arith in
        subst (λ (n : ℕ). Lacks byte (take n (x ∷ xs))) more (e, rest)

get_taken : (i m : ℕ) (xs : List ℕ) → i < m → get_or (take m xs) i 0 ≡ get_or xs i 0
get_taken i zero xs lt = absurd (omega (arith, lt))
get_taken i (suc m) [] lt = refl
get_taken zero (suc m) (x ∷ xs) lt = refl
get_taken (suc i) (suc m) (x ∷ xs) lt = get_taken i m xs (omega (arith, lt))

-- the bytes round the first such byte
pub split_there : (byte n : ℕ) (bytes : List ℕ) → 32 ≤ length bytes → n ≡ prefix_len (λ x. not (x == byte)) (take 32 bytes) → n < 32 → IsSplit byte bytes (take n bytes) (drop (n + 1) bytes)
split_there byte n bytes long e lt =
    let xs = take 32 bytes in
    let some : prefix_len (λ x. not (x == byte)) xs < length xs = omega (arith, length-take 32 bytes, long, e, lt) in
    let stop : get_or xs n 0 ≡ byte = ap (λ (i : ℕ). get_or xs i 0) e ∙ eqb-true _ byte (no_not _ (prefix_len_stops (λ x. not (x == byte)) xs 0 some)) in
    let here : get_or bytes n 0 ≡ byte = sym (get_taken n 32 bytes lt) ∙ stop in
    let front : take (prefix_len (λ x. not (x == byte)) xs) xs ≡ take n bytes = ap (λ (i : ℕ). take i xs) (sym e) ∙ take_taken n 32 bytes (omega (arith, lt)) in (
      subst (Lacks byte) front (before_lacks byte xs),
      sym (take-append-drop n bytes) ∙ ap (λ (z : List ℕ). take n bytes ++ z) (drop_more bytes n 0 (omega (arith, long, lt)) ∙ ap (λ (z : ℕ). z ∷ drop (n + 1) bytes) here),
    )

abbrev pub differ : ℕ → ℕ → Bool
differ a b = not (eqb a b)

-- the same of what two splits give
pub split_parts : (byte n : ℕ) (bytes before rest after : List ℕ) → 32 ≤ length bytes → n ≡ prefix_len (λ x. not (x == byte)) (take 32 bytes) → n < 32 → before ≡ take n bytes → rest ≡ drop n bytes → after ≡ drop 1 rest → IsSplit byte bytes before after
split_parts byte n bytes before rest after long e lt b r a =
    let s = split_there byte n bytes long e lt in
    let end : drop (n + 1) bytes ≡ after = sym (a ∙ ap (λ (z : List ℕ). drop 1 z) r ∙ drop-drop 1 n bytes) in
    subst (λ (z : List ℕ). IsSplit byte bytes before z) end (subst (λ (z : List ℕ). IsSplit byte bytes z (drop (n + 1) bytes)) (sym b) s)

-- there is no such byte where all octets come before the first one
all_lack : (byte : ℕ) (xs : List ℕ) → length xs ≤ prefix_len (λ x. not (x == byte)) xs → Lacks byte xs
all_lack byte xs le =
    let whole : take (prefix_len (λ x. not (x == byte)) xs) xs ≡ xs = take_all (prefix_len (λ x. not (x == byte)) xs) xs le in
    subst (Lacks byte) whole (before_lacks byte xs)

lacks_append : (byte : ℕ) (xs ys : List ℕ) → Lacks byte xs → Lacks byte ys → Lacks byte (xs ++ ys)
lacks_append byte [] ys l m = m
lacks_append byte (x ∷ xs) ys l m = (l.0, lacks_append byte xs ys l.1 m)

-- the bytes round the first such byte, which comes later
pub later_parts : (byte n : ℕ) (bytes others before rest after : List ℕ) → 32 ≤ length bytes → 32 ≤ prefix_len (λ x. not (x == byte)) (take 32 bytes) → others ≡ drop 32 bytes → 32 ≤ length others → n ≡ prefix_len (λ x. not (x == byte)) (take 32 others) → n < 32
    → before ≡ take (32 + n) bytes → rest ≡ drop (32 + n) bytes → after ≡ drop 1 rest → IsSplit byte bytes before after
later_parts byte n bytes others before rest after long none o far e lt b r a =
    let s = split_there byte n others far e lt in
    let front = take 32 bytes in
    let own : Lacks byte front = all_lack byte front (omega (arith, length-take 32 bytes, none)) in
    let first : before ≡ front ++ take n others = b ∙ take-add 32 n bytes ∙ ap (λ (z : List ℕ). front ++ take n z) (sym o) in
    let sums : 32 + n + 1 ≡ 32 + (n + 1) = omega arith in
    let end : after ≡ drop (n + 1) others = a ∙ ap (λ (z : List ℕ). drop 1 z) r ∙ drop-drop 1 (32 + n) bytes ∙ ap (λ (i : ℕ). drop i bytes) sums ∙ sym (ap (λ (z : List ℕ). drop (n + 1) z) o ∙ drop-drop (n + 1) 32 bytes) in (
      subst (Lacks byte) (sym first) (lacks_append byte front (take n others) own s.0),
      sym (take-append-drop 32 bytes) ∙ ap (λ (z : List ℕ). front ++ z) (sym o ∙ s.1) ∙ sym (append_assoc front (take n others) (byte ∷ drop (n + 1) others))
          ∙ ap (λ (z : List ℕ). z ++ (byte ∷ drop (n + 1) others)) (sym first) ∙ ap (λ (z : List ℕ). before ++ (byte ∷ z)) (sym end),
    )

-- octets that do not differ are alike
pub alike : (xs ys : List ℕ) (k : ℕ) → length xs ≡ length ys → k ≤ prefix_len (λ b. not b) (zip2 differ xs ys) → take k xs ≡ take k ys
alike [] [] k e le = refl
alike [] (y ∷ ys) k e le = absurd (omega (arith, e))
alike (x ∷ xs) [] k e le = absurd (omega (arith, e))
alike (x ∷ xs) (y ∷ ys) zero e le = refl
alike (x ∷ xs) (y ∷ ys) (suc k) e le = on (eqb x y) refl le (λ l. alike xs ys k (omega (arith, e)) l)
  where
    on : (b : Bool) → eqb x y ≡ b → suc k ≤ cond (not (not b)) (1 + prefix_len (λ b. not b) (zip2 differ xs ys)) 0 → (k ≤ prefix_len (λ b. not b) (zip2 differ xs ys) → take k xs ≡ take k ys) → take (suc k) (x ∷ xs) ≡ take (suc k) (y ∷ ys)
    on true s l rest = ap (λ (z : ℕ). z ∷ take k xs) (eqb-true x y s) ∙ ap (λ (z : List ℕ). y ∷ z) (rest (omega (arith, l)))
    on false s l rest = absurd (omega (arith, l))

map_same : (bs : List Bool) → map (λ b. b) bs ≡ bs
map_same [] = refl
map_same (b ∷ bs) = ap (λ (z : List Bool). b ∷ z) (map_same bs)

-- the same by a mask of those that differ, of a text and a row of 32
module _ (text row : List ℕ) (long : 32 ≤ length text) (whole : 32 ≤ length row) where
  abbrev marked : List Bool
  marked = zip2 differ (take 32 text) (take 32 row)

  same_long : length (take 32 text) ≡ length (take 32 row)
  same_long = omega (arith, length-take 32 text, length-take 32 row, long, whole)

  count : length marked ≡ 32
  count = length-zip2 differ (take 32 text) (take 32 row) same_long ∙ omega (arith, length-take 32 text, long)

  up_to : (k : ℕ) → k ≤ prefix_len (λ b. not b) marked → take k text ≡ take k row
  up_to k le =
      let few : k ≤ 32 = omega (arith, le, prefix_len-le-length (λ b. not b) marked, count) in
      sym (take_taken k 32 text few) ∙ alike (take 32 text) (take 32 row) k same_long le ∙ take_taken k 32 row few

  pub none_differ : mask_l marked ≡ 0 → (k : ℕ) → k ≤ 32 → take k text ≡ take k row
  none_differ e k le =
      let all : prefix_len (λ b. not b) marked ≡ length marked = leading_from_mask_l (λ b. b) marked (ap mask_l (map_same marked) ∙ e) in
      up_to k (omega (arith, le, all, count))

  pub first_differs : (mask_l marked ≡ 0 → ⊥) → (k : ℕ) → k ≤ count_trailing_zeros 64 (mask_l marked) → take k text ≡ take k row
  first_differs some k le =
      let same : mask_l (map (λ b. b) marked) ≡ mask_l marked = ap mask_l (map_same marked) in
      let first : count_trailing_zeros 64 (mask_l (map (λ b. b) marked)) ≡ prefix_len (λ b. not b) marked = trailing_mask_l (λ b. b) 64 marked (omega (arith, count)) (omega (arith, some, same)) in
      up_to k (omega (arith, le, ap (count_trailing_zeros 64) same, first))

-- the octets of a line are those of the text that it begins
pub same_name : (n octets : ℕ) (text line : List ℕ) → take n text ≡ line → 2 + octets ≤ n → take octets (drop 2 text) ≡ take octets (drop 2 line)
same_name n octets text line e le = sym (seen n octets text le) ∙ ap (λ (z : List ℕ). take octets (drop 2 z)) e
  where
    seen : (n octets : ℕ) (text : List ℕ) → 2 + octets ≤ n → take octets (drop 2 (take n text)) ≡ take octets (drop 2 text)
    seen zero octets text le = absurd (omega (arith, le))
    seen (suc zero) octets text le = absurd (omega (arith, le))
    seen (suc (suc n)) octets [] le = refl
    seen (suc (suc n)) octets (x ∷ []) le = refl
    seen (suc (suc n)) octets (x ∷ y ∷ text) le = take_taken octets n text (omega (arith, le))
