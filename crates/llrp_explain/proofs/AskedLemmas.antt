-- The first octets of a frame, which have its id.
use Rattle.std.proofs.Common.{◌≡◌, ℕ, zero, suc, ◌-◌, ◌≤◌, List, [], ◌∷◌, ◌++◌, length, take, drop, Bool, Result, Ok, Err, OnOk, is_ok, if◌then◌else◌, refl, sym, ap, ◌∙◌, arith}
use Rattle.std.specs.Prelude.{min}
use Rattle.std.proofs.lemmas.List.{length-take-le, take-append-drop, take_min}
use Rattle.tag_bits.specs.Digits.{digits_of_bytes}
use Rattle.tag_bits.proofs.ByteLemmas.{bytes-append}
use Rattle.llrp_tree.specs.FirstFault.{number}
use Rattle.llrp_stream.specs.Items.{id_field}

-- ---- the id

pub id_is : (head frame : List ℕ) → head ≡ take 10 frame → number (digits_of_bytes head ++ digits_of_bytes (drop 10 frame)) 48 32 ≡ id_field frame
unfolding id_field
id_is head frame is = ap (λ (ds : List Bool). number ds 48 32) (sym (bytes-append head (drop 10 frame)) ∙ ap digits_of_bytes (ap (λ (x : List ℕ). x ++ drop 10 frame) is ∙ take-append-drop 10 frame))

pub head_whole : (head frame : List ℕ) → head ≡ take 10 frame → 10 ≤ length frame → length head ≡ 10
head_whole head frame is long = ap (λ (x : List ℕ). length x) is ∙ length-take-le 10 frame long

-- ---- more octets

-- the first n of two lists: those of the one, and as many of the other as are left
take_both : (n : ℕ) (xs ys : List ℕ) → take n (xs ++ ys) ≡ take n xs ++ take (n - length (take n xs)) ys
take_both zero xs ys = refl
take_both (suc n) [] ys = ap (λ (k : ℕ). take k ys) (let same : suc n ≡ suc n - 0 = omega arith in same)
take_both (suc n) (x ∷ xs) ys =
    ap (λ (l : List ℕ). x ∷ l) (take_both n xs ys) ∙ ap (λ (k : ℕ). x ∷ (take n xs ++ take k ys)) (let same : n - length (take n xs) ≡ suc n - suc (length (take n xs)) = omega arith in same)

pub head_more : (front piece old : List ℕ) (room count : ℕ) → old ≡ take 10 front → room ≡ 10 - length old → count ≡ min room (length piece) → old ++ take count piece ≡ take 10 (front ++ piece)
head_more front piece old room count is r n =
    let near : take count piece ≡ take room piece = ap (λ (k : ℕ). take k piece) n ∙ take_min room piece in
    let left : take room piece ≡ take (10 - length (take 10 front)) piece = ap (λ (k : ℕ). take k piece) (r ∙ ap (λ (x : List ℕ). 10 - length x) is) in
    ap (λ (x : List ℕ). old ++ x) (near ∙ left) ∙ ap (λ (x : List ℕ). x ++ take (10 - length (take 10 front)) piece) is ∙ sym (take_both 10 front piece)

pub kept_head : {T E : Type 0} (r : Result T E) (old new piece near : List ℕ) (room count : ℕ) → room ≡ 10 - length old → count ≡ min room (length piece) → near ≡ take count piece → new ≡ (if is_ok r then old ++ near else old) → OnOk r ((front : List ℕ) → old ≡ take 10 front → new ≡ take 10 (front ++ piece))
kept_head (Ok v) old new piece near room count rm n nr more = λ front is. more ∙ ap (λ (x : List ℕ). old ++ x) nr ∙ head_more front piece old room count is rm n
kept_head (Err e) old new piece near room count rm n nr more = tt
