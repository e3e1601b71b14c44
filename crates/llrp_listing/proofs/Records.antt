-- The record of the innermost line.
use Rattle.std.proofs.Common.{◌≡◌, ℕ, zero, suc, ◌-◌, ◌≤◌, List, [], ◌∷◌, ◌++◌, length, take, drop, get_or, refl, sym, ap, ◌∙◌, arith, length-append}
use Rattle.std.specs.Prelude.{reverse, slice_set}
use Rattle.std.specs.List.{refill}
use Rattle.std.proofs.Math.Seq.{take-append_seam}
use Rattle.std.proofs.lemmas.List.{length-take-le, reverse-append}
use Rattle.llrp_listing.specs.declared.encode.open_lines.LineRecord.{LineRecord}

-- the last element is set
set_end : (xs : List LineRecord) (i : ℕ) (held : LineRecord) → length xs ≡ suc i → slice_set xs i held ≡ take i xs ++ (held ∷ [])
set_end [] i held e = absurd (omega (arith, e))
set_end (x ∷ []) zero held e = refl
set_end (x ∷ y ∷ xs) zero held e = absurd (omega (arith, e))
set_end (x ∷ xs) (suc i) held e = ap (λ (z : List LineRecord). x ∷ z) (set_end xs i held (omega (arith, e)))

-- all elements, and the last
last_apart : (xs : List LineRecord) (i : ℕ) → length xs ≡ suc i → (x : LineRecord) × (xs ≡ take i xs ++ (x ∷ []))
last_apart [] i e = absurd (omega (arith, e))
last_apart (x ∷ []) zero e = (x, refl)
last_apart (x ∷ y ∷ xs) zero e = absurd (omega (arith, e))
last_apart (x ∷ xs) (suc i) e = let t = last_apart xs i (omega (arith, e)) in (t.0, ap (λ (z : List LineRecord). x ∷ z) t.1)

-- those outside the innermost
outside : (xs : List LineRecord) (i : ℕ) → length xs ≡ suc i → drop 1 (reverse xs) ≡ reverse (take i xs)
outside xs i e =
    let t = last_apart xs i e in
    ap (λ (z : List LineRecord). drop 1 (reverse z)) t.1 ∙ ap (λ (z : List LineRecord). drop 1 z) (reverse-append (take i xs) (t.0 ∷ []))

refilled : (ws xs : List LineRecord) → length ws ≡ length xs → refill (length xs) xs ws ≡ ws
refilled ws xs e = ap (λ (i : ℕ). take i (ws ++ drop (length ws) xs)) (sym e) ∙ take-append_seam ws (drop (length ws) xs)

-- the innermost record is set
pub top_set : (xs now : List LineRecord) (count : ℕ) (held : LineRecord) → 1 ≤ count → count ≡ length xs → now ≡ xs → reverse (refill (length xs) xs (slice_set now (count - 1) held)) ≡ held ∷ drop 1 (reverse xs)
top_set xs now count held some e f =
    let i = length xs - 1 in
    let long : length xs ≡ suc i = omega (arith, some, e) in
    let put : slice_set now (count - 1) held ≡ take i xs ++ (held ∷ []) = ap (λ (k : ℕ). slice_set now (k - 1) held) e ∙ ap (λ (z : List LineRecord). slice_set z i held) f ∙ set_end xs i held long in
    let same : length (take i xs ++ (held ∷ [])) ≡ length xs = omega (arith, length-append (take i xs) (held ∷ []), length-take-le i xs (omega (arith, long)), long) in
    ap (λ (z : List LineRecord). reverse (refill (length xs) xs z)) put
    ∙ ap (λ (z : List LineRecord). reverse z) (refilled (take i xs ++ (held ∷ [])) xs same)
    ∙ reverse-append (take i xs) (held ∷ [])
    ∙ ap (λ (z : List LineRecord). held ∷ z) (sym (outside xs i long))

-- the last of some elements
at_end : (ys : List LineRecord) (x d : LineRecord) (i : ℕ) → length ys ≡ i → get_or (ys ++ (x ∷ [])) i d ≡ x
at_end [] x d zero e = refl
at_end [] x d (suc i) e = absurd (omega (arith, e))
at_end (y ∷ ys) x d zero e = absurd (omega (arith, e))
at_end (y ∷ ys) x d (suc i) e = at_end ys x d i (omega (arith, e))

same_line : (top held : LineRecord) → held.kind ≡ top.kind → held.number ≡ top.number → record held { kind = top.kind; number = top.number } ≡ held
same_line top held k n = λ i. record held { kind = sym k i; number = sym n i }

-- the innermost record is changed to one of the same line
pub top_changed : (xs now : List LineRecord) (count : ℕ) (held d : LineRecord) → 1 ≤ count → count ≡ length xs → now ≡ xs → ((top : LineRecord) (rest : List LineRecord) → reverse xs ≡ top ∷ rest → (held.kind ≡ top.kind) × (held.number ≡ top.number))
    → reverse (refill (length xs) xs (slice_set now (count - 1) (record held { kind = (get_or now (count - 1) d).kind; number = (get_or now (count - 1) d).number }))) ≡ held ∷ drop 1 (reverse xs)
top_changed xs now count held d some e f line =
    let i = length xs - 1 in
    let long : length xs ≡ suc i = omega (arith, some, e) in
    let t = last_apart xs i long in
    let there : get_or now (count - 1) d ≡ t.0 = ap (λ (k : ℕ). get_or now (k - 1) d) e ∙ ap (λ (z : List LineRecord). get_or z i d) (f ∙ t.1) ∙ at_end (take i xs) t.0 d i (length-take-le i xs (omega (arith, long))) in
    let same = line t.0 (reverse (take i xs)) (ap (λ (z : List LineRecord). reverse z) t.1 ∙ reverse-append (take i xs) (t.0 ∷ [])) in
    let is = same_line (get_or now (count - 1) d) held (same.0 ∙ ap (λ (h : LineRecord). h.kind) (sym there)) (same.1 ∙ ap (λ (h : LineRecord). h.number) (sym there)) in
    ap (λ (h : LineRecord). reverse (refill (length xs) xs (slice_set now (count - 1) h))) is ∙ top_set xs now count held some e f
