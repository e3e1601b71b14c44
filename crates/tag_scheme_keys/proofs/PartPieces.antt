-- The pieces of a CPID.
use Rattle.std.proofs.Common.{◌≡◌, ℕ, ◌<◌, ◌≤◌, List, [], ◌∷◌, ◌++◌, length, take, drop, get_or, refl, sym, ap, subst, ◌∙◌, arith}
use Rattle.std.specs.Prelude.{◌==◌, true, false, slice_index, Option, Some, IfSome}
use Rattle.std.specs.List.{before_first, after_first, position_or_len}
use Rattle.std.proofs.lemmas.Bool.{eqb-true, eq-eqb, ne_eqb}
use Rattle.tag_uri.specs.Calls.Decimal.{AreDigits}
use Rattle.std.proofs.lemmas.List.{append_cancel_left, take_at}
use Rattle.std.proofs.lemmas.List.Sums.{passes_at_first, split_at_first}
use Rattle.std.proofs.Math.Seq.{take-length}
use Rattle.tag_keys.specs.declared.spelling.Spelling.{Spelling}
use Rattle.tag_keys.specs.declared.spelling.Spelling.TheVariants.{Element, Link, Named}
use Rattle.tag_scheme_keys.specs.KeyFaults.{part_front, serial_mark}

-- the mark by its first character and the others
pub mark_is : (s : Spelling) → serial_mark s ≡ slice_index (serial_mark s) 0 ∷ drop 1 (serial_mark s)
mark_is Element = refl
mark_is Link = refl
mark_is Named = refl

pub head_small : (s : Spelling) (c : ℕ) → c ≡ slice_index (serial_mark s) 0 → c < 128
head_small Element c e = omega (arith, e)
head_small Link c e = omega (arith, e)
head_small Named c e = omega (arith, e)

pub cut_some : (s : Spelling) (c : ℕ) (text front after : List ℕ) → c ≡ slice_index (serial_mark s) 0 → (front ≡ before_first (λ b. b == c) text) × (after ≡ after_first (λ b. b == c) text) × (position_or_len (λ b. b == c) text < length text)
    → (front ≡ part_front s text) × (text ≡ front ++ slice_index (serial_mark s) 0 ∷ after)
cut_some s c text front after e (f, a, within) =
    let at : get_or text (position_or_len (λ b. b == c) text) 0 ≡ c = eqb-true (get_or text (position_or_len (λ b. b == c) text) 0) c (passes_at_first (λ b. b == c) text 0 within) in
    let whole : text ≡ front ++ c ∷ after =
    split_at_first (λ b. b == c) text 0 within ∙ ap (λ (x : ℕ). before_first (λ b. b == c) text ++ x ∷ after_first (λ b. b == c) text) at
    ∙ ap (λ (x : List ℕ). x ++ c ∷ after_first (λ b. b == c) text) (sym f) ∙ ap (λ (x : List ℕ). front ++ c ∷ x) (sym a) in
    (f ∙ ap (λ (x : ℕ). before_first (λ b. b == x) text) e, whole ∙ ap (λ (x : ℕ). front ++ x ∷ after) e)

pub cut_none : (s : Spelling) (c : ℕ) (text : List ℕ) → c ≡ slice_index (serial_mark s) 0 → position_or_len (λ b. b == c) text ≡ length text → text ≡ part_front s text
cut_none s c text e n =
    let whole : before_first (λ b. b == c) text ≡ text = ap (λ (k : ℕ). take k text) n ∙ take-length text in
    sym whole ∙ ap (λ (x : ℕ). before_first (λ b. b == x) text) e

pub mark_short : (s : Spelling) → length (serial_mark s) ≤ 6
mark_short Element = omega arith
mark_short Link = omega arith
mark_short Named = omega arith

pub if_some : {A : Type 0} (P : A → Type 0) (o : Option A) (x : A) → o ≡ Some x → IfSome o P → P x
if_some P o x e h = subst (λ z. IfSome z P) e h

-- what comes after the first character of the mark
pub after_mark : (s : Spelling) (rest front after serial : List ℕ) → front ≡ part_front s rest → rest ≡ front ++ slice_index (serial_mark s) 0 ∷ after → rest ≡ part_front s rest ++ (serial_mark s ++ serial) → after ≡ drop 1 (serial_mark s) ++ serial
after_mark s rest front after serial f cut whole =
    let there : front ++ slice_index (serial_mark s) 0 ∷ after ≡ front ++ (serial_mark s ++ serial) = sym cut ∙ whole ∙ ap (λ (x : List ℕ). x ++ (serial_mark s ++ serial)) (sym f) in
    let tail : slice_index (serial_mark s) 0 ∷ after ≡ serial_mark s ++ serial = append_cancel_left front _ _ there in
    ap (drop 1) (tail ∙ ap (λ (x : List ℕ). x ++ serial) (mark_is s))

-- ---- digits before the mark

head_below : (s : Spelling) → slice_index (serial_mark s) 0 < 48
head_below Element = omega arith
head_below Link = omega arith
head_below Named = omega arith

first_place : (c : ℕ) (front after : List ℕ) → AreDigits front → c < 48 → position_or_len (λ b. b == c) (front ++ c ∷ after) ≡ length front
first_place c [] after h low = let yes : (c == c) ≡ true = eq-eqb c c refl in rw yes refl
first_place c (d ∷ ds) after h low =
    let no : (d == c) ≡ false = ne_eqb d c (λ e. omega (arith, e, h.0.0)) in
    let ih = first_place c ds after h.1 low in
    rw (no, ih) (omega arith)

pub front_is_digits : (s : Spelling) (front x : List ℕ) → AreDigits front → part_front s (front ++ (serial_mark s ++ x)) ≡ front
front_is_digits s front x h =
    let c : ℕ = slice_index (serial_mark s) 0 in
    let whole : front ++ (serial_mark s ++ x) ≡ front ++ c ∷ (drop 1 (serial_mark s) ++ x) = ap (λ (m : List ℕ). front ++ (m ++ x)) (mark_is s) in
    let place = first_place c front (drop 1 (serial_mark s) ++ x) h (head_below s) in
    ap (part_front s) whole ∙ ap (λ (k : ℕ). take k (front ++ c ∷ (drop 1 (serial_mark s) ++ x))) place ∙ take_at front (c ∷ (drop 1 (serial_mark s) ++ x)) (length front) refl

pub one_mark : (s : Spelling) (front other x y : List ℕ) → AreDigits front → AreDigits other → front ++ (serial_mark s ++ x) ≡ other ++ (serial_mark s ++ y) → (front ≡ other) × (x ≡ y)
one_mark s front other x y h k e =
    let same : front ≡ other = sym (front_is_digits s front x h) ∙ ap (part_front s) e ∙ front_is_digits s other y k in
    (same, append_cancel_left (serial_mark s) x y (append_cancel_left front _ _ (e ∙ ap (λ (z : List ℕ). z ++ (serial_mark s ++ y)) (sym same))))
