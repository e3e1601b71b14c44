-- Lists of pairs, and the steps of a session.
use Rattle.std.proofs.Common.{◌≡◌, ℕ, zero, suc, List, [], ◌∷◌, ◌++◌, length, Option, Some, None, refl, sym, ap, ◌∙◌}
use Rattle.std.specs.Prelude.{slice_get, slice_set, take, drop}
use Rattle.llrp_sides.specs.declared.session.Pair.{Pair}
use Rattle.llrp_sides.specs.Calls.Captures.{streams_of}

-- ---- a place in a list

pub splits_at : {A : Type 0} (xs : List A) (k : ℕ) (x : A) → slice_get xs k ≡ Some x → xs ≡ take k xs ++ x ∷ drop (suc k) xs
splits_at [] k x h = let e : None ≡ Some x = h in absurd (cc)
splits_at {A} (y ∷ xs) zero x h = let same : y ≡ x = ap (λ (o : Option A). or_this y o) h in ap (λ (z : A). z ∷ xs) same
  where
    or_this : {A : Type 0} → A → Option A → A
    or_this d None = d
    or_this d (Some x) = x
splits_at (y ∷ xs) (suc k) x h = ap (λ z. y ∷ z) (splits_at xs k x h)

pub sets_at : {A : Type 0} (xs : List A) (k : ℕ) (x y : A) → slice_get xs k ≡ Some x → slice_set xs k y ≡ take k xs ++ y ∷ drop (suc k) xs
sets_at [] k x y h = let e : None ≡ Some x = h in absurd (cc)
sets_at (z ∷ xs) zero x y h = refl
sets_at (z ∷ xs) (suc k) x y h = ap (λ w. z ∷ w) (sets_at xs k x y h)

pub size_set : {A : Type 0} (xs : List A) (k : ℕ) (y : A) → length (slice_set xs k y) ≡ length xs
size_set [] k y = refl
size_set (x ∷ xs) zero y = refl
size_set (x ∷ xs) (suc k) y = ap suc (size_set xs k y)

pub get_set : {A : Type 0} (xs : List A) (k : ℕ) (x y : A) → slice_get xs k ≡ Some x → slice_get (slice_set xs k y) k ≡ Some y
get_set [] k x y h = let e : None ≡ Some x = h in absurd (cc)
get_set (z ∷ xs) zero x y h = refl
get_set (z ∷ xs) (suc k) x y h = get_set xs k x y h

pub remove_set : {A : Type 0} (xs : List A) (k : ℕ) (y : A) → take k (slice_set xs k y) ++ drop (suc k) (slice_set xs k y) ≡ take k xs ++ drop (suc k) xs
remove_set [] k y = refl
remove_set (x ∷ xs) zero y = refl
remove_set (x ∷ xs) (suc k) y = ap (λ w. x ∷ w) (remove_set xs k y)

pub drop_next : {A : Type 0} (xs : List A) (k : ℕ) (x : A) → slice_get xs k ≡ Some x → drop k xs ≡ x ∷ drop (suc k) xs
drop_next [] k x h = let e : None ≡ Some x = h in absurd (cc)
drop_next (y ∷ xs) zero x h = splits_at (y ∷ xs) zero x h
drop_next (y ∷ xs) (suc k) x h = drop_next xs k x h

pub drop_set : {A : Type 0} (xs : List A) (k : ℕ) (y : A) → drop (suc k) (slice_set xs k y) ≡ drop (suc k) xs
drop_set [] k y = refl
drop_set (x ∷ xs) zero y = refl
drop_set (x ∷ xs) (suc k) y = drop_set xs k y

-- the last of a list
pub take_last : {A : Type 0} (xs : List A) (x : A) → take (length xs) (xs ++ x ∷ []) ≡ xs
take_last [] x = refl
take_last (y ∷ xs) x = ap (λ w. y ∷ w) (take_last xs x)

pub drop_last : {A : Type 0} (xs : List A) (x : A) → drop (suc (length xs)) (xs ++ x ∷ []) ≡ []
drop_last [] x = refl
drop_last (y ∷ xs) x = drop_last xs x

pub get_last : {A : Type 0} (xs : List A) (x : A) → slice_get (xs ++ x ∷ []) (length xs) ≡ Some x
get_last [] x = refl
get_last (y ∷ xs) x = get_last xs x

-- ---- streams

pub streams_last : (pairs : List Pair) (pair : Pair) → streams_of (pairs ++ pair ∷ []) ≡ streams_of pairs ++ pair.stream ∷ []
streams_last [] pair = refl
streams_last (other ∷ pairs) pair = ap (λ (w : List ℕ). other.stream ∷ w) (streams_last pairs pair)

pub streams_set : (pairs : List Pair) (k : ℕ) (x y : Pair) → slice_get pairs k ≡ Some x → y.stream ≡ x.stream → streams_of (slice_set pairs k y) ≡ streams_of pairs
streams_set [] k x y h same = refl
streams_set (z ∷ pairs) zero x y h same =
    let is : z ∷ pairs ≡ x ∷ pairs = splits_at (z ∷ pairs) zero x h in
    ap (λ (n : ℕ). n ∷ streams_of pairs) (same ∙ sym (head_stream (z ∷ pairs) (x ∷ pairs) z x pairs pairs refl refl is))
  where
    first_stream : List Pair → ℕ
    first_stream [] = 0
    first_stream (p ∷ ps) = p.stream

    head_stream : (a b : List Pair) (z x : Pair) (ps qs : List Pair) → a ≡ z ∷ ps → b ≡ x ∷ qs → a ≡ b → z.stream ≡ x.stream
    head_stream a b z x ps qs is_a is_b same = ap first_stream (sym is_a) ∙ ap first_stream same ∙ ap first_stream is_b
streams_set (z ∷ pairs) (suc k) x y h same = ap (λ (w : List ℕ). z.stream ∷ w) (streams_set pairs k x y h same)

pub streams_remove : (pairs : List Pair) (k : ℕ) → take k (streams_of pairs) ++ drop (suc k) (streams_of pairs) ≡ streams_of (take k pairs ++ drop (suc k) pairs)
streams_remove [] zero = refl
streams_remove [] (suc k) = refl
streams_remove (x ∷ pairs) zero = refl
streams_remove (x ∷ pairs) (suc k) = ap (λ (w : List ℕ). x.stream ∷ w) (streams_remove pairs k)

pub streams_length : (pairs : List Pair) → length (streams_of pairs) ≡ length pairs
streams_length [] = refl
streams_length (x ∷ pairs) = ap suc (streams_length pairs)

pub pair_at : (pairs : List Pair) (k stream : ℕ) → slice_get (streams_of pairs) k ≡ Some stream → (pair : Pair) × (slice_get pairs k ≡ Some pair) × (pair.stream ≡ stream)
pair_at [] k stream h = let e : None ≡ Some stream = h in absurd (cc)
pair_at (x ∷ pairs) zero stream h = (x, refl, some_same x.stream stream h)
  where
    some_same : (a b : ℕ) → Some a ≡ Some b → a ≡ b
    some_same a b h = cc
pair_at (x ∷ pairs) (suc k) stream h = pair_at pairs k stream h
