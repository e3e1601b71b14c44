-- Lemmas on searches and tests over lists, for the tables.
use Rattle.std.proofs.Common.{◌≡◌, ℕ, ◌<◌, Bool, true, false, not, ◌&&◌, ◌||◌, List, [], ◌∷◌, Option, Some, None, filter, find, cond, length, ◌==◌, nat_eq, refl, sym, ap, ◌∙◌, eq-eqb, subst, arith, slice_index_or}
use Rattle.std.proofs.lemmas.Option.{same_Some, none-some}
use Rattle.std.proofs.lemmas.Bool.{and_parts}
use Rattle.std.specs.List.{list_all, All, AllPairs}
use Rattle.std.proofs.lemmas.List.Sums.{AllPass-from_list_all}
use Rattle.std.proofs.lemmas.List.Kept.{AllPairs-cons}
use Rattle.std.specs.Cmp.Lexicographic.{pointwise, same_text}

-- a test that fails is passed over
cond_passed : {Y : Type 0} (test : Bool) (y a b : Y) → (test ≡ true → false ≡ true) → a ≡ b → a ≡ cond test y b
cond_passed true y a b fails same = cc (fails refl)
cond_passed false y a b fails same = same

-- one element, kept or left out
find-cond : {X : Type 0} (found : X → Bool) (kept : Bool) (x : X) (some all : List X) → (found x ≡ true → kept ≡ true) → find found some ≡ find found all → find found (cond kept (x ∷ some) some) ≡ find found (x ∷ all)
find-cond found true x some all keeps same = ap (cond (found x) (Some x)) same
find-cond found false x some all keeps same = cond_passed (found x) (Some x) (find found some) (find found all) keeps same

-- a search finds the same where only elements that it passes over were left out
pub find-filter : {X : Type 0} (found kept : X → Bool) → ((x : X) → found x ≡ true → kept x ≡ true) → (xs : List X) → find found (filter kept xs) ≡ find found xs
find-filter found kept keeps [] = refl
find-filter found kept keeps (x ∷ xs) = find-cond found (kept x) x (filter kept xs) xs (keeps x) (find-filter found kept keeps xs)

-- texts that are equal by the test have one length
length-pointwise : (xs ys : List ℕ) → pointwise nat_eq xs ys ≡ true → (length xs == length ys) ≡ true
length-pointwise xs ys same = eq-eqb (length xs) (length ys) (ap length (same_text xs ys (sym same)))

-- among the kinds whose names have the text's length, the one with the name is that among all
pub find_of_length : {X : Type 0} (names : X → List ℕ) (text : List ℕ) (some all : List X) → some ≡ filter (λ kind. length (names kind) == length text) all → find (λ kind. pointwise nat_eq (names kind) text) some ≡ find (λ kind. pointwise nat_eq (names kind) text) all
find_of_length names text some all thinned = ap (find (λ kind. pointwise nat_eq (names kind) text)) thinned ∙ find-filter (λ kind. pointwise nat_eq (names kind) text) (λ kind. length (names kind) == length text) (λ kind. length-pointwise (names kind) text) all

-- what is chosen at the head of a list, or found after it
found_first : {X : Type 0} (P : X → Type 0) (test : Bool) (x y : X) (rest : Option X) → (test ≡ true → P x) → (rest ≡ Some y → P y) → cond test (Some x) rest ≡ Some y → P y
found_first P true x y rest head behind found = subst P (same_Some x y found) (head refl)
found_first P false x y rest head behind found = behind found

-- what a search finds passes its test
pub find-passes : {X : Type 0} (test : X → Bool) (xs : List X) (y : X) → find test xs ≡ Some y → test y ≡ true
find-passes test [] y found = absurd (none-some y found)
find-passes test (x ∷ xs) y found = found_first (λ z. test z ≡ true) (test x) x y (find test xs) (λ passes. passes) (find-passes test xs y) found

-- what a search finds passes each test that all elements pass
pub find-all : {X : Type 0} (test all : X → Bool) (xs : List X) (y : X) → list_all all xs ≡ true → find test xs ≡ Some y → all y ≡ true
find-all test all [] y pass found = absurd (none-some y found)
find-all test all (x ∷ xs) y pass found = let parts = and_parts (all x) (list_all all xs) pass in found_first (λ z. all z ≡ true) (test x) x y (find test xs) (λ _. parts.0) (find-all test all xs y parts.1) found

-- one element, kept where it passes
list_all-cond : {X : Type 0} (test : X → Bool) (passes : Bool) (x : X) (xs : List X) → (passes ≡ true → test x ≡ true) → list_all test xs ≡ true → list_all test (cond passes (x ∷ xs) xs) ≡ true
list_all-cond test true x xs head tail = ap (λ b. b && list_all test xs) (head refl) ∙ tail
list_all-cond test false x xs head tail = tail

-- every element of a thinned list passes the test that thinned it
pub list_all-filter : {X : Type 0} (test : X → Bool) (xs : List X) → list_all test (filter test xs) ≡ true
list_all-filter test [] = refl
list_all-filter test (x ∷ xs) = list_all-cond test (test x) x (filter test xs) (λ passes. passes) (list_all-filter test xs)

-- every element of a thinned list passes a test that every element passes
pub list_all-thinned : {X : Type 0} (test kept : X → Bool) (xs : List X) → list_all test xs ≡ true → list_all test (filter kept xs) ≡ true
list_all-thinned test kept [] pass = refl
list_all-thinned test kept (x ∷ xs) pass = let parts = and_parts (test x) (list_all test xs) pass in list_all-cond test (kept x) x (filter kept xs) (λ _. parts.0) (list_all-thinned test kept xs parts.1)

-- a fact that follows from a test holds of each element where all pass
pub All-from_list_all : {X : Type 0} (test : X → Bool) (P : X → Type 0) → ((x : X) → test x ≡ true → P x) → (xs : List X) → list_all test xs ≡ true → All P xs
All-from_list_all test P tells xs pass = λ k d below. tells (slice_index_or xs k d) (AllPass-from_list_all test xs pass k d below)

-- whether a test passes at each element with each later one
abbrev pub pairs_all : {X : Type 0} → (X → X → Bool) → List X → Bool
pairs_all test [] = true
pairs_all test (x ∷ xs) = list_all (test x) xs && pairs_all test xs

-- no place is below the first
not_below_zero : (place : ℕ) → place < 0 → ⊥
not_below_zero place below = omega arith

-- a relation that follows from a test holds of each pair where all pass
pub AllPairs-from_pairs_all : {X : Type 0} (test : X → X → Bool) (R : X → X → Type 0) → ((x y : X) → test x y ≡ true → R x y) → (xs : List X) → pairs_all test xs ≡ true → AllPairs R xs
AllPairs-from_pairs_all test R tells [] pass = λ i j d before below. absurd (not_below_zero j below)
AllPairs-from_pairs_all test R tells (x ∷ xs) pass = let parts = and_parts (list_all (test x) xs) (pairs_all test xs) pass in AllPairs-cons R x xs (All-from_list_all (test x) (R x) (tells x) xs parts.0) (AllPairs-from_pairs_all test R tells xs parts.1)

-- a negation that holds
pub not_true : (b : Bool) → not b ≡ true → b ≡ false
not_true true fails = sym fails
not_true false fails = refl

-- what follows where a condition holds
pub implied : (a b : Bool) → (not a || b) ≡ true → a ≡ true → b ≡ true
implied true b test holds = test
implied false b test holds = cc holds

-- two values that are equal on each side of a test
pub same_split : {X : Type 0} (p q : Bool) (x y : X) → cond p None (Some x) ≡ cond q None (Some y) → cond p (Some x) None ≡ cond q (Some y) None → x ≡ y
same_split true true x y left right = same_Some x y right
same_split true false x y left right = absurd (none-some y left)
same_split false true x y left right = absurd (none-some x (sym left))
same_split false false x y left right = same_Some x y left
