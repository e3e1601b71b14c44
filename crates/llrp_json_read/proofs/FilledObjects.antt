-- An object that has each member once, and no other, is not refused for its members.
use Rattle.std.proofs.Common.{◌≡◌, ◌⊎◌, inl, inr, ℕ, suc, ◌+◌, ◌<◌, ◌≤◌, ◌==◌, Bool, true, false, not, cond, ◌&&◌, ◌||◌, nat_lt, List, [], ◌∷◌, Option, Some, None, refl, sym, ap, ◌∙◌, arith, subst}
use Rattle.std.proofs.lemmas.Bool.{cases_Bool}
use Rattle.std.proofs.lemmas.Bool.Decides.{nat_tests}
use Rattle.std.proofs.lemmas.List.Sums.{sum_by-cons}
use Rattle.std.proofs.lemmas.Slice.Eq.{bytes_eq-Decides}
use Rattle.std.specs.Prelude.{bytes_eq, count_by, find, option_map, unwrap_or, length}
use Rattle.std.specs.List.{AllByRecursion, AllPairs, list_any, slice_index_or}
use Rattle.json.specs.Find.{get_member, later_or}
use Rattle.json.specs.Json.{Json, object, Members, no_members, member}
use Rattle.json.specs.Strict.{keys}
use Rattle.llrp_json_read.specs.ObjectMembers.{MemberRule, count_of, has_shape, member_fault, missing, mistyped, twice, unknown}

-- ---- members in order

-- a member: its name and its value
abbrev pub Pair : Type 0
Pair = List ℕ × Json

abbrev pub as_members : List Pair → Members
as_members [] = no_members
as_members (p ∷ ps) = member p.0 p.1 (as_members ps)

abbrev pub names : List Pair → List (List ℕ)
names [] = []
names (p ∷ ps) = p.0 ∷ names ps

keys_are : (ps : List Pair) → keys (as_members ps) ≡ names ps
keys_are [] = refl
keys_are (p ∷ ps) = ap (λ l. p.0 ∷ l) (keys_are ps)

-- ---- names that differ

-- the name is none of these
abbrev pub Away : List ℕ → List (List ℕ) → Type 0
Away x [] = Unit {0}
Away x (y ∷ ys) = (x ≡ y → ⊥) × Away x ys

abbrev pub Apart : List (List ℕ) → Type 0
Apart [] = Unit {0}
Apart (x ∷ xs) = Away x xs × Apart xs

away_from : (x : List ℕ) (ys : List (List ℕ)) → ((k : ℕ) (d : List ℕ) → k < length ys → x ≡ slice_index_or ys k d → ⊥) → Away x ys
away_from x [] f = tt
away_from x (y ∷ ys) f = (f 0 y (omega arith), away_from x ys (λ k d lt. f (suc k) d (omega arith)))

pub apart_from : (xs : List (List ℕ)) → AllPairs (λ a b. a ≡ b → ⊥) xs → Apart xs
apart_from [] h = tt
apart_from (x ∷ xs) h = (away_from x xs (λ k d lt. h 0 (suc k) d (omega arith) (omega arith)), apart_from xs (λ i j d lt len. h (suc i) (suc j) d (omega arith) (omega arith)))

same_bytes : (a b : List ℕ) → a ≡ b → bytes_eq a b ≡ true
same_bytes a b e = (bytes_eq-Decides a b).1 e

other_bytes : (a b : List ℕ) → (a ≡ b → ⊥) → bytes_eq a b ≡ false
other_bytes a b n = go (cases_Bool (bytes_eq a b))
  where
    go : (bytes_eq a b ≡ true) ⊎ (bytes_eq a b ≡ false) → bytes_eq a b ≡ false
    go (inl e) = absurd (n ((bytes_eq-Decides a b).0 e))
    go (inr e) = e

-- ---- looking up

later_none : (o : Option Json) → later_or o None ≡ o
later_none None = refl
later_none (Some j) = refl

-- a member of another name comes first
get_other : (name : List ℕ) (p : Pair) (ms : Members) → (name ≡ p.0 → ⊥) → get_member name (member p.0 p.1 ms) ≡ get_member name ms
get_other name p ms n = ap (λ b. later_or (get_member name ms) (cond b (Some p.1) None)) (other_bytes p.0 name (λ e. n (sym e))) ∙ later_none (get_member name ms)

pub get_none : (name : List ℕ) (ps : List Pair) → Away name (names ps) → get_member name (as_members ps) ≡ None
get_none name [] a = refl
get_none name (p ∷ ps) a = get_other name p (as_members ps) a.0 ∙ get_none name ps a.1

get_first : (name : List ℕ) (p : Pair) (ps : List Pair) → p.0 ≡ name → Away name (names ps) → get_member name (as_members (p ∷ ps)) ≡ Some p.1
get_first name p ps e a = ap (λ b. later_or (get_member name (as_members ps)) (cond b (Some p.1) None)) (same_bytes p.0 name e) ∙ ap (λ o. later_or o (Some p.1)) (get_none name ps a)

-- the pair is one of these
abbrev pub IsIn : Pair → List Pair → Type 0
IsIn p [] = ⊥
IsIn p (q ∷ qs) = (p ≡ q) ⊎ IsIn p qs

away_of : (p : Pair) (name : List ℕ) (qs : List Pair) → IsIn p qs → Away name (names qs) → p.0 ≡ name → ⊥
away_of p name [] i a e = i
away_of p name (q ∷ qs) (inl s) a e = a.0 (sym e ∙ ap (λ x. x.0) s)
away_of p name (q ∷ qs) (inr i) a e = away_of p name qs i a.1 e

-- the value of a member, where no two have one name
pub get_in : (p : Pair) (qs : List Pair) → IsIn p qs → Apart (names qs) → get_member p.0 (as_members qs) ≡ Some p.1
get_in p [] i a = absurd i
get_in p (q ∷ qs) (inl s) a = ap (λ x. get_member x.0 (as_members (q ∷ qs))) s ∙ get_first q.0 q qs refl a.0 ∙ ap (λ x. Some x.1) (sym s)
get_in p (q ∷ qs) (inr i) a = get_other p.0 q (as_members qs) (λ e. away_of p q.0 qs i a.0 e) ∙ get_in p qs i a.1

-- ---- counting

count_first : (name k : List ℕ) (ks : List (List ℕ)) → count_by (λ key. bytes_eq key name) (k ∷ ks) ≡ cond (bytes_eq k name) 1 0 + count_by (λ key. bytes_eq key name) ks
count_first name k ks = sum_by-cons (λ key. cond (bytes_eq key name) 1 0) k ks

count_none : (name : List ℕ) (ks : List (List ℕ)) → Away name ks → count_by (λ key. bytes_eq key name) ks ≡ 0
count_none name [] a = refl
count_none name (k ∷ ks) a = count_first name k ks ∙ rw (other_bytes k name (λ e. a.0 (sym e)), count_none name ks a.1) refl

count_few : (name : List ℕ) (ks : List (List ℕ)) → Apart ks → count_by (λ key. bytes_eq key name) ks ≤ 1
count_few name [] a = omega arith
count_few name (k ∷ ks) a = go (count_few name ks a.1) (cases_Bool (bytes_eq k name))
  where
    go : count_by (λ key. bytes_eq key name) ks ≤ 1 → (bytes_eq k name ≡ true) ⊎ (bytes_eq k name ≡ false) → count_by (λ key. bytes_eq key name) (k ∷ ks) ≤ 1
    go rest (inl e) =
        let same : k ≡ name = (bytes_eq-Decides k name).0 e in
        let none : count_by (λ key. bytes_eq key name) ks ≡ 0 = ap (λ x. count_by (λ key. bytes_eq key x) ks) (sym same) ∙ count_none k ks a.0 in
        let one : ◌≡◌ {A = ℕ} (cond (bytes_eq k name) 1 0) 1 = rw e refl in
        omega (arith, count_first name k ks, none, one)
    go rest (inr e) =
        let zero : ◌≡◌ {A = ℕ} (cond (bytes_eq k name) 1 0) 0 = rw e refl in
        omega (arith, count_first name k ks, zero, rest)

-- ---- members that fill rules

-- each rule has its member, in order, and only one that may be left out has none
abbrev pub Fill : List MemberRule → List Pair → Type 0
Fill [] [] = Unit {0}
Fill [] (p ∷ ps) = ⊥
Fill (r ∷ rs) [] = (r.optional ≡ true) × Fill rs []
Fill (r ∷ rs) (p ∷ ps) = ((p.0 ≡ r.name) × (has_shape r.shape p.1 ≡ true) × Fill rs ps) ⊎ ((r.optional ≡ true) × Fill rs (p ∷ ps))

abbrev pub rule_names : List MemberRule → List (List ℕ)
rule_names [] = []
rule_names (r ∷ rs) = r.name ∷ rule_names rs

still_away : (x : List ℕ) (rs : List MemberRule) (ps : List Pair) → Fill rs ps → Away x (rule_names rs) → Away x (names ps)
still_away x [] [] f a = tt
still_away x [] (p ∷ ps) f a = absurd f
still_away x (r ∷ rs) [] f a = tt
still_away x (r ∷ rs) (p ∷ ps) (inl f) a = (λ e. a.0 (e ∙ f.0), still_away x rs ps f.2 a.1)
still_away x (r ∷ rs) (p ∷ ps) (inr f) a = still_away x rs (p ∷ ps) f.1 a.1

pub still_apart : (rs : List MemberRule) (ps : List Pair) → Fill rs ps → Apart (rule_names rs) → Apart (names ps)
still_apart [] [] f a = tt
still_apart [] (p ∷ ps) f a = absurd f
still_apart (r ∷ rs) [] f a = tt
still_apart (r ∷ rs) (p ∷ ps) (inl f) a = (subst (λ x. Away x (names ps)) (sym f.0) (still_away r.name rs ps f.2 a.0), still_apart rs ps f.2 a.1)
still_apart (r ∷ rs) (p ∷ ps) (inr f) a = still_apart rs (p ∷ ps) f.1 a.1

-- ---- no member is unknown

abbrev IsKnown : List MemberRule → List ℕ → Type 0
IsKnown rules key = list_any (λ rule. bytes_eq rule.name key) rules ≡ true

or_true : (b c : Bool) → c ≡ true → (b || c) ≡ true
or_true true c e = refl
or_true false c e = e

known_more : (r : MemberRule) (rs : List MemberRule) (ks : List (List ℕ)) → AllByRecursion (IsKnown rs) ks → AllByRecursion (IsKnown (r ∷ rs)) ks
known_more r rs [] h = tt
known_more r rs (k ∷ ks) h = (or_true (bytes_eq r.name k) _ h.0, known_more r rs ks h.1)

all_known : (rs : List MemberRule) (ps : List Pair) → Fill rs ps → AllByRecursion (IsKnown rs) (names ps)
all_known [] [] f = tt
all_known [] (p ∷ ps) f = absurd f
all_known (r ∷ rs) [] f = tt
all_known (r ∷ rs) (p ∷ ps) (inl f) = (rw (same_bytes r.name p.0 (sym f.0)) refl, known_more r rs (names ps) (all_known rs ps f.2))
all_known (r ∷ rs) (p ∷ ps) (inr f) = known_more r rs (names (p ∷ ps)) (all_known rs (p ∷ ps) f.1)

none_unknown : (rules : List MemberRule) (ks : List (List ℕ)) → AllByRecursion (IsKnown rules) ks → find (λ key. not (list_any (λ rule. bytes_eq rule.name key) rules)) ks ≡ None
none_unknown rules [] h = refl
none_unknown rules (k ∷ ks) h = rw h.0 (none_unknown rules ks h.1)

-- ---- each rule's member

abbrev Found : Members → MemberRule → Type 0
Found ms r = ((v : Json) × (get_member r.name ms ≡ Some v) × (has_shape r.shape v ≡ true) × (0 < count_of r.name ms)) ⊎ ((get_member r.name ms ≡ None) × (r.optional ≡ true))

found_more : (p : Pair) (ps : List Pair) (r : MemberRule) → (r.name ≡ p.0 → ⊥) → Found (as_members ps) r → Found (as_members (p ∷ ps)) r
found_more p ps r n (inl f) = inl (f.0, get_other r.name p (as_members ps) n ∙ f.1, f.2, omega (arith, count_first r.name p.0 (keys (as_members ps)), f.3))
found_more p ps r n (inr f) = inr (get_other r.name p (as_members ps) n ∙ f.0, f.1)

all_more : (p : Pair) (ps : List Pair) (rs : List MemberRule) → Away p.0 (rule_names rs) → AllByRecursion (Found (as_members ps)) rs → AllByRecursion (Found (as_members (p ∷ ps))) rs
all_more p ps [] a h = tt
all_more p ps (r ∷ rs) a h = (found_more p ps r (λ e. a.0 (sym e)) h.0, all_more p ps rs a.1 h.1)

all_found : (rs : List MemberRule) (ps : List Pair) → Fill rs ps → Apart (rule_names rs) → AllByRecursion (Found (as_members ps)) rs
all_found [] [] f a = tt
all_found [] (p ∷ ps) f a = absurd f
all_found (r ∷ rs) [] f a = (inr (refl, f.0), all_found rs [] f.1 a.1)
all_found (r ∷ rs) (p ∷ ps) (inl f) a =
    let one : ◌≡◌ {A = ℕ} (cond (bytes_eq p.0 r.name) 1 0) 1 = rw (same_bytes p.0 r.name f.0) refl in
    let here : get_member r.name (as_members (p ∷ ps)) ≡ Some p.1 = get_first r.name p ps f.0 (still_away r.name rs ps f.2 a.0) in
    (inl (p.1, here, f.1, omega (arith, count_first r.name p.0 (keys (as_members ps)), one)), all_more p ps rs (subst (λ x. Away x (rule_names rs)) (sym f.0) a.0) (all_found rs ps f.2 a.1))
all_found (r ∷ rs) (p ∷ ps) (inr f) a = (inr (get_none r.name (p ∷ ps) (still_away r.name rs (p ∷ ps) f.1 a.0), f.0), all_found rs (p ∷ ps) f.1 a.1)

and_false : (b : Bool) → (b && false) ≡ false
and_false true = refl
and_false false = refl

none_missing : (ms : Members) (rs : List MemberRule) → AllByRecursion (Found ms) rs → find (λ rule. not rule.optional && (count_of rule.name ms == 0)) rs ≡ None
none_missing ms [] h = refl
none_missing ms (r ∷ rs) h = by_found (none_missing ms rs h.1) h.0
  where
    by_found : find (λ rule. not rule.optional && (count_of rule.name ms == 0)) rs ≡ None → Found ms r → find (λ rule. not rule.optional && (count_of rule.name ms == 0)) (r ∷ rs) ≡ None
    by_found rest (inl f) =
        let some : (count_of r.name ms == 0) ≡ false = (let lt = f.3 in grind (arith, nat_tests)) in
        let no : (not r.optional && (count_of r.name ms == 0)) ≡ false = rw some (and_false (not r.optional)) in
        rw no rest
    by_found rest (inr f) = rw f.1 rest

none_twice : (ms : Members) (rs : List MemberRule) → Apart (keys ms) → find (λ rule. nat_lt 1 (count_of rule.name ms)) rs ≡ None
none_twice ms [] a = refl
none_twice ms (r ∷ rs) a =
    let few = count_few r.name (keys ms) a in
    let no : nat_lt 1 (count_of r.name ms) ≡ false = grind (arith, nat_tests) in
    rw no (none_twice ms rs a)

none_mistyped : (ms : Members) (rs : List MemberRule) → AllByRecursion (Found ms) rs → find (λ rule. not (unwrap_or (option_map (has_shape rule.shape) (get_member rule.name ms)) true)) rs ≡ None
none_mistyped ms [] h = refl
none_mistyped ms (r ∷ rs) h = by_found (none_mistyped ms rs h.1) h.0
  where
    by_found : find (λ rule. not (unwrap_or (option_map (has_shape rule.shape) (get_member rule.name ms)) true)) rs ≡ None → Found ms r → find (λ rule. not (unwrap_or (option_map (has_shape rule.shape) (get_member rule.name ms)) true)) (r ∷ rs) ≡ None
    by_found rest (inl f) = rw (f.1, f.2) rest
    by_found rest (inr f) = rw f.0 rest

-- members that fill the rules are those that the object has
pub no_fault : (rules : List MemberRule) (ps : List Pair) → Fill rules ps → Apart (rule_names rules) → member_fault (object (as_members ps)) (as_members ps) rules ≡ None
no_fault rules ps f a =
    let ms = as_members ps in
    let found = all_found rules ps f a in
    let known : unknown ms rules ≡ None = ap (find (λ key. not (list_any (λ rule. bytes_eq rule.name key) rules))) (keys_are ps) ∙ none_unknown rules (names ps) (all_known rules ps f) in
    let there : missing ms rules ≡ None = none_missing ms rules found in
    let once : twice ms rules ≡ None = none_twice ms rules (subst Apart (sym (keys_are ps)) (still_apart rules ps f a)) in
    let typed : mistyped (object ms) rules ≡ None = none_mistyped ms rules found in
    rw (known, there, once, typed) refl
