-- What a reader lists of its table is what a client sees that has the table's states.
use Rattle.std.proofs.Common.{◌≡◌, ℕ, ◌<◌, refl, Bool, true, false, List, [], ◌∷◌, arith}
use Rattle.std.specs.Prelude.{◌==◌, ◌&&◌, ◌||◌, not}
use Rattle.std.specs.List.{list_any, list_all}
use Rattle.std.proofs.lemmas.Bool.{eq-eqb}
use Rattle.std.proofs.lemmas.Bool.Decides.{nat_tests}
use Rattle.llrp_tree.specs.Tree.{Tree}
use Rattle.llrp_session.specs.Table.{Entry, Viewed, states, state_number, as_listed, listing}
use Rattle.llrp_session.specs.Calls.Table.{AllAbove, IsRising}
use Rattle.llrp_session.specs.ClientMachine.{shows, names_same, names_none_twice, is_view}
use Rattle.llrp_tree.proofs.LawLemmas.{both_true as and_true}

or_left : (a b : Bool) → a ≡ true → (a || b) ≡ true
or_left true b h = refl
or_left false b h = cc

or_right : (a b : Bool) → b ≡ true → (a || b) ≡ true
or_right true b h = refl
or_right false b h = h

or_neither : (a b : Bool) → a ≡ false → b ≡ false → (a || b) ≡ false
or_neither true b h g = h
or_neither false b h g = g

not_false : (a : Bool) → a ≡ false → not a ≡ true
not_false true h = cc
not_false false h = refl

-- what passes one test passes a weaker one
all_weaker : {X : Type 0} (f g : X → Bool) → ((x : X) → f x ≡ true → g x ≡ true) → (xs : List X) → list_all f xs ≡ true → list_all g xs ≡ true
all_weaker f g h [] e = refl
all_weaker f g h (x ∷ xs) e = all_in (f x) (g x) (list_all f xs) (list_all g xs) (h x) (all_weaker f g h xs) e
  where
    all_in : (a b c d : Bool) → (a ≡ true → b ≡ true) → (c ≡ true → d ≡ true) → (a && c) ≡ true → (b && d) ≡ true
    all_in true b c d h g e = and_true b d (h refl) (g e)
    all_in false b c d h g e = cc

-- ---- no id twice

other : (a b : ℕ) → a < b → (a == b) ≡ false
other a b h = grind (arith, nat_tests)

not_named : (e : Entry) (es : List Entry) → AllAbove e.spec.id es → list_any (names_same (as_listed e)) (listing es) ≡ false
unfolding AllAbove
not_named e [] h = refl
not_named e (x ∷ xs) h = or_neither (names_same (as_listed e) (as_listed x)) (list_any (names_same (as_listed e)) (listing xs)) (other e.spec.id x.spec.id h.0) (not_named e xs h.1)

none_twice : (table : List Entry) → IsRising table → names_none_twice (listing table) ≡ true
unfolding names_none_twice IsRising
none_twice [] h = refl
none_twice (e ∷ es) h = and_true _ _ (not_false _ (not_named e es h.0)) (none_twice es h.1)

-- ---- the same pairs

abbrev viewed : Entry → Viewed
viewed e = record { id = e.spec.id; state = e.state }

shows_itself : (e : Entry) → shows (as_listed e) (viewed e) ≡ true
shows_itself e = and_true (e.spec.id == e.spec.id) (state_number e.state == state_number e.state) (eq-eqb e.spec.id e.spec.id refl) (eq-eqb (state_number e.state) (state_number e.state) refl)

all_seen : (table : List Entry) → list_all (λ t. list_any (shows t) (states table)) (listing table) ≡ true
all_seen [] = refl
all_seen (e ∷ es) =
    and_true _ _ (or_left _ _ (shows_itself e))
    (all_weaker (λ (t : Tree). list_any (shows t) (states es)) (λ (t : Tree). list_any (shows t) (viewed e ∷ states es)) (λ t. or_right (shows t (viewed e)) (list_any (shows t) (states es))) (listing es) (all_seen es))

all_listed : (table : List Entry) → list_all (λ v. list_any (λ t. shows t v) (listing table)) (states table) ≡ true
all_listed [] = refl
all_listed (e ∷ es) =
    and_true _ _ (or_left _ _ (shows_itself e))
    (all_weaker (λ (v : Viewed). list_any (λ t. shows t v) (listing es)) (λ (v : Viewed). list_any (λ t. shows t v) (as_listed e ∷ listing es)) (λ v. or_right (shows (as_listed e) v) (list_any (λ t. shows t v) (listing es))) (states es) (all_listed es))

pub listing_is_view : (table : List Entry) → IsRising table → is_view (listing table) (states table) ≡ true
listing_is_view table h = and_true _ _ (none_twice table h) (and_true _ _ (all_seen table) (all_listed table))
