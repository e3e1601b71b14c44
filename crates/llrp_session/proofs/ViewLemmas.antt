-- A client's view, as far as the code has gone over it.
use Rattle.std.proofs.Common.{◌≡◌, ℕ, ◌+◌, ◌<◌, ◌≤◌, refl, sym, ◌∙◌, ap, true, false, cond, List, [], ◌∷◌, ◌++◌, length, map, take, drop, get_or, add-one, arith, append_assoc}
use Rattle.std.specs.Prelude.{◌==◌, nat_lt, slice_index_or, slice_set, filter, not}
use Rattle.std.specs.List.{insert}
use Rattle.std.proofs.lemmas.List.{append-nil, drop_all, drop_more, get_or_default, set_split, take-append-le, take_all, take_more}
use Rattle.std.proofs.lemmas.List.Edits.{map_over_more}
use Rattle.std.proofs.lemmas.Bool.Decides.{nat_tests}
use Rattle.llrp_session.specs.Table.{Viewed, RoState, names, change_view, view_without, enter_view, new_viewed}

-- ---- each state is changed

abbrev pub changed : (ℕ → RoState → RoState) → Viewed → Viewed
changed f v = record { id = v.id; state = f v.id v.state }

change_view-map : (f : ℕ → RoState → RoState) (vs : List Viewed) → change_view f vs ≡ map (changed f) vs
unfolding change_view
change_view-map f [] = refl
change_view-map f (v ∷ vs) = ap (λ rest. changed f v ∷ rest) (change_view-map f vs)

-- the first i states are changed
abbrev pub changed_below : (ℕ → RoState → RoState) → ℕ → List Viewed → List Viewed
changed_below f i vs = map (changed f) (take i vs) ++ drop i vs

pub changed_below-more : (f : ℕ → RoState → RoState) (vs now : List Viewed) (i : ℕ) (d : Viewed) (s : RoState)
    → i < length vs → i < length now → now ≡ changed_below f i vs
    → s ≡ f (slice_index_or now i d).id (slice_index_or now i d).state
    → slice_set now i (record { id = (slice_index_or now i d).id; state = s }) ≡ changed_below f (i + 1) vs
changed_below-more f vs now i d s lt inside is now_is =
    let x = slice_index_or now i d in
    ap (λ (state : RoState). slice_set now i (record { id = x.id; state = state })) now_is
    ∙ map_over_more (changed f) vs now i x lt is (get_or_default now i d x inside)

changed_below-all : (f : ℕ → RoState → RoState) (vs : List Viewed) (i : ℕ) → length vs ≤ i → changed_below f i vs ≡ change_view f vs
changed_below-all f vs i le =
    ap (λ l. map (changed f) l ++ drop i vs) (take_all i vs le) ∙ ap (λ l. map (changed f) vs ++ l) (drop_all i vs le)
    ∙ append-nil (map (changed f) vs) ∙ sym (change_view-map f vs)

-- the vector once all of its entries are changed
pub changed_below-written : (f : ℕ → RoState → RoState) (n i : ℕ) (vs start now : List Viewed)
    → start ≡ vs → length start ≡ n → length start ≤ i → length now ≡ length start → now ≡ changed_below f i start
    → take n (now ++ drop (length now) vs) ≡ change_view f vs
changed_below-written f n i vs start now same long le alike is =
    take-append-le n now (drop (length now) vs) (omega arith) ∙ take_all n now (omega arith)
    ∙ is ∙ changed_below-all f start i le ∙ ap (change_view f) same

-- ---- a ROSpec is entered

entered-at : (id : ℕ) (v : Viewed) (vs : List Viewed) → id ≡ v.id → enter_view id (v ∷ vs) ≡ new_viewed id ∷ vs
unfolding enter_view
entered-at id v vs same = let e : (id == v.id) ≡ true = grind (arith, nat_tests) in rw e refl

entered-before : (id : ℕ) (v : Viewed) (vs : List Viewed) → id < v.id → enter_view id (v ∷ vs) ≡ new_viewed id ∷ v ∷ vs
unfolding enter_view
entered-before id v vs below =
    let e : (id == v.id) ≡ false = grind (arith, nat_tests) in
    let l : nat_lt id v.id ≡ true = grind (arith, nat_tests) in
    rw (e, l) refl

entered-past : (id : ℕ) (v : Viewed) (vs : List Viewed) → v.id < id → enter_view id (v ∷ vs) ≡ v ∷ enter_view id vs
unfolding enter_view
entered-past id v vs above =
    let e : (id == v.id) ≡ false = grind (arith, nat_tests) in
    let l : nat_lt id v.id ≡ false = grind (arith, nat_tests) in
    rw (e, l) refl

-- entering starts at the entry at i, since those before it have lower ids
abbrev pub StartsAt : ℕ → ℕ → List Viewed → Type 0
StartsAt id i vs = enter_view id vs ≡ take i vs ++ enter_view id (drop i vs)

at_entry : (id i : ℕ) (vs : List Viewed) (d : Viewed) → i < length vs → StartsAt id i vs
    → enter_view id vs ≡ take i vs ++ enter_view id (get_or vs i d ∷ drop (i + 1) vs)
at_entry id i vs d lt starts = starts ∙ ap (λ l. take i vs ++ enter_view id l) (drop_more vs i d lt)

pub enter_view-at : (id i : ℕ) (vs : List Viewed) (d : Viewed) → i < length vs → StartsAt id i vs
    → id ≡ (slice_index_or vs i d).id → enter_view id vs ≡ slice_set vs i (new_viewed id)
enter_view-at id i vs d lt starts same =
    at_entry id i vs d lt starts ∙ ap (λ l. take i vs ++ l) (entered-at id (get_or vs i d) (drop (i + 1) vs) same)
    ∙ ap (λ k. take i vs ++ new_viewed id ∷ drop k vs) (add-one i) ∙ sym (set_split vs i (new_viewed id) lt)

pub enter_view-before : (id i : ℕ) (vs : List Viewed) (d : Viewed) → i < length vs → StartsAt id i vs
    → id < (slice_index_or vs i d).id → enter_view id vs ≡ insert vs i (new_viewed id)
enter_view-before id i vs d lt starts below =
    at_entry id i vs d lt starts ∙ ap (λ l. take i vs ++ l) (entered-before id (get_or vs i d) (drop (i + 1) vs) below)
    ∙ ap (λ l. take i vs ++ new_viewed id ∷ l) (sym (drop_more vs i d lt))

pub enter_view-past : (id i : ℕ) (vs : List Viewed) (d : Viewed) → i < length vs → StartsAt id i vs
    → (slice_index_or vs i d).id < id → StartsAt id (i + 1) vs
enter_view-past id i vs d lt starts above =
    at_entry id i vs d lt starts ∙ ap (λ l. take i vs ++ l) (entered-past id (get_or vs i d) (drop (i + 1) vs) above)
    ∙ sym (append_assoc (take i vs) (get_or vs i d ∷ []) (enter_view id (drop (i + 1) vs)))
    ∙ ap (λ l. l ++ enter_view id (drop (i + 1) vs)) (sym (take_more vs i d lt))

pub enter_view-last : (id i : ℕ) (vs : List Viewed) → length vs ≤ i → StartsAt id i vs
    → enter_view id vs ≡ insert vs i (new_viewed id)
unfolding enter_view
enter_view-last id i vs le starts =
    starts ∙ ap (λ l. take i vs ++ enter_view id l) (drop_all i vs le) ∙ ap (λ l. take i vs ++ new_viewed id ∷ l) (sym (drop_all i vs le))

-- ---- those named are removed

pub view_without-filter : (n : ℕ) (vs : List Viewed) → view_without n vs ≡ filter (λ v. not (names n v.id)) vs
unfolding view_without
view_without-filter n [] = refl
view_without-filter n (v ∷ vs) =
    let rest = filter (λ w. not (names n w.id)) vs in
    elim (names n v.id) as (λ b. cond b (view_without n vs) (v ∷ view_without n vs) ≡ cond (not b) (v ∷ rest) rest) [
      | true ↦ view_without-filter n vs
      | false ↦ ap (λ l. v ∷ l) (view_without-filter n vs)
    ]

-- ---- the lemmas of a loop

pub ruleset changing = (changed_below-more, changed_below-written)

pub ruleset entering = (enter_view-at, enter_view-before, enter_view-past, enter_view-last)
