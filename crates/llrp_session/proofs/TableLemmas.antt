-- What a change of a table is to the state of an id.
use Rattle.std.proofs.Common.{◌≡◌, ℕ, refl, sym, ◌∙◌, ap, true, false, cond, List, [], ◌∷◌, arith}
use Rattle.std.specs.Prelude.{◌==◌, nat_lt, Option, None, Some}
use Rattle.std.specs.Option.{option_map}
use Rattle.std.proofs.lemmas.Bool.Decides.{nat_tests}
use Rattle.llrp_schema.specs.declared.kinds.ParamKind.TheVariants.{RoSpec as RoSpecKind}
use Rattle.llrp_tree.specs.Tree.{none}
use Rattle.llrp_session.specs.RoSpec.{RoSpec}
use Rattle.llrp_session.specs.Table.{Entry, Viewed, RoState, Disabled, states, names, state_of, enter, change, without, viewed_state, enter_view, change_view, view_without}
use Rattle.llrp_session.specs.Calls.TableLaws.{EntersOne, ChangesEach, RemovesThoseNamed, EntersOneInView, ChangesEachInView, RemovesThoseNamedInView, SeesEach}
use Rattle.llrp_session.proofs.States.{states-enter, states-change, states-without}
use Rattle.llrp_session.proofs.Orderly.{eq-true}

same_as : (a b c : ℕ) → (a == b) ≡ true → (c == a) ≡ false → (c == b) ≡ false
same_as a b c h g = grind (arith, nat_tests)

not_both : (a b c : ℕ) → (a == b) ≡ false → (c == b) ≡ true → (c == a) ≡ false
not_both a b c h g = grind (arith, nat_tests)

-- ---- the table

pub state_of-change : ChangesEach
unfolding state_of change
state_of-change f [] id = refl
state_of-change f (e ∷ es) id =
    elim (id == e.spec.id) as (λ b. (id == e.spec.id) ≡ b → cond b (Some (f e.spec.id e.state)) (state_of id (change f es)) ≡ option_map (f id) (cond b (Some e.state) (state_of id es))) [
      | true ↦ λ h. ap (λ i. Some (f i e.state)) (sym (eq-true id e.spec.id h))
      | false ↦ λ h. state_of-change f es id
    ] refl

pub state_of-enter : EntersOne
unfolding state_of enter
state_of-enter s [] id = refl
state_of-enter s (e ∷ es) id =
    let new : Entry = record { spec = s; state = Disabled } in
    let wanted : Option RoState = cond (id == s.id) (Some Disabled) (cond (id == e.spec.id) (Some e.state) (state_of id es)) in
    elim (s.id == e.spec.id) as (λ a. (s.id == e.spec.id) ≡ a → state_of id (cond a (new ∷ es) (cond (nat_lt s.id e.spec.id) (new ∷ e ∷ es) (e ∷ enter s es))) ≡ wanted) [
      | true ↦ λ same. elim (id == s.id) as (λ b. (id == s.id) ≡ b → cond b (Some Disabled) (state_of id es) ≡ cond b (Some Disabled) (cond (id == e.spec.id) (Some e.state) (state_of id es))) [
        | true ↦ λ h. refl
        | false ↦ λ h. ap (λ b. cond b (Some e.state) (state_of id es)) (sym (same_as s.id e.spec.id id same h))
      ] refl
      | false ↦ λ other. elim (nat_lt s.id e.spec.id) as (λ a. state_of id (cond a (new ∷ e ∷ es) (e ∷ enter s es)) ≡ wanted) [
        | true ↦ refl
        | false ↦ elim (id == e.spec.id) as (λ b. (id == e.spec.id) ≡ b → cond b (Some e.state) (state_of id (enter s es)) ≡ cond (id == s.id) (Some Disabled) (cond b (Some e.state) (state_of id es))) [
          | true ↦ λ h. ap (λ b. cond b (Some Disabled) (Some e.state)) (sym (not_both s.id e.spec.id id other h))
          | false ↦ λ h. state_of-enter s es id
        ] refl
      ]
    ] refl

named_by : (n a b : ℕ) → (a == b) ≡ true → names n b ≡ names n a
named_by n a b h = ap (names n) (sym (eq-true a b h))

pub state_of-without : RemovesThoseNamed
unfolding state_of without
state_of-without n [] id = let none : Option RoState = None in elim (names n id) as (λ b. none ≡ cond b None none) [ true ↦ refl | false ↦ refl ]
state_of-without n (e ∷ es) id =
    elim (id == e.spec.id) as (λ b. (id == e.spec.id) ≡ b → state_of id (cond (names n e.spec.id) (without n es) (e ∷ without n es)) ≡ cond (names n id) None (cond b (Some e.state) (state_of id es))) [
      | true ↦ λ h. elim (names n id) as (λ a. names n id ≡ a → state_of id (cond (names n e.spec.id) (without n es) (e ∷ without n es)) ≡ cond a None (Some e.state)) [
        | true ↦ λ g. rw (named_by n id e.spec.id h ∙ g) (state_of-without n es id ∙ ap (λ b. cond b None (state_of id es)) g)
        | false ↦ λ g. rw (named_by n id e.spec.id h ∙ g, h) refl
      ] refl
      | false ↦ λ h. elim (names n e.spec.id) as (λ a. state_of id (cond a (without n es) (e ∷ without n es)) ≡ cond (names n id) None (state_of id es)) [
        | true ↦ state_of-without n es id
        | false ↦ rw h (state_of-without n es id)
      ]
    ] refl

-- ---- the view, by a table with its states

pub viewed_state-states : SeesEach
unfolding viewed_state state_of
viewed_state-states [] id = refl
viewed_state-states (e ∷ es) id = ap (λ o. cond (id == e.spec.id) (Some e.state) o) (viewed_state-states es id)

-- a ROSpec with this id
rospec_with_id : ℕ → RoSpec
rospec_with_id id = record { tree = record { kind = RoSpecKind; fields = []; tail = []; children = none }; id = id; current_state = 0; start_trigger = 0; stop_trigger = 0; duration = 0; has_ai_stop = false; antennas = []; inventory = 0; report = None; octets = 0 }

table_of : List Viewed → List Entry
table_of [] = []
table_of (v ∷ vs) = record { spec = rospec_with_id v.id; state = v.state } ∷ table_of vs

states-table_of : (view : List Viewed) → states (table_of view) ≡ view
unfolding table_of rospec_with_id
states-table_of [] = refl
states-table_of (v ∷ vs) = ap (λ rest. v ∷ rest) (states-table_of vs)

-- what is seen of a view is the state in its table
seen_in_table : (view : List Viewed) (id : ℕ) → state_of id (table_of view) ≡ viewed_state id view
seen_in_table view id = sym (viewed_state-states (table_of view) id) ∙ ap (viewed_state id) (states-table_of view)

pub viewed_state-change_view : ChangesEachInView
viewed_state-change_view f view id =
    let table = table_of view in
    ap (λ vs. viewed_state id (change_view f vs)) (sym (states-table_of view)) ∙ ap (viewed_state id) (sym (states-change f table)) ∙ viewed_state-states (change f table) id
    ∙ state_of-change f table id ∙ ap (option_map (f id)) (seen_in_table view id)

pub viewed_state-enter_view : EntersOneInView
unfolding rospec_with_id
viewed_state-enter_view new view id =
    let table = table_of view in
    let s = rospec_with_id new in
    ap (λ vs. viewed_state id (enter_view new vs)) (sym (states-table_of view)) ∙ ap (viewed_state id) (sym (states-enter s table)) ∙ viewed_state-states (enter s table) id
    ∙ state_of-enter s table id ∙ ap (λ o. cond (id == new) (Some Disabled) o) (seen_in_table view id)

pub viewed_state-view_without : RemovesThoseNamedInView
viewed_state-view_without n view id =
    let table = table_of view in
    ap (λ vs. viewed_state id (view_without n vs)) (sym (states-table_of view)) ∙ ap (viewed_state id) (sym (states-without n table)) ∙ viewed_state-states (without n table) id
    ∙ state_of-without n table id ∙ ap (λ o. cond (names n id) None o) (seen_in_table view id)
