-- What a change of the table is to its states.
use Rattle.std.proofs.Common.{◌≡◌, ℕ, refl, ap, true, false, cond, List, [], ◌∷◌}
use Rattle.std.specs.Prelude.{◌==◌, nat_lt}
use Rattle.llrp_session.specs.RoSpec.{RoSpec}
use Rattle.llrp_session.specs.Table.{RoState, Entry, Viewed, Disabled, states, change, change_view, without, view_without, enter, enter_view, names}

pub states-change : (f : ℕ → RoState → RoState) (t : List Entry) → states (change f t) ≡ change_view f (states t)
unfolding change change_view
states-change f [] = refl
states-change f (e ∷ es) = ap (λ rest. record { id = e.spec.id; state = f e.spec.id e.state } ∷ rest) (states-change f es)

pub states-without : (n : ℕ) (t : List Entry) → states (without n t) ≡ view_without n (states t)
unfolding without view_without
states-without n [] = refl
states-without n (e ∷ es) =
    elim (names n e.spec.id) as (λ b. states (cond b (without n es) (e ∷ without n es)) ≡ cond b (view_without n (states es)) (record { id = e.spec.id; state = e.state } ∷ view_without n (states es))) [
      | true ↦ states-without n es
      | false ↦ ap (λ rest. record { id = e.spec.id; state = e.state } ∷ rest) (states-without n es)
    ]

pub states-enter : (s : RoSpec) (t : List Entry) → states (enter s t) ≡ enter_view s.id (states t)
unfolding enter enter_view
states-enter s [] = refl
states-enter s (e ∷ es) =
    let new : Viewed = record { id = s.id; state = Disabled } in
    let old : Viewed = record { id = e.spec.id; state = e.state } in
    let entry : Entry = record { spec = s; state = Disabled } in
    elim (s.id == e.spec.id) as (λ a. states (cond a (entry ∷ es) (cond (nat_lt s.id e.spec.id) (entry ∷ e ∷ es) (e ∷ enter s es))) ≡ cond a (new ∷ states es) (cond (nat_lt s.id e.spec.id) (new ∷ old ∷ states es) (old ∷ enter_view s.id (states es)))) [
      | true ↦ refl
      | false ↦ elim (nat_lt s.id e.spec.id) as (λ b. states (cond b (entry ∷ e ∷ es) (e ∷ enter s es)) ≡ cond b (new ∷ old ∷ states es) (old ∷ enter_view s.id (states es))) [
        | true ↦ refl
        | false ↦ ap (λ rest. old ∷ rest) (states-enter s es)
      ]
    ]
