-- What the code does to a table, as the definitions have it.
use Rattle.std.proofs.Common.{◌≡◌, ℕ, zero, suc, ◌+◌, ◌<◌, ◌≤◌, refl, sym, ◌∙◌, ap, List, [], ◌∷◌, ◌++◌, length, take, drop, set, get_or, arith, add-one, Bool, true, false}
use Rattle.std.specs.Prelude.{filter, not, nat_lt, ◌==◌, None, Some, if◌then◌else◌}
use Rattle.std.specs.List.{insert}
use Rattle.llrp_tree.specs.Tree.{Tree}
use Rattle.llrp_session.specs.RoSpec.{RoSpec}
use Rattle.llrp_session.specs.Table.{Entry, RoState, Disabled, names, change, without, enter, state_of, octets_of}
use Rattle.llrp_session.specs.Calls.LawfulWords.{AreReports, IsReport}
use Rattle.llrp_session.specs.Private.ReaderParts.{place_of}

-- ---- a loop that changes the states from the front

change_one : (f : ℕ → RoState → RoState) (es : List Entry) (i : ℕ) (d : Entry) → i < length es
    → set (change f (take i es) ++ drop i es) i (record { spec = (get_or (change f (take i es) ++ drop i es) i d).spec; state = f (get_or (change f (take i es) ++ drop i es) i d).spec.id (get_or (change f (take i es) ++ drop i es) i d).state })
    ≡ change f (take (suc i) es) ++ drop (suc i) es
unfolding change
change_one f [] i d h = absurd (omega arith)
change_one f (e ∷ es) zero d h = refl
change_one f (e ∷ es) (suc i) d h = ap (λ rest. record { spec = e.spec; state = f e.spec.id e.state } ∷ rest) (change_one f es i d (omega arith))

pub changed_one : (f : ℕ → RoState → RoState) (es now : List Entry) (i : ℕ) (d : Entry) (s : RoState) → i < length es → now ≡ change f (take i es) ++ drop i es → s ≡ f (get_or now i d).spec.id (get_or now i d).state
    → set now i (record { spec = (get_or now i d).spec; state = s }) ≡ change f (take (i + 1) es) ++ drop (i + 1) es
changed_one f es now i d s h is e =
    ap (λ to. set now i (record { spec = (get_or now i d).spec; state = to })) e
    ∙ ap (λ zs. set zs i (record { spec = (get_or zs i d).spec; state = f (get_or zs i d).spec.id (get_or zs i d).state })) is
    ∙ change_one f es i d h
    ∙ ap (λ n. change f (take n es) ++ drop n es) (sym (add-one i))

pub changed_all : (f : ℕ → RoState → RoState) (es : List Entry) (n : ℕ) → n ≡ length es → change f (take n es) ++ drop n es ≡ change f es
unfolding change
changed_all f [] n h = rw h refl
changed_all f (e ∷ es) n h = rw h (ap (λ rest. record { spec = e.spec; state = f e.spec.id e.state } ∷ rest) (changed_all f es (length es) refl))

-- ---- entries that leave

abbrev pub is_left : ℕ → Entry → Bool
is_left n e = not (names n e.spec.id)

pub without-filter : (n : ℕ) (es : List Entry) → without n es ≡ filter (is_left n) es
unfolding without
without-filter n [] = refl
without-filter n (e ∷ es) =
    elim (names n e.spec.id) as (λ b. (if b then without n es else e ∷ without n es) ≡ (if not b then e ∷ filter (is_left n) es else filter (is_left n) es)) [
      | true ↦ without-filter n es
      | false ↦ ap (λ rest. e ∷ rest) (without-filter n es)
    ]

-- ---- a ROSpec is entered

abbrev entered : RoSpec → Entry
entered s = record { spec = s; state = Disabled }

pub place-le : (id : ℕ) (es : List Entry) → place_of id es ≤ length es
unfolding place_of
place-le id [] = omega arith
place-le id (e ∷ es) =
    elim (nat_lt id e.spec.id) as (λ b. (if b then 0 else place_of id es + 1) ≤ suc (length es)) [ true ↦ omega arith | false ↦ let h = place-le id es in omega arith ]

abbrev enter_in : Bool → Bool → RoSpec → Entry → List Entry → List Entry
enter_in same less s e es = if same then entered s ∷ es else (if less then entered s ∷ e ∷ es else e ∷ enter s es)

pub enter-insert : (s : RoSpec) (es : List Entry) → state_of s.id es ≡ None → enter s es ≡ insert es (place_of s.id es) (entered s)
unfolding enter place_of state_of
enter-insert s [] h = refl
enter-insert s (e ∷ es) h =
    elim (s.id == e.spec.id) as (λ same. (if same then Some e.state else state_of s.id es) ≡ None → enter_in same (nat_lt s.id e.spec.id) s e es ≡ insert (e ∷ es) (if nat_lt s.id e.spec.id then 0 else place_of s.id es + 1) (entered s)) [
      | true ↦ λ g. cc
      | false ↦ λ g. elim (nat_lt s.id e.spec.id) as (λ less. enter_in false less s e es ≡ insert (e ∷ es) (if less then 0 else place_of s.id es + 1) (entered s)) [
        | true ↦ refl
        | false ↦ ap (λ rest. e ∷ rest) (enter-insert s es g) ∙ ap (λ n. insert (e ∷ es) n (entered s)) (sym (add-one (place_of s.id es)))
      ]
    ] h

-- ---- lengths

pub octets-change : (f : ℕ → RoState → RoState) (es : List Entry) → octets_of (change f es) ≡ octets_of es
unfolding octets_of change
octets-change f [] = refl
octets-change f (e ∷ es) = ap (λ n. e.spec.octets + n) (octets-change f es)

pub octets-without : (n : ℕ) (es : List Entry) → octets_of (without n es) ≤ octets_of es
unfolding octets_of without
octets-without n [] = omega arith
octets-without n (e ∷ es) =
    elim (names n e.spec.id) as (λ b. octets_of (if b then without n es else e ∷ without n es) ≤ e.spec.octets + octets_of es) [ true ↦ let h = octets-without n es in omega arith | false ↦ let h = octets-without n es in omega arith ]

pub octets-enter : (s : RoSpec) (es : List Entry) → octets_of (enter s es) ≤ octets_of es + s.octets
unfolding octets_of enter
octets-enter s [] = omega arith
octets-enter s (e ∷ es) =
    elim (s.id == e.spec.id) as (λ same. octets_of (enter_in same (nat_lt s.id e.spec.id) s e es) ≤ (e.spec.octets + octets_of es) + s.octets) [
      | true ↦ omega arith
      | false ↦ elim (nat_lt s.id e.spec.id) as (λ less. octets_of (enter_in false less s e es) ≤ (e.spec.octets + octets_of es) + s.octets) [
        | true ↦ omega arith
        | false ↦ let h = octets-enter s es in omega arith
      ]
    ]

-- ---- reports

pub AreReports-append : (ts : List Tree) (t : Tree) → AreReports ts → IsReport t → AreReports (ts ++ t ∷ [])
AreReports-append [] t h k = (k, tt)
AreReports-append (u ∷ us) t h k = (h.0, AreReports-append us t h.1 k)
