-- The items of octets that are read twice.
use Rattle.std.proofs.Common.{◌≡◌, ℕ, List, [], ◌∷◌, ◌++◌, length, ◌⊎◌, inl, inr, refl, sym, subst, ◌∙◌, append_assoc, arith}
use Rattle.std.proofs.lemmas.List.{append-nil, append_cancel_left}
use Rattle.llrp_schema.specs.declared.kinds.KindSet.TheVariants.{Standard}
use Rattle.llrp_stream.specs.Cuts.{Breaks, EndsStream, IsPartial}
use Rattle.llrp_stream.specs.Items.{ItemsIn, ItemsSoFarIn}
use Rattle.llrp_stream.specs.declared.item.End.{End}
use Rattle.llrp_stream.specs.declared.item.End.TheVariants.{Clean, Rest, Broken}
use Rattle.llrp_stream.specs.declared.item.Item.{Item}
use Rattle.llrp_stream.proofs.RunLemmas.{items_grow}
use Rattle.llrp_stream.proofs.Unique.{same_items}

-- ---- lists with one element more

pub one_or_none : (a more later : List Item) (item : Item) → a ++ item ∷ [] ≡ (a ++ more) ++ later → (more ≡ []) ⊎ (more ≡ item ∷ [])
one_or_none a more later item e = by more (append_cancel_left a (item ∷ []) (more ++ later) (e ∙ append_assoc a more later))
  where
    by : (more : List Item) → item ∷ [] ≡ more ++ later → (more ≡ []) ⊎ (more ≡ item ∷ [])
    by [] e = inl refl
    by (x ∷ []) e = inr (let heads : x ≡ item = cc in rw heads refl)
    by (x ∷ (y ∷ m)) e = absurd cc

pub none_more : (a more later : List Item) → a ≡ (a ++ more) ++ later → more ≡ []
none_more a more later e = by more (append_cancel_left a [] (more ++ later) (append-nil a ∙ e ∙ append_assoc a more later))
  where
    by : (more : List Item) → [] ≡ more ++ later → more ≡ []
    by [] e = refl
    by (x ∷ m) e = absurd cc

pub not_none : (more : List Item) (last : Item) → more ++ last ∷ [] ≡ [] → ⊥
not_none [] last e = cc
not_none (x ∷ m) last e = cc

only : (more : List Item) (last item : Item) → more ++ last ∷ [] ≡ item ∷ [] → (more ≡ []) × (last ≡ item)
only [] last item e = (refl, cc)
only (x ∷ m) last item e = absurd (let tails : m ++ last ∷ [] ≡ [] = cc in not_none m last tails)

pub closing_one : (a more later : List Item) (last item : Item) → a ++ item ∷ [] ≡ (a ++ (more ++ last ∷ [])) ++ later → (more ≡ []) × (last ≡ item)
closing_one a more later last item e = elim (one_or_none a (more ++ last ∷ []) later item e) [
  | inl none ↦ absurd (not_none more last none)
  | inr one ↦ only more last item one
]

pub is_one : (a more : List Item) (item : Item) → a ++ more ≡ a ++ item ∷ [] → more ≡ item ∷ []
is_one a more item e = append_cancel_left a more (item ∷ []) e

-- ---- octets that are less than a frame

pub partial_none : IsPartial []
partial_none = inl (omega arith)

-- how they end
pub record Ends (rest : List ℕ) : Type 0 where
  pub end : End
  pub ends : EndsStream rest end
  pub whole : end ≡ Broken → ⊥

pub unfinished : (rest : List ℕ) → IsPartial rest → Ends rest
unfinished [] p = record { end = Clean; ends = refl; whole = λ e. cc }
unfinished (b ∷ bytes) p = record { end = Rest (length (b ∷ bytes)); ends = (refl, omega arith, p); whole = λ e. cc }

module _ (limit : ℕ) (bytes : List ℕ) (items : List Item) (rest : List ℕ) (are : ItemsSoFarIn Standard limit bytes items rest) (partial : IsPartial rest) where
  all : (e : Ends rest) → ItemsIn Standard limit bytes items e.end
  all e = (items_grow limit).at_the_end bytes items rest e.end are e.ends

  -- they have one list of items
  pub same_so_far : (others : List Item) (tail : List ℕ) → ItemsSoFarIn Standard limit bytes others tail → IsPartial tail → others ≡ items
  same_so_far others tail so part =
      let e = unfinished rest partial in
      let f = unfinished tail part in
      (same_items limit bytes items others e.end f.end (all e) ((items_grow limit).at_the_end bytes others tail f.end so f.ends)).0

  -- they do not break
  pub no_break : (others : List Item) (tail : List ℕ) → ItemsSoFarIn Standard limit bytes others tail → Breaks tail → ⊥
  no_break others tail so breaks =
      let e = unfinished rest partial in
      e.whole (sym (same_items limit bytes items others e.end Broken (all e) ((items_grow limit).at_the_end bytes others tail Broken so breaks)).1)

  -- and the items of a front come first
  pub come_first : (front later : List ℕ) (others : List Item) (tail : List ℕ) → bytes ≡ front ++ later → ItemsSoFarIn Standard limit front others tail → (more : List Item) × (items ≡ others ++ more)
  come_first front later others tail parts so =
      let e = unfinished rest partial in
      (items_grow limit).come_first front later others items tail e.end so (subst (λ (x : List ℕ). ItemsIn Standard limit x items e.end) parts (all e))
