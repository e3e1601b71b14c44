-- Messages with a place.
use Rattle.std.proofs.Common.{◌≡◌, ℕ, ◌+◌, ◌<◌, List, [], ◌∷◌, ◌++◌, length, take, get_or, sym, ap, ◌∙◌}
use Rattle.std.proofs.lemmas.List.{take_more}
use Rattle.llrp_tree.specs.Tree.{MessageTree}
use Rattle.llrp_live.specs.declared.fault_places.FaultPlace.{FaultPlace}
use Rattle.llrp_general.specs.Calls.Located.{MaySay, WithPlace}
use Rattle.llrp_listing.proofs.Zips.{zip_append}

-- one message more, with the place or as it is
pub placed_step : (place : FaultPlace) (said : List MessageTree) (i : ℕ) (m s : MessageTree) (sent : List MessageTree) → i < length said → m ≡ get_or said i m → WithPlace place (take i said) sent → MaySay place m s
    → WithPlace place (take (i + 1) said) (sent ++ s ∷ [])
placed_step place said i m s sent within is so one =
    let front : take (i + 1) said ≡ take i said ++ m ∷ [] = take_more said i m within ∙ ap (λ (x : MessageTree). take i said ++ x ∷ []) (sym is) in
    rw front (zip_append (MaySay place) (take i said) (m ∷ []) sent (s ∷ []) so (one, tt))
