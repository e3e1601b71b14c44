-- Lines of objects, each with a head, octet by octet.
use Rattle.std.proofs.Common.{◌≡◌, ℕ, ◌+◌, ◌<◌, ◌≤◌, ◌==◌, Bool, List, ◌∷◌, ◌++◌, length, drop, get_or, refl, sym, ap, ◌∙◌, add-one, append_assoc, drop-cons}
use Rattle.std.proofs.lemmas.List.{append-nil, drop_all}
use Rattle.llrp_endpoints.specs.MarkedLines.{opened, with_heads}

pub heads_step : (head lines text0 text1 all : List ℕ) (begins : Bool) (i : ℕ) → i < length lines → text0 ++ with_heads begins head (drop i lines) ≡ all → text1 ≡ text0 ++ opened begins head (get_or lines i 0)
    → text1 ++ with_heads (get_or lines i 0 == 10) head (drop (i + 1) lines) ≡ all
heads_step head lines text0 text1 all begins i within before one =
    let c = get_or lines i 0 in
    let later = with_heads (c == 10) head (drop (i + 1) lines) in
    let split : drop i lines ≡ c ∷ drop (i + 1) lines = rw (add-one, drop-cons lines i 0) refl in
    ap (λ (x : List ℕ). x ++ later) one ∙ append_assoc text0 (opened begins head c) later ∙ ap (λ (x : List ℕ). text0 ++ with_heads begins head x) (sym split) ∙ before

pub heads_end : (head lines text all : List ℕ) (begins : Bool) (i : ℕ) → length lines ≤ i → text ++ with_heads begins head (drop i lines) ≡ all → text ≡ all
heads_end head lines text all begins i over before = sym (append-nil text) ∙ ap (λ (x : List ℕ). text ++ with_heads begins head x) (sym (drop_all i lines over)) ∙ before
