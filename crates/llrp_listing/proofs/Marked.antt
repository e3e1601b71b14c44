-- A text after a mark.
use Rattle.std.proofs.Common.{◌≡◌, ℕ, List, [], ◌++◌, length, take, drop, refl, sym, ap, subst, ◌∙◌, arith}
use Rattle.std.proofs.lemmas.List.{append-nil, take-append-drop, take_all, drop_all}
use Rattle.llrp_listing.specs.Calls.ItemPrinter.{IsMarked}

abbrev is_none : List ℕ → Type 0
is_none rest = rest ≡ []

-- more is appended, up to which the mark goes
pub marked_more : (mark place : ℕ) (text new was more : List ℕ) → IsMarked mark text was is_none → new ≡ text ++ more → place ≡ length new → IsMarked place new (was ++ more) is_none
marked_more mark place text new was more m e all =
    let same : text ≡ was = sym (take-append-drop mark text) ∙ ap (λ (x : List ℕ). take mark text ++ x) m.2 ∙ append-nil (take mark text) ∙ m.1 in
    (omega (arith, all), take_all place new (omega (arith, all)) ∙ e ∙ ap (λ (x : List ℕ). x ++ more) same, drop_all place new (omega (arith, all)))

-- what is before the mark is removed
pub front_removed : (mark place : ℕ) (text new was : List ℕ) (IsRest : List ℕ → Type 0) → new ≡ drop mark text → place ≡ 0 → IsMarked mark text was IsRest → IsMarked place new [] IsRest
front_removed mark place text new was IsRest e none m = subst (λ (n : ℕ). IsMarked n new [] IsRest) (sym none) (omega arith, refl, subst IsRest (sym e) m.2)
