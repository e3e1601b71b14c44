-- The line of a pause has one time at most, by the place of its point.
use Rattle.std.proofs.Common.{◌≡◌, ℕ, ◌+◌, ◌*◌, ◌≤◌, List, [], ◌∷◌, ◌++◌, length, Option, Some, None, refl, sym, ap, subst, ◌∙◌, inl, inr, arith, length-append}
use Rattle.std.specs.Prelude.{MatchOption, decimal}
use Rattle.llrp_listing.specs.Calls.Splits.{Lacks, IsSplit}
use Rattle.llrp_listing.proofs.SplitWords.{lacks_not, one_split, decimal_lacks}
use Rattle.llrp_ask.specs.declared.pause.TheConstants.{MOST_SECONDS}
use Rattle.llrp_ask.specs.Calls.Pause.{IsTime, IsPause}

-- ---- words

abbrev pub NoSplitTime : List ℕ → List ℕ → Type 0
NoSplitTime whole tenth = (s d : ℕ) → s ≤ MOST_SECONDS → d ≤ 9 → whole ≡ decimal s → tenth ≡ decimal d → ⊥

no_split_time : (word whole tenth : List ℕ) (ms : ℕ) → IsSplit 46 word whole tenth → NoSplitTime whole tenth → IsTime word ms → ⊥
no_split_time word whole tenth ms split none (inl (s, most, is, time)) = lacks_not 46 word whole tenth (subst (Lacks 46) (sym is) (decimal_lacks 46 s (omega arith) (omega arith))) split.1
no_split_time word whole tenth ms split none (inr (s, d, most, digit, is, time)) =
    let same = one_split 46 whole (decimal s) tenth (decimal d) split.0 (decimal_lacks 46 s (omega arith) (omega arith)) (sym split.1 ∙ is) in
    none s d most digit same.0 same.1

pub split_time_is : (word whole tenth : List ℕ) (o : Option ℕ) → IsSplit 46 word whole tenth
    → MatchOption o (NoSplitTime whole tenth) (λ ms. (s d : ℕ) × (s ≤ MOST_SECONDS) × (d ≤ 9) × (whole ≡ decimal s) × (tenth ≡ decimal d) × (ms ≡ 1000 * s + 100 * d))
    → MatchOption o ((ms : ℕ) → IsTime word ms → ⊥) (IsTime word)
split_time_is word whole tenth None split none = λ ms is. no_split_time word whole tenth ms split none is
split_time_is word whole tenth (Some ms) split (s, d, most, digit, front, back, time) =
    inr (s, d, most, digit, split.1 ∙ ap (λ (x : List ℕ). x ++ (46 ∷ tenth)) front ∙ ap (λ (x : List ℕ). decimal s ++ (46 ∷ x)) back, time)

no_whole_time : (word : List ℕ) (ms : ℕ) → Lacks 46 word → ((s : ℕ) → s ≤ MOST_SECONDS → word ≡ decimal s → ⊥) → IsTime word ms → ⊥
no_whole_time word ms lacks none (inl (s, most, is, time)) = none s most is
no_whole_time word ms lacks none (inr (s, d, most, digit, is, time)) = lacks_not 46 word (decimal s) (decimal d) lacks is

pub whole_time_is : (word : List ℕ) (o : Option ℕ) → Lacks 46 word
    → MatchOption o ((s : ℕ) → s ≤ MOST_SECONDS → word ≡ decimal s → ⊥) (λ ms. (s : ℕ) × (s ≤ MOST_SECONDS) × (word ≡ decimal s) × (ms ≡ 1000 * s))
    → MatchOption o ((ms : ℕ) → IsTime word ms → ⊥) (IsTime word)
whole_time_is word None lacks none = λ ms is. no_whole_time word ms lacks none is
whole_time_is word (Some ms) lacks is = inl is

-- ---- lines

pub same_last : (a b : List ℕ) (x y : ℕ) → a ++ x ∷ [] ≡ b ++ y ∷ [] → (a ≡ b) × (x ≡ y)
same_last [] [] x y e = let same : x ≡ y = cc in (refl, same)
same_last [] (b ∷ bs) x y e = absurd (omega (arith, ap (λ (l : List ℕ). length l) e, length-append bs (y ∷ [])))
same_last (a ∷ others) [] x y e = absurd (omega (arith, ap (λ (l : List ℕ). length l) e, length-append others (x ∷ [])))
same_last (a ∷ others) (b ∷ bs) x y e =
    let heads : a ≡ b = cc in
    let tails : others ++ x ∷ [] ≡ bs ++ y ∷ [] = cc in
    let ih = same_last others bs x y tails in
    (ap (λ (z : ℕ). z ∷ others) heads ∙ ap (λ (l : List ℕ). b ∷ l) ih.0, ih.1)

pub pause_is : (line after word : List ℕ) (o : Option ℕ) → line ≡ 61 ∷ 32 ∷ after → after ≡ word ++ 115 ∷ [] → MatchOption o ((ms : ℕ) → IsTime word ms → ⊥) (IsTime word)
    → MatchOption o ((ms : ℕ) → IsPause line ms → ⊥) (IsPause line)
pause_is line after word None mark unit none = λ ms is.
    let tails : after ≡ is.0 ++ 115 ∷ [] = cc (is.2, mark) in
    let same = same_last word is.0 115 115 (sym unit ∙ tails) in
    none ms (subst (λ (w : List ℕ). IsTime w ms) (sym same.0) is.1)
pause_is line after word (Some ms) mark unit time = (word, time, mark ∙ ap (λ (x : List ℕ). 61 ∷ 32 ∷ x) unit)
