-- Numbers with commas between them.
use Rattle.std.proofs.Common.{◌≡◌, ℕ, List, [], ◌∷◌, ◌++◌, refl, sym, ap, ◌∙◌, append_assoc, decimal}
use Rattle.std.proofs.lemmas.List.{append-nil}
use Rattle.llrp_live.specs.Calls.Lines.{after_commas, AreNumbers}

-- numbers, each with a comma after it
abbrev pub before_commas : List ℕ → List ℕ
before_commas [] = []
before_commas (n ∷ ns) = decimal n ++ (44 ∷ before_commas ns)

-- numbers with a comma before each, and the one after them
commas : (ns : List ℕ) (m : ℕ) → 44 ∷ (before_commas ns ++ decimal m) ≡ after_commas (ns ++ m ∷ [])
commas [] m = ap (λ (x : List ℕ). 44 ∷ x) (sym (append-nil (decimal m)))
commas (n ∷ ns) m = ap (λ (x : List ℕ). 44 ∷ x) (append_assoc (decimal n) (44 ∷ before_commas ns) (decimal m) ∙ ap (λ (x : List ℕ). decimal n ++ x) (commas ns m))

-- the last of them
pub are_numbers : (ns : List ℕ) (m : ℕ) (text : List ℕ) → text ≡ before_commas ns ++ decimal m → AreNumbers (ns ++ m ∷ []) text
are_numbers [] m text is = is ∙ sym (append-nil (decimal m))
are_numbers (n ∷ ns) m text is = is ∙ append_assoc (decimal n) (44 ∷ before_commas ns) (decimal m) ∙ ap (λ (x : List ℕ). decimal n ++ x) (commas ns m)

before_more : (ns : List ℕ) (m : ℕ) → before_commas (ns ++ m ∷ []) ≡ before_commas ns ++ (decimal m ++ 44 ∷ [])
before_more [] m = refl
before_more (n ∷ ns) m = ap (λ (x : List ℕ). decimal n ++ (44 ∷ x)) (before_more ns m) ∙ sym (append_assoc (decimal n) (44 ∷ before_commas ns) (decimal m ++ 44 ∷ []))

-- one more of them
pub one_number : (text rest digits after : List ℕ) (ns : List ℕ) (m : ℕ) → text ≡ before_commas ns ++ rest → rest ≡ digits ++ 44 ∷ after → digits ≡ decimal m → text ≡ before_commas (ns ++ m ∷ []) ++ after
one_number text rest digits after ns m is split number =
    is ∙ ap (λ (x : List ℕ). before_commas ns ++ x) (split ∙ ap (λ (x : List ℕ). x ++ 44 ∷ after) number ∙ sym (append_assoc (decimal m) (44 ∷ []) after))
    ∙ sym (append_assoc (before_commas ns) (decimal m ++ 44 ∷ []) after) ∙ ap (λ (x : List ℕ). x ++ after) (sym (before_more ns m))
