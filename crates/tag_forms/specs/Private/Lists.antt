-- A list between two octets.
use Rattle.std.specs.Prelude.{◌≡◌, ℕ, ◌||◌, ◌⊎◌, Bool, List, [], ◌∷◌, ◌++◌}
use Rattle.tag_forms.specs.declared.list.TextList.{TextList}
use Rattle.tag_forms.specs.Lists.{IsLineAnswer, longer}

-- one octet was taken: the line was answered, or it grew
abbrev pub Took : TextList → ℕ → TextList → List ℕ → List ℕ → Type 0
Took old octet new before after =
    ((octet ≡ 10) × (new.line.items ≡ []) × (refused : Bool) × (answer : List ℕ) × IsLineAnswer old.to old.filter old.company old.line.items refused answer
    × (new.refused ≡ (old.refused || refused)) × (after ≡ before ++ (answer ++ 10 ∷ [])))
    ⊎ ((octet ≡ 10 → ⊥) × (new.line.items ≡ longer old.line.items octet) × (new.refused ≡ old.refused) × (after ≡ before))
