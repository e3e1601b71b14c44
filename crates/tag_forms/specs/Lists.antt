-- The answers to a list of texts, a line each. The octets of a list may come in pieces.
use Rattle.std.specs.Prelude.{◌≡◌, ℕ, ◌||◌, ◌⊎◌, ◌<◌, nat_le, nat_lt, Bool, true, false, if◌then◌else◌, List, [], ◌∷◌, ◌++◌, length, codes, Option}
use Rattle.std.specs.Str.{IsUtf8}
use Rattle.tag_forms.specs.declared.company.Company.{Company}
use Rattle.tag_forms.specs.declared.list.TextList.{TextList}
use Rattle.tag_forms.specs.declared.wanted.Wanted.{Wanted}
use Rattle.tag_forms.specs.Company.{IsCount, IsUsable}
use Rattle.tag_forms.specs.Wanted.{IsWantedAnswer, line_refusal}

-- the most octets that a line may have
abbrev pub longest : ℕ
longest = 4096

-- a line that was begun, and one octet more; of a line that is too long no more than one octet is kept
abbrev pub longer : List ℕ → ℕ → List ℕ
longer line octet = if nat_le (length line) longest then line ++ octet ∷ [] else line

-- the line without the carriage return (13) at its end
abbrev pub IsWithoutReturn : List ℕ → List ℕ → Type 0
IsWithoutReturn line text = (line ≡ text ++ 13 ∷ []) ⊎ (((front : List ℕ) → line ≡ front ++ 13 ∷ [] → ⊥) × (text ≡ line))

-- the answer to the octets of a text, and whether the text is refused
abbrev pub IsTextAnswer : Wanted → ℕ → Company → List ℕ → Bool → List ℕ → Type 0
IsTextAnswer to filter company text refused answer =
    (IsUtf8 text × (count : Option ℕ) × IsCount company text count × IsWantedAnswer to filter count text refused answer) ⊎ ((IsUtf8 text → ⊥) × (refused ≡ true) × (answer ≡ line_refusal to (codes "Utf8")))

-- the answer to a line, and whether the line is refused
abbrev pub IsLineAnswer : Wanted → ℕ → Company → List ℕ → Bool → List ℕ → Type 0
IsLineAnswer to filter company line refused answer =
    ((nat_lt longest (length line) ≡ true) × (refused ≡ true) × (answer ≡ line_refusal to (codes "Long")))
    ⊎ ((nat_lt longest (length line) ≡ false) × (text : List ℕ) × IsWithoutReturn line text × IsTextAnswer to filter company text refused answer)

-- the answers to octets after a line that was begun: the line that is begun after them, whether a line was refused, and the answers, each with a line feed (10)
abbrev pub Answers : Wanted → ℕ → Company → List ℕ → List ℕ → List ℕ → Bool → List ℕ → Type 0
Answers to filter company line [] begun refused answers = (begun ≡ line) × (refused ≡ false) × (answers ≡ [])
Answers to filter company line (octet ∷ octets) begun refused answers =
    ((octet ≡ 10) × (first second : Bool) × (answer others : List ℕ) × IsLineAnswer to filter company line first answer × Answers to filter company [] octets begun second others
    × (refused ≡ (first || second)) × (answers ≡ answer ++ 10 ∷ others))
    ⊎ ((octet ≡ 10 → ⊥) × Answers to filter company (longer line octet) octets begun refused answers)

-- the answer to what is left of a list at its end: a last line without a line feed counts as one, and nothing is no line
abbrev pub IsEnded : Wanted → ℕ → Company → List ℕ → Bool → List ℕ → Type 0
IsEnded to filter company line refused answers =
    ((line ≡ []) × (refused ≡ false) × (answers ≡ []))
    ⊎ ((line ≡ [] → ⊥) × (answer : List ℕ) × IsLineAnswer to filter company line refused answer × (answers ≡ answer ++ 10 ∷ []))

-- what the texts do not say is a filter value, and how many digits a company prefix has
pub record IsReady (list : TextList) : Type 0 where
  pub filter : list.filter < 8
  pub company : IsUsable list.company

-- both lists ask for the same
pub record IsSameList (old new : TextList) : Type 0 where
  pub to : new.to ≡ old.to
  pub filter : new.filter ≡ old.filter
  pub company : new.company ≡ old.company
