-- A line of a listing with labels: the text of its word in the set of all schemes, and the key of the word's EPC. Lines are lists of their octets, without LF.
-- Source: EPC Tag Data Standard 1.13, sections 7 and 12, for keys and texts; the lines are this project's own.
use Rattle.std.specs.Prelude.{◌≡◌, ℕ, ◌^◌, ◌<◌, ◌⊎◌, Bool, true, false, List, [], ◌∷◌, ◌++◌, codes, Option, Some, None}
use Rattle.std.specs.Str.{IsUtf8}
use Rattle.tag_uri.specs.TagText.{IsTextOf}
use Rattle.tag_schemes.specs.AllTexts.{IsTextInAll, HasFaultInAll}
use Rattle.tag_schemes.specs.declared.fault.SchemeFault.{SchemeFault}
use Rattle.tag_forms.specs.declared.form.Form.TheVariants.{Key}
use Rattle.tag_forms.specs.Forms.{IsTextIn, begins}
use Rattle.tag_forms.specs.AllForms.{IsFormInAll}
use Rattle.llrp_listing.specs.Calls.Splits.{Lacks, IsSplit}
use Rattle.llrp_labels.specs.declared.labels.Labels.{Labels}
use Rattle.llrp_labels.specs.declared.fault.LabelFault.{LabelFault}
use Rattle.llrp_labels.specs.declared.fault.LabelFault.TheVariants as fault

-- what stands before the last blank (32) of a line, and what follows it
pub record HasLastWord (line front last : List ℕ) : Type 0 where
  pub is : line ≡ front ++ 32 ∷ last
  pub lacks : Lacks 32 last

-- the text of a word, in the set of all schemes or in that of the seven
abbrev pub IsTextAmong : Bool → ℕ → List ℕ → Type 0
IsTextAmong true word text = IsTextInAll word text
IsTextAmong false word text = IsTextOf word text

-- the line ends in the text of this word
pub record EndsInWord (schemes : Bool) (line front : List ℕ) (word : ℕ) : Type 0 where
  pub text : List ℕ
  pub last : HasLastWord line front text
  pub below : word < 2 ^ 96
  pub is : IsTextAmong schemes word text

-- the key of a word's EPC by its name, in the set of all schemes or in that of the seven
abbrev pub IsKeyAmong : Bool → ℕ → List ℕ → Type 0
IsKeyAmong true word key = IsFormInAll Key word key
IsKeyAmong false word key = IsTextIn Key word key

-- what follows the text of a word: with keys a tab (9) and the key of its EPC, where it has one in the set of schemes
abbrev pub IsMark : Bool → Bool → ℕ → List ℕ → Type 0
IsMark schemes true word mark = ((key : List ℕ) × IsKeyAmong schemes word key × (mark ≡ 9 ∷ key)) ⊎ (((key : List ℕ) → IsKeyAmong schemes word key → ⊥) × (mark ≡ []))
IsMark schemes false word mark = mark ≡ []

-- the line with labels: where it ends in the text of a word, that word's text and mark; every other line as it is
abbrev pub IsLabelled : Labels → List ℕ → List ℕ → Type 0
IsLabelled labels line labelled =
    ((front text mark : List ℕ) × (word : ℕ) × EndsInWord false line front word × IsTextAmong labels.schemes word text × IsMark labels.schemes labels.keys word mark × (labelled ≡ front ++ 32 ∷ (text ++ mark)))
    ⊎ (((front : List ℕ) (word : ℕ) → EndsInWord false line front word → ⊥) × (labelled ≡ line))

-- ---- and back

-- a line before its first tab, and the key after it; without keys, or without a tab, the whole line
abbrev pub IsBody : Bool → List ℕ → List ℕ → Option (List ℕ) → Type 0
IsBody keys line body (Some key) = (keys ≡ true) × IsSplit 9 line body key
IsBody keys line body None = (keys ≡ true → Lacks 9 line) × (body ≡ line)

-- the key after a tab, if there is one, is that of the word's EPC
abbrev pub IsKeyIn : Bool → ℕ → Option (List ℕ) → Type 0
IsKeyIn schemes word (Some key) = IsKeyAmong schemes word key
IsKeyIn schemes word None = Unit {0}

-- a text that begins as a URI of an EPC
abbrev pub IsUri : List ℕ → Type 0
IsUri text = IsUtf8 text × (begins text (codes "urn:epc:") ≡ true)

-- the last word of the line does not
abbrev pub NoUri : List ℕ → Type 0
NoUri line = (front last : List ℕ) → HasLastWord line front last → IsUri last → ⊥

-- it does, and this rule refuses it in the set of all schemes
abbrev pub HasUriFault : List ℕ → SchemeFault → Type 0
HasUriFault line f = (front last : List ℕ) × HasLastWord line front last × IsUri last × HasFaultInAll last f

-- a line with labels is this one without them: where it ends in the text of a word, in that word's text without them, and else as it is
abbrev pub ReadsLine : Labels → List ℕ → List ℕ → Type 0
ReadsLine labels line plain =
    (body : List ℕ) × (key : Option (List ℕ)) × IsBody labels.keys line body key
    × (((front text : List ℕ) × (word : ℕ) × EndsInWord labels.schemes body front word × IsKeyIn labels.schemes word key × IsTextOf word text × (plain ≡ front ++ 32 ∷ text))
    ⊎ (((front : List ℕ) (word : ℕ) → EndsInWord labels.schemes body front word → ⊥) × (labels.schemes ≡ true → NoUri body) × (key ≡ None) × (plain ≡ body)))

-- why a line with labels is refused: the key after its tab is not that of its EPC, or its last word is not a text in the set of all schemes
abbrev pub RefusesLine : Labels → List ℕ → LabelFault → Type 0
RefusesLine labels line fault.Key =
    (body key : List ℕ) × IsBody labels.keys line body (Some key) × ((front : List ℕ) (word : ℕ) → EndsInWord labels.schemes body front word → IsKeyAmong labels.schemes word key → ⊥)
RefusesLine labels line (fault.Epc f) = IsBody labels.keys line line None × (labels.schemes ≡ true) × HasUriFault line f

-- a line as a listing has it: without a tab, and if its last word begins as a URI of an EPC, it is the text of a word
pub record IsListed (line : List ℕ) : Type 0 where
  pub untabbed : Lacks 9 line
  pub last : ((front : List ℕ) (word : ℕ) → EndsInWord false line front word → ⊥) → NoUri line
