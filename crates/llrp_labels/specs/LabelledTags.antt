-- A line of a tag with labels, in words or as an object of JSON (RFC 8259). Lines are lists of their octets, without LF.
-- Source: EPC Tag Data Standard 1.13, sections 7 and 12, for keys and texts; the lines are this project's own.
use Rattle.std.specs.Prelude.{◌≡◌, ℕ, ◌^◌, ◌<◌, ◌⊎◌, Bool, true, false, List, [], ◌∷◌, ◌++◌, codes, Option, Some, None}
use Rattle.tag_uri.specs.TagText.{IsTextOf}
use Rattle.llrp_listing.specs.Calls.Splits.{Lacks, IsSplit}
use Rattle.llrp_keys.specs.NamedKey.{IsNamedKey}
use Rattle.llrp_labels.specs.declared.labels.Labels.{Labels}
use Rattle.llrp_labels.specs.LabelledLines.{IsKeyAmong, IsTextAmong}
use Rattle.llrp_labels.specs.LabelledTexts.{MakesText}

-- the text is that of the word
pub record IsWordText (text : List ℕ) (word : ℕ) : Type 0 where
  pub below : word < 2 ^ 96
  pub is : IsTextOf word text

-- ---- in words

-- a line that begins with the text of a word and a blank (32) has that word's text with labels; every other line stays
abbrev pub IsLabelledWords : Labels → List ℕ → List ℕ → Type 0
IsLabelledWords labels line labelled =
    ((text rest new : List ℕ) × (word : ℕ) × IsSplit 32 line text rest × IsWordText text word × IsTextAmong labels.schemes word new × (labelled ≡ new ++ (32 ∷ rest)))
    ⊎ (((text rest : List ℕ) (word : ℕ) → IsSplit 32 line text rest → IsWordText text word → ⊥) × (labelled ≡ line))

-- ---- as an object

-- what comes before the text of the EPC, which is the first member
abbrev pub object_start : List ℕ
object_start = codes "{\"epc\":\""

-- an object with this text of its EPC, and what stands between the text's quote (34) and the object's end
pub record IsObject (line text rest : List ℕ) : Type 0 where
  pub is : line ≡ object_start ++ (text ++ (34 ∷ (rest ++ codes "}")))
  pub lacks : Lacks 34 text

-- the members of a key: its number under its name, and the serial number, if it has one
abbrev pub key_members : (name number : List ℕ) → Option (List ℕ) → List ℕ
key_members name number None = codes ",\"" ++ (name ++ (codes "\":\"" ++ (number ++ codes "\"")))
key_members name number (Some serial) = codes ",\"" ++ (name ++ (codes "\":\"" ++ (number ++ (codes "\",\"serial\":\"" ++ (serial ++ codes "\"")))))

-- the parts of the key of a word's EPC in a set of schemes
abbrev pub IsKeyOfWord : Bool → ℕ → (name number : List ℕ) → Option (List ℕ) → Type 0
IsKeyOfWord schemes word name number serial = (key : List ℕ) × IsKeyAmong schemes word key × IsNamedKey key name number serial

-- with keys the members of the key of a word's EPC, where it has one in the set of schemes
abbrev pub AreKeyMembers : Bool → Bool → ℕ → List ℕ → Type 0
AreKeyMembers schemes true word members =
    ((name number : List ℕ) × (serial : Option (List ℕ)) × IsKeyOfWord schemes word name number serial × (members ≡ key_members name number serial))
    ⊎ (((name number : List ℕ) (serial : Option (List ℕ)) → IsKeyOfWord schemes word name number serial → ⊥) × (members ≡ []))
AreKeyMembers schemes false word members = members ≡ []

-- an object with the text of a word as its EPC has that word's text with labels, and the members of its key at its end; every other line stays
abbrev pub IsLabelledObject : Labels → List ℕ → List ℕ → Type 0
IsLabelledObject labels line labelled =
    ((text rest new members : List ℕ) × (word : ℕ) × IsObject line text rest × IsWordText text word × IsTextAmong labels.schemes word new × AreKeyMembers labels.schemes labels.keys word members
    × (labelled ≡ object_start ++ (new ++ (34 ∷ (rest ++ (members ++ codes "}"))))))
    ⊎ (((text rest : List ℕ) (word : ℕ) → IsObject line text rest → IsWordText text word → ⊥) × (labelled ≡ line))

-- ---- lines

-- a line of a tag with labels: an object of JSON, or words, which have no key
abbrev pub IsLabelledTag : Labels → Bool → List ℕ → List ℕ → Type 0
IsLabelledTag labels true line labelled = IsLabelledObject labels line labelled
IsLabelledTag labels false line labelled = IsLabelledWords labels line labelled

-- each line of a text so
abbrev pub AreLabelledTags : Labels → Bool → List ℕ → List ℕ → Type 0
AreLabelledTags labels json text labelled = MakesText (IsLabelledTag labels json) text labelled
