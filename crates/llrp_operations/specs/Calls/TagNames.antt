-- How lines name a tag: so that the name can be given to `--tag`.
use Rattle.std.specs.Prelude.{◌≡◌, ◌⊎◌, ℕ, List, [], ◌∷◌, length, codes}
use Rattle.hex.specs.Hex.{encode_lower}
use Rattle.tag_bits.specs.Digits.{digits_of_bytes, word_digits}
use Rattle.tag_epc.specs.LawfulWord.{HasWord, IsLawfulWord}
use Rattle.tag_epc.specs.declared.epc.Parts.{Parts}
use Rattle.tag_uri.specs.TagText.{tag_uri}

-- the tag URI of the EPC whose word these octets are
abbrev pub IsUri : (epc uri : List ℕ) → Type 0
IsUri epc uri = (word : ℕ) × (parts : Parts) × (word_digits word ≡ digits_of_bytes epc) × HasWord parts word × (uri ≡ tag_uri parts)

-- they are no word's, or that of no EPC of the standard
abbrev pub HasNoUri : (epc : List ℕ) → Type 0
HasNoUri epc = (length epc ≡ 12 → ⊥) ⊎ ((word : ℕ) × (word_digits word ≡ digits_of_bytes epc) × (IsLawfulWord word → ⊥))

-- a tag without an EPC has a dash
abbrev pub digits_name : List ℕ → List ℕ
digits_name [] = codes "-"
digits_name (o ∷ os) = encode_lower (o ∷ os)

abbrev pub IsTagName : (epc name : List ℕ) → Type 0
IsTagName epc name = IsUri epc name ⊎ (HasNoUri epc × (name ≡ digits_name epc))
