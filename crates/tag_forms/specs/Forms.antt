-- The forms of a word's text. Texts are lists of their UTF-8 octets.
-- Source: EPC Tag Data Standard 1.13, sections 6, 7, 12 and 14; the form by name and the order of the forms are this project's own.
use Rattle.std.specs.Prelude.{◌≡◌, ℕ, ◌==◌, ◌||◌, Bool, if◌then◌else◌, List, codes, Option, Some, None}
use Rattle.std.specs.List.{starts_with}
use Rattle.tag_epc.specs.declared.epc.Parts.{Parts}
use Rattle.tag_epc.specs.LawfulWord.{HasWord}
use Rattle.tag_uri.specs.Hexadecimal.{hexadecimal}
use Rattle.tag_uri.specs.TagText.{IsTextOf}
use Rattle.tag_keys.specs.declared.spelling.Spelling.{Spelling}
use Rattle.tag_keys.specs.declared.spelling.Spelling.TheVariants as spelling
use Rattle.tag_keys.specs.PureIdentity.{id_uri, HasFilter}
use Rattle.tag_keys.specs.KeyText.{IsKeyText, HasCompanyDigits}
use Rattle.tag_forms.specs.declared.form.Form.{Form}
use Rattle.tag_forms.specs.declared.form.Form.TheVariants.{Tag, Pure, Element, Link, Hex, Key}
use Rattle.tag_forms.specs.Hexadecimal.{IsHexOf}

-- the name of a form
abbrev pub form_name : Form → List ℕ
form_name Tag = codes "tag"
form_name Pure = codes "pure"
form_name Element = codes "element"
form_name Link = codes "link"
form_name Hex = codes "hex"
form_name Key = codes "key"

-- the text is that of the key of the word's EPC
abbrev pub IsKeyOf : Spelling → ℕ → List ℕ → Type 0
IsKeyOf s word text = (epc : Parts) × HasWord epc word × IsKeyText s epc text

-- the text of a word in a form; a word without an EPC has a tag form, its raw URI, and hexadecimal digits
abbrev pub IsTextIn : Form → ℕ → List ℕ → Type 0
IsTextIn Tag word text = IsTextOf word text
IsTextIn Pure word text = (epc : Parts) × HasWord epc word × (text ≡ id_uri epc)
IsTextIn Element word text = IsKeyOf spelling.Element word text
IsTextIn Link word text = IsKeyOf spelling.Link word text
IsTextIn Hex word text = text ≡ hexadecimal 24 word
IsTextIn Key word text = IsKeyOf spelling.Named word text

-- whether a text begins with these octets
abbrev pub begins : List ℕ → List ℕ → Bool
begins text start = starts_with (λ a b. a == b) text start

-- the form that a text begins as
abbrev pub form_at : List ℕ → Form
form_at text =
    if begins text (codes "urn:epc:id:") then Pure
    else if begins text (codes "urn:") then Tag
    else if begins text (codes "(") then Element
    else if begins text (codes "http") then Link
    else if (begins text (codes "g") || begins text (codes "s")) || begins text (codes "cpi") then Key
    else Hex

-- the text is that of the key of the word's EPC, which has this filter value and as many digits of the company prefix as are known
abbrev pub ReadsKeyOf : Spelling → ℕ → Option ℕ → List ℕ → ℕ → Type 0
ReadsKeyOf s filter (Some count) text word = (epc : Parts) × HasWord epc word × HasFilter filter epc × HasCompanyDigits count epc × IsKeyText s epc text
ReadsKeyOf s filter None text word = ⊥

-- the word that a text is read as in a form, by what the text does not say: the filter value, and how many digits the company prefix has
abbrev pub ReadsAs : Form → ℕ → Option ℕ → List ℕ → ℕ → Type 0
ReadsAs Tag filter count text word = IsTextOf word text
ReadsAs Pure filter count text word = (epc : Parts) × HasWord epc word × HasFilter filter epc × (text ≡ id_uri epc)
ReadsAs Element filter count text word = ReadsKeyOf spelling.Element filter count text word
ReadsAs Link filter count text word = ReadsKeyOf spelling.Link filter count text word
ReadsAs Hex filter count text word = IsHexOf text word
ReadsAs Key filter count text word = ReadsKeyOf spelling.Named filter count text word
