-- How many digits the company prefix of a key has, which the key does not say.
use Rattle.std.specs.Prelude.{◌≡◌, ℕ, ◌&&◌, ◌⊎◌, nat_le, IfSome, if◌then◌else◌, List, Option, Some, None}
use Rattle.std.specs.Int.{IsInRange}
use Rattle.tag_keys.specs.declared.spelling.Spelling.{Spelling}
use Rattle.tag_keys.specs.declared.spelling.Spelling.TheVariants as spelling
use Rattle.tag_keys.specs.KeyFaults.{HasFromCompany}
use Rattle.tag_schemes.specs.declared.scheme.Scheme.{Scheme}
use Rattle.tag_scheme_keys.specs.KeyFaults.{BeginsKeyIn}
use Rattle.tag_forms.specs.declared.company.Company.{Company}
use Rattle.tag_forms.specs.declared.company.Company.TheVariants.{Digits, Table}
use Rattle.tag_forms.specs.declared.form.Form.{Form}
use Rattle.tag_forms.specs.declared.form.Form.TheVariants.{Tag, Pure, Element, Link, Hex, Key}
use Rattle.tag_forms.specs.declared.prefixes.Entry.{Entry}
use Rattle.tag_forms.specs.Forms.{form_at}
use Rattle.tag_forms.specs.Prefixes.{Counts}

-- how a form spells a key, if it is a form of keys
abbrev pub spelling_at : Form → Option Spelling
spelling_at Element = Some spelling.Element
spelling_at Link = Some spelling.Link
spelling_at Key = Some spelling.Named
spelling_at Tag = None
spelling_at Pure = None
spelling_at Hex = None

-- a key, which has these digits from its company prefix on, or begins as one of a further scheme, which has this from there on
abbrev pub IsFromCompany : Spelling → List ℕ → List ℕ → Type 0
IsFromCompany s text digits = HasFromCompany s text digits ⊎ ((scheme : Scheme) × BeginsKeyIn s text scheme digits)

-- the text is a key in the form that it begins as
abbrev pub HasCompany : List ℕ → List ℕ → Type 0
HasCompany text digits = (s : Spelling) × (spelling_at (form_at text) ≡ Some s) × IsFromCompany s text digits

-- a number of digits that the company prefix of an EPC may have (EPC Tag Data Standard 1.13, section 14: 6 to 12), or none
abbrev pub within : Option ℕ → Option ℕ
within None = None
within (Some count) = if nat_le 6 count && nat_le count 12 then Some count else None

-- how many digits a table gives for the company prefix of a text's key: none for a text that is no key
abbrev pub IsCountIn : List Entry → List ℕ → Option ℕ → Type 0
IsCountIn entries text count =
    ((digits : List ℕ) × (found : Option ℕ) × HasCompany text digits × Counts entries digits found × (count ≡ within found))
    ⊎ (((digits : List ℕ) → HasCompany text digits → ⊥) × (count ≡ None))

-- how many digits the company prefix of a text's key has, where that is known
abbrev pub IsCount : Company → List ℕ → Option ℕ → Type 0
IsCount (Digits known) text count = count ≡ known
IsCount (Table prefixes) text count = IsCountIn prefixes.now.entries.items text count

-- a number that is given for all keys is one that a company prefix may have
abbrev pub IsUsable : Company → Type 0
IsUsable (Digits known) = IfSome known (λ count. IsInRange 6 12 count)
IsUsable (Table prefixes) = Unit {0}
