-- The word of an EPC of a further scheme. Source: EPC Tag Data Standard 1.13, section 14.
use Rattle.std.specs.Prelude.{◌≡◌, ℕ, ◌+◌, ◌<◌, List, [], ◌∷◌, ◌++◌, length, Some}
use Rattle.tag_bits.specs.Digits.{word_digits}
use Rattle.tag_epc.specs.declared.scheme.Row.{Row}
use Rattle.tag_epc.specs.Layout.{row_at, leading_segments, number_segments}
use Rattle.tag_epc.specs.LawfulWord.{Field, fill, AllFit, fields_digits}
use Rattle.tag_uri.specs.Decimal.{plain}
use Rattle.tag_schemes.specs.declared.numbers.Numbers.{Numbers}
use Rattle.tag_schemes.specs.declared.scheme.Scheme.{Scheme}
use Rattle.tag_schemes.specs.declared.scheme.Scheme.TheVariants.{Giai, Gsrnp, Sgcn, Cpi}
use Rattle.tag_schemes.specs.Schemes.{layout_in}

-- the fields of an EPC, the digits of whose company prefix and whose partition value make 12: header, filter value, partition value, company prefix, reference, and the last segment, which may have no bits
pub record HasFields (epc : Numbers) (fields : List Field) : Type 0 where
  pub row : Row
  pub partition : ℕ
  pub placed : row_at (layout_in epc.scheme) partition ≡ Some row
  pub counted : partition + epc.company_digits ≡ 12
  pub filled : fields ≡ fill leading_segments ((layout_in epc.scheme).header ∷ epc.filter ∷ partition ∷ []) ++ fill (number_segments (layout_in epc.scheme) row) (epc.company ∷ epc.reference ∷ epc.last ∷ [])

-- what the last segment has to be beside its bits: of SGCN-96 the number whose digits are a 1 (49) and then those of the serial number, at least one (14.3.6)
abbrev pub HasSerial : Scheme → ℕ → Type 0
HasSerial Giai last = Unit {0}
HasSerial Gsrnp last = Unit {0}
HasSerial Cpi last = Unit {0}
HasSerial Sgcn last = (serial : List ℕ) × (0 < length serial) × (plain last ≡ 49 ∷ serial)

-- an EPC whose numbers all fit their segments
pub record IsLawful (epc : Numbers) : Type 0 where
  pub fields : List Field
  pub has : HasFields epc fields
  pub fit : AllFit fields
  pub serial : HasSerial epc.scheme epc.last

-- the EPC is lawful, and the binary digits of its fields are those of the word
pub record HasWord (epc : Numbers) (word : ℕ) : Type 0 where
  pub lawful : IsLawful epc
  pub spelled : word_digits word ≡ fields_digits lawful.fields
