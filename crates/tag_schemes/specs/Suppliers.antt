-- The EPC of a supplier to the US Department of Defense, USDoD-96: its word and its tag URI.
-- Source: US DoD Supplier's Passive RFID Information Guide; for header and tag URI EPC Tag Data Standard 1.13, sections 14.2 and 12.
use Rattle.std.specs.Prelude.{◌≡◌, ℕ, ◌+◌, ◌^◌, ◌<◌, ◌==◌, ◌||◌, ◌&&◌, ◌⊎◌, not, Bool, true, if◌then◌else◌, List, [], ◌∷◌, ◌++◌, length, codes}
use Rattle.std.specs.Char.{is_ascii_digit, is_ascii_uppercase}
use Rattle.std.specs.List.{join_with_byte}
use Rattle.tag_bits.specs.Digits.{digits, digits_of_bytes, word_digits}
use Rattle.tag_uri.specs.Decimal.{plain}
use Rattle.tag_uri.specs.TagText.{tag_start}
use Rattle.tag_schemes.specs.declared.numbers.Numbers.{Numbers}
use Rattle.tag_schemes.specs.declared.supplier.Supplier.{Supplier}
use Rattle.tag_schemes.specs.LawfulWord.{HasWord}

-- the header
abbrev pub supplier_header : ℕ
supplier_header = 0x2f

-- a character of a code: a digit, or a capital letter other than I (73) and O (79)
abbrev pub is_code_character : ℕ → Bool
is_code_character c = is_ascii_digit c || (is_ascii_uppercase c && not (c == 73 || c == 79))

-- whether a character may stand at a place, 0 to 5: at the first a space (32) too
abbrev pub may_stand : ℕ → ℕ → Bool
may_stand place c = is_code_character c || ((place == 0) && (c == 32))

-- characters that may stand from a place on
abbrev pub MayStand : ℕ → List ℕ → Type 0
MayStand place [] = Unit {0}
MayStand place (c ∷ cs) = (may_stand place c ≡ true) × MayStand (place + 1) cs

-- an EPC whose numbers fit: a filter value of four bits, a code of six characters, those of a DoDAAC or a space and those of a CAGE code, and a serial number of 36 bits
pub record IsSupplier (epc : Supplier) : Type 0 where
  pub filter : epc.filter < 2 ^ 4
  pub six : length epc.code ≡ 6
  pub code : MayStand 0 epc.code
  pub serial : epc.serial < 2 ^ 36

-- the EPC is lawful, and the binary digits of header, filter value, code and serial number are those of the word
pub record HasSupplierWord (epc : Supplier) (word : ℕ) : Type 0 where
  pub lawful : IsSupplier epc
  pub spelled : word_digits word ≡ digits 8 supplier_header ++ (digits 4 epc.filter ++ (digits_of_bytes epc.code ++ digits 36 epc.serial))

-- some EPC of a further scheme has the word
abbrev pub IsFurtherWord : ℕ → Type 0
IsFurtherWord word = ((epc : Numbers) × HasWord epc word) ⊎ ((epc : Supplier) × HasSupplierWord epc word)

-- a code as a component: without the space before it
abbrev pub code_text : List ℕ → List ℕ
code_text [] = []
code_text (c ∷ cs) = if c == 32 then cs else c ∷ cs

-- the components of an EPC: filter value, code and serial number, the numbers without leading zeros
abbrev pub supplier_components : Supplier → List (List ℕ)
supplier_components epc = plain epc.filter ∷ code_text epc.code ∷ plain epc.serial ∷ []

-- the scheme's name with its colon, then what follows
abbrev pub supplier_text : List ℕ → List ℕ
supplier_text rest = codes "usdod-96:" ++ rest

-- the tag URI of an EPC, with dots (46) between its components
unfoldable pub supplier_uri : Supplier → List ℕ
supplier_uri epc = tag_start ++ supplier_text (join_with_byte 46 (supplier_components epc))
