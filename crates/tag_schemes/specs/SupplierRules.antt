-- The first rule that refuses what follows the colon of USDoD-96, and the first fault of a word with its header.
-- Source: US DoD Supplier's Passive RFID Information Guide; the order of the rules is this project's own, that of the other schemes.
use Rattle.std.specs.Prelude.{◌≡◌, ℕ, ◌+◌, ◌*◌, ◌^◌, ◌<◌, ◌==◌, ◌||◌, not, nat_le, Bool, true, false, if◌then◌else◌, List, [], ◌∷◌, ◌++◌, length, Option, Some, None}
use Rattle.std.specs.List.{list_all}
use Rattle.tag_bits.specs.Digits.{digits, digits_of_bytes, word_digits}
use Rattle.tag_uri.specs.declared.fault.UriFault.TheVariants as fault
use Rattle.tag_uri.specs.Decimal.{decimal_value}
use Rattle.tag_uri.specs.TagText.{components, is_zero_led}
use Rattle.tag_schemes.specs.declared.fault.SchemeFault.{SchemeFault}
use Rattle.tag_schemes.specs.declared.fault.SchemeFault.TheVariants.{Code, Tag}
use Rattle.tag_schemes.specs.declared.fault.PartReason.TheVariants as part
use Rattle.tag_schemes.specs.declared.fault.PartFault.{PartFault}
use Rattle.tag_schemes.specs.Suppliers.{is_code_character, may_stand, supplier_header, MayStand}
use Rattle.tag_schemes.specs.Texts.{is_no_number}

-- whether a text is no code: five or six characters of one
abbrev pub is_no_code : List ℕ → Bool
is_no_code text = not (length text == 5 || length text == 6) || not (list_all is_code_character text)

-- the rules that refuse the components, in their order: each a test and the fault that it names
abbrev pub supplier_rules : List (List ℕ) → List (Bool × SchemeFault)
supplier_rules (filter ∷ code ∷ serial ∷ []) =
    (is_no_number filter || is_no_number serial, Tag fault.Digit)
    ∷ (is_zero_led filter || is_zero_led serial, Tag fault.LeadingZero)
    ∷ (nat_le (2 ^ 4) (decimal_value filter), Tag fault.Filter)
    ∷ (is_no_code code, Code)
    ∷ (nat_le (2 ^ 36) (decimal_value serial), Tag fault.Range)
    ∷ []
supplier_rules texts = (true, Tag fault.Parts) ∷ []

-- the first rule that applies
abbrev pub first_of : List (Bool × SchemeFault) → Option SchemeFault
first_of [] = None
first_of (rule ∷ rules) = if rule.0 then Some rule.1 else first_of rules

-- the first rule that refuses what follows the colon
abbrev pub HasSupplierTextFault : List ℕ → SchemeFault → Type 0
HasSupplierTextFault rest f = first_of (supplier_rules (components rest)) ≡ Some f

-- the word begins with the header
pub record HasSupplierHeader (word : ℕ) : Type 0 where
  pub rest : List Bool
  pub begins : word_digits word ≡ digits 8 supplier_header ++ rest

-- after header, filter value and the characters before it, the first character that may not stand at its place; the fault has its first bit
pub record HasSupplierFault (word : ℕ) (fault : PartFault) : Type 0 where
  pub filter : ℕ
  pub before : List ℕ
  pub wrong : ℕ
  pub rest : List Bool
  pub spelled : word_digits word ≡ digits 8 supplier_header ++ (digits 4 filter ++ (digits_of_bytes before ++ (digits 8 wrong ++ rest)))
  pub few : length before < 6
  pub right : MayStand 0 before
  pub octet : wrong < 2 ^ 8
  pub fails : may_stand (length before) wrong ≡ false
  pub named : fault ≡ record { bit = 12 + 8 * length before; reason = part.Code }
