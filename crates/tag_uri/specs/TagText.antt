-- Tag URIs and raw URIs, and the first rule that refuses a text. Texts are lists of their UTF-8 octets.
-- Source: EPC Tag Data Standard 1.13, section 12, and for the segments section 14.5.
use Rattle.std.specs.Prelude.{◌≡◌, ℕ, ◌^◌, ◌<◌, ◌==◌, ◌||◌, ◌&&◌, not, nat_lt, nat_le, Bool, false, if◌then◌else◌, List, [], ◌∷◌, ◌++◌, length, map, drop, slice_index, codes, Option, Some, None, option_map, unwrap_or, ◌⊎◌}
use Rattle.std.specs.List.{slice_split, join_with_byte, AllPass}
use Rattle.std.specs.Str.{all_ascii_digits}
use Rattle.tag_epc.specs.declared.kind.Kind.{Kind}
use Rattle.tag_epc.specs.declared.scheme.Row.{Row}
use Rattle.tag_epc.specs.declared.epc.Parts.{Parts}
use Rattle.tag_epc.specs.declared.epc.Parts.TheVariants.{Partitioned, General}
use Rattle.tag_epc.specs.Layout.{Layout, layout_of, scheme_name, gid_segments}
use Rattle.tag_epc.specs.LawfulWord.{kind_of_parts, HasWord}
use Rattle.tag_uri.specs.declared.fault.UriFault.{UriFault}
use Rattle.tag_uri.specs.declared.fault.UriFault.TheVariants as fault
use Rattle.tag_uri.specs.Decimal.{decimal_value, padded, plain}
use Rattle.tag_uri.specs.Hexadecimal.{hexadecimal, is_upper_digit}

-- how a component is written: the filter value as one digit 0 to 7, the company prefix as 6 to 12 digits, the reference as the digits that the partition table gives it beside that company prefix, a number of at most this many bits without leading zeros
pub data Form : Type 0 where
  Filter : Form
  Company : Form
  Reference : Form
  Number : ℕ → Form

-- the forms of a scheme's components, in order; a last segment of zeros has no component
abbrev pub forms_of : Option Layout → List Form
forms_of (Some l) = Filter ∷ Company ∷ Reference ∷ (if l.zero_tail then [] else Number l.last_bits ∷ [])
forms_of None = map (λ s. Number s.width) (drop 1 gid_segments)

-- how many digits a partition table gives the reference beside a company prefix of this many, if it has such a row
abbrev pub reference_digits : List Row → ℕ → Option ℕ
reference_digits [] company_digits = None
reference_digits (r ∷ rs) company_digits = if r.company_digits == company_digits then Some r.reference_digits else reference_digits rs company_digits

-- the components of an EPC with a company prefix
abbrev pub partitioned_components : Option Layout → ℕ → ℕ → ℕ → ℕ → ℕ → List (List ℕ)
partitioned_components (Some l) filter company_digits company reference last =
    padded 1 filter ∷ padded company_digits company ∷ padded (unwrap_or (reference_digits l.rows company_digits) 0) reference
    ∷ (if l.zero_tail then [] else plain last ∷ [])
partitioned_components None filter company_digits company reference last = []

-- the components of an EPC
abbrev pub components_of : Parts → List (List ℕ)
components_of (Partitioned kind filter company_digits company reference last) = partitioned_components (layout_of kind) filter company_digits company reference last
components_of (General manager object_class serial) = plain manager ∷ plain object_class ∷ plain serial ∷ []

-- what each tag URI begins with
abbrev pub tag_start : List ℕ
tag_start = codes "urn:epc:tag:"

-- a scheme's name with its colon (58), then components joined by dots (46)
abbrev pub scheme_text : Kind → List ℕ → List ℕ
scheme_text kind rest = scheme_name kind ++ 58 ∷ rest

-- the tag URI of an EPC
unfoldable pub tag_uri : Parts → List ℕ
tag_uri epc = tag_start ++ scheme_text (kind_of_parts epc) (join_with_byte 46 (components_of epc))

-- what each raw URI begins with
abbrev pub raw_start : List ℕ
raw_start = codes "urn:epc:raw:"

-- the length in bits, and that hexadecimal digits follow
abbrev pub raw_length : List ℕ
raw_length = codes "96.x"

-- the raw URI of a word
unfoldable pub raw_uri : ℕ → List ℕ
raw_uri word = raw_start ++ (raw_length ++ hexadecimal 24 word)

-- the text of a word: the tag URI of its EPC, or its raw URI where it has none
abbrev pub IsTextOf : ℕ → List ℕ → Type 0
IsTextOf word text =
    ((epc : Parts) × HasWord epc word × (text ≡ tag_uri epc))
    ⊎ (((epc : Parts) → HasWord epc word → ⊥) × (text ≡ raw_uri word))

-- the components of a text between dots
unfoldable pub components : List ℕ → List (List ℕ)
components text = slice_split (λ b. b == 46) text

-- whether one of the components has a form and a text that a test finds
abbrev pub some_component : (Form → List ℕ → Bool) → List Form → List (List ℕ) → Bool
some_component test [] texts = false
some_component test (form ∷ forms) [] = false
some_component test (form ∷ forms) (text ∷ texts) = test form text || some_component test forms texts

-- whether a text has a character other than 0 to 9
abbrev pub is_strange : List ℕ → Bool
is_strange text = not (all_ascii_digits text)

-- whether a component has a character other than 0 to 9, or is empty; the reference may be empty
abbrev pub is_stray : Form → List ℕ → Bool
is_stray Reference text = is_strange text
is_stray form text = is_strange text || (length text == 0)

-- whether a text has two or more digits and begins with 0
abbrev pub is_zero_led : List ℕ → Bool
is_zero_led text = nat_lt 1 (length text) && (slice_index text 0 == 48)

-- whether a number without fixed digits has a leading zero
abbrev pub has_leading_zero : Form → List ℕ → Bool
has_leading_zero (Number width) text = is_zero_led text
has_leading_zero form text = false

-- whether a text is not one digit 0 to 7
abbrev pub is_no_filter : List ℕ → Bool
is_no_filter text = not (length text == 1) || nat_lt 55 (slice_index text 0)

-- whether a filter value is not one digit 0 to 7
abbrev pub is_wrong_filter : Form → List ℕ → Bool
is_wrong_filter Filter text = is_no_filter text
is_wrong_filter form text = false

-- whether the partition table has no row of this many digits of the company prefix and of the reference
abbrev pub is_no_row : List Row → ℕ → ℕ → Bool
is_no_row rows company_digits digits = not (unwrap_or (option_map (λ k. k == digits) (reference_digits rows company_digits)) false)

-- whether company prefix and reference, the second and third component, have wrong digits
abbrev pub has_wrong_digits : Option Layout → List (List ℕ) → Bool
has_wrong_digits (Some l) (filter ∷ company ∷ reference ∷ texts) = is_no_row l.rows (length company) (length reference)
has_wrong_digits l texts = false

-- whether a number has more than its bits
abbrev pub is_above : Form → List ℕ → Bool
is_above (Number width) text = nat_le (2 ^ width) (decimal_value text)
is_above form text = false

-- the rules that refuse components, in their order: each a test and the fault that it names
abbrev pub rules_of : Option Layout → List (List ℕ) → List (Bool × UriFault)
rules_of l texts =
    (not (length texts == length (forms_of l)), fault.Parts)
    ∷ (some_component is_stray (forms_of l) texts, fault.Digit)
    ∷ (some_component has_leading_zero (forms_of l) texts, fault.LeadingZero)
    ∷ (some_component is_wrong_filter (forms_of l) texts, fault.Filter)
    ∷ (has_wrong_digits l texts, fault.Digits)
    ∷ (some_component is_above (forms_of l) texts, fault.Range)
    ∷ []

-- the first rule that applies
abbrev pub first_rule : List (Bool × UriFault) → Option UriFault
first_rule [] = None
first_rule (rule ∷ rules) = if rule.0 then Some rule.1 else first_rule rules

-- the first rule that refuses components
unfoldable pub refusal : Option Layout → List (List ℕ) → Option UriFault
refusal l texts = first_rule (rules_of l texts)

-- a text of a scheme whose components a rule refuses
pub record HasWrongComponents (text : List ℕ) (fault : UriFault) : Type 0 where
  pub kind : Kind
  pub rest : List ℕ
  pub named : text ≡ tag_start ++ scheme_text kind rest
  pub refused : refusal (layout_of kind) (components rest) ≡ Some fault

-- the first rule that refuses a text as a tag URI
abbrev pub HasTagFault : List ℕ → UriFault → Type 0
HasTagFault text fault.Start = (rest : List ℕ) → text ≡ tag_start ++ rest → ⊥
HasTagFault text fault.Scheme = (rest : List ℕ) × (text ≡ tag_start ++ rest) × ((kind : Kind) (more : List ℕ) → rest ≡ scheme_text kind more → ⊥)
HasTagFault text fault = HasWrongComponents text fault

-- 24 characters 0 to 9 and A to F
pub record AreWordDigits (text : List ℕ) : Type 0 where
  pub count : length text ≡ 24
  pub digits : AllPass is_upper_digit text

-- the rules for a text that begins as a raw URI
abbrev pub HasRawFault : List ℕ → UriFault → Type 0
HasRawFault text fault.RawForm = (digits : List ℕ) → text ≡ raw_start ++ (raw_length ++ digits) → AreWordDigits digits → ⊥
HasRawFault text fault.RawOfLawful = (word : ℕ) × (word < 2 ^ 96) × (text ≡ raw_uri word) × (epc : Parts) × HasWord epc word
HasRawFault text fault = ⊥

-- the first rule that refuses a text as a word's: those of raw URIs where it begins as one, else those of tag URIs
abbrev pub HasTextFault : List ℕ → UriFault → Type 0
HasTextFault text fault =
    ((rest : List ℕ) × (text ≡ raw_start ++ rest) × HasRawFault text fault)
    ⊎ (((rest : List ℕ) → text ≡ raw_start ++ rest → ⊥) × HasTagFault text fault)

-- the name of a rule
abbrev pub fault_name : UriFault → List ℕ
fault_name fault.Start = codes "Start"
fault_name fault.Scheme = codes "Scheme"
fault_name fault.Parts = codes "Parts"
fault_name fault.Digit = codes "Digit"
fault_name fault.LeadingZero = codes "LeadingZero"
fault_name fault.Filter = codes "Filter"
fault_name fault.Digits = codes "Digits"
fault_name fault.Range = codes "Range"
fault_name fault.RawForm = codes "RawForm"
fault_name fault.RawOfLawful = codes "RawOfLawful"
