-- The tag URI of an EPC of a further scheme, and the first rule that refuses a text. Texts are lists of their UTF-8 octets.
-- Source: EPC Tag Data Standard 1.13, section 12, and for the segments section 14.5.
use Rattle.std.specs.Prelude.{◌≡◌, ℕ, ◌-◌, ◌^◌, ◌==◌, ◌||◌, nat_lt, nat_le, Bool, true, if◌then◌else◌, List, [], ◌∷◌, ◌++◌, length, drop, Some, option_map, unwrap_or}
use Rattle.std.specs.List.{join_with_byte}
use Rattle.tag_epc.specs.declared.kind.Kind.TheVariants.{Gdti, Gsrn}
use Rattle.tag_epc.specs.Layout.{row_at}
use Rattle.tag_uri.specs.declared.fault.UriFault.{UriFault}
use Rattle.tag_uri.specs.declared.fault.UriFault.TheVariants as fault
use Rattle.tag_uri.specs.Decimal.{decimal_value, padded, plain}
use Rattle.tag_uri.specs.TagText.{reference_digits, tag_start, scheme_text, components, is_strange, is_zero_led, is_no_filter, first_rule, HasTagFault}
use Rattle.tag_schemes.specs.declared.scheme.Scheme.{Scheme}
use Rattle.tag_schemes.specs.declared.scheme.Scheme.TheVariants.{Giai, Gsrnp, Sgcn, Cpi}
use Rattle.tag_schemes.specs.declared.numbers.Numbers.{Numbers}
use Rattle.tag_schemes.specs.Schemes.{layout_in, giai_96}

-- a reference as a component: that of GIAI-96 and CPI-96 without leading zeros, that of GSRNP-96 and SGCN-96 of as many digits as the table has beside a company prefix of this many
abbrev pub reference_text : Scheme → ℕ → ℕ → List ℕ
reference_text Giai company_digits reference = plain reference
reference_text Gsrnp company_digits reference = padded (unwrap_or (reference_digits (layout_in Gsrnp).rows company_digits) 0) reference
reference_text Cpi company_digits reference = plain reference
reference_text Sgcn company_digits reference = padded (unwrap_or (reference_digits (layout_in Sgcn).rows company_digits) 0) reference

-- the component after the reference: of SGCN-96 the digits of the last segment's number without the 1 before them, of CPI-96 those digits
abbrev pub serial_texts : Scheme → ℕ → List (List ℕ)
serial_texts Giai last = []
serial_texts Gsrnp last = []
serial_texts Sgcn last = drop 1 (plain last) ∷ []
serial_texts Cpi last = plain last ∷ []

-- the components of an EPC: filter value, company prefix, reference, and of SGCN-96 and CPI-96 the serial number
abbrev pub components_in : Numbers → List (List ℕ)
components_in epc = padded 1 epc.filter ∷ padded epc.company_digits epc.company ∷ reference_text epc.scheme epc.company_digits epc.reference ∷ serial_texts epc.scheme epc.last

-- a scheme's name with its colon (58), then what follows
abbrev pub text_in : Scheme → List ℕ → List ℕ
text_in scheme rest = (layout_in scheme).name ++ 58 ∷ rest

-- the tag URI of an EPC, with dots (46) between its components
unfoldable pub uri_in : Numbers → List ℕ
uri_in epc = tag_start ++ text_in epc.scheme (join_with_byte 46 (components_in epc))

-- how many bits the asset reference of GIAI-96 has beside a company prefix of this many digits
abbrev pub asset_bits : ℕ → ℕ
asset_bits company_digits = unwrap_or (option_map (λ r. r.reference_bits) (row_at giai_96 (12 - company_digits))) 0

-- whether a text has a character other than 0 to 9, or is empty
abbrev pub is_no_number : List ℕ → Bool
is_no_number text = is_strange text || (length text == 0)

-- the rules that refuse the components of a GIAI-96, in their order: each a test and the fault that it names
abbrev pub asset_rules : List (List ℕ) → List (Bool × UriFault)
asset_rules (filter ∷ company ∷ reference ∷ []) =
    (is_no_number filter || (is_no_number company || is_no_number reference), fault.Digit)
    ∷ (is_zero_led reference, fault.LeadingZero)
    ∷ (is_no_filter filter, fault.Filter)
    ∷ (nat_lt (length company) 6 || nat_lt 12 (length company), fault.Digits)
    ∷ (nat_le (2 ^ asset_bits (length company)) (decimal_value reference), fault.Range)
    ∷ []
asset_rules texts = (true, fault.Parts) ∷ []

-- how many digits the reference of CPI-96 has at most beside a company prefix of this many digits
abbrev pub part_digits : ℕ → ℕ
part_digits company_digits = unwrap_or (reference_digits (layout_in Cpi).rows company_digits) 0

-- the rules that refuse the components of a CPI-96, in their order
abbrev pub part_rules : List (List ℕ) → List (Bool × UriFault)
part_rules (filter ∷ company ∷ reference ∷ serial ∷ []) =
    (is_no_number filter || (is_no_number company || (is_no_number reference || is_no_number serial)), fault.Digit)
    ∷ (is_zero_led reference || is_zero_led serial, fault.LeadingZero)
    ∷ (is_no_filter filter, fault.Filter)
    ∷ (nat_lt (length company) 6 || nat_lt 12 (length company), fault.Digits)
    ∷ (nat_le (10 ^ part_digits (length company)) (decimal_value reference) || nat_le (2 ^ 31) (decimal_value serial), fault.Range)
    ∷ []
part_rules texts = (true, fault.Parts) ∷ []

-- the serial number of an SGCN-96 with a 1 (49) before it, if it has a character
abbrev pub one_before : List ℕ → List ℕ
one_before serial = if length serial == 0 then serial else 49 ∷ serial

-- the first rule that refuses the components of an SGCN-96: that of GDTI-96 with the same components and a 1 before the last
abbrev pub HasCouponFault : List (List ℕ) → UriFault → Type 0
HasCouponFault (filter ∷ company ∷ reference ∷ serial ∷ []) f = HasTagFault (tag_start ++ scheme_text Gdti (join_with_byte 46 (filter ∷ company ∷ reference ∷ one_before serial ∷ []))) f
HasCouponFault texts f = f ≡ fault.Parts

-- the first rule that refuses what follows a scheme's colon: of a GSRNP-96 the rule by which the tag URI of GSRN-96 with the same components is refused
abbrev pub HasFaultIn : Scheme → List ℕ → UriFault → Type 0
HasFaultIn Giai rest f = first_rule (asset_rules (components rest)) ≡ Some f
HasFaultIn Gsrnp rest f = HasTagFault (tag_start ++ scheme_text Gsrn rest) f
HasFaultIn Sgcn rest f = HasCouponFault (components rest) f
HasFaultIn Cpi rest f = first_rule (part_rules (components rest)) ≡ Some f
