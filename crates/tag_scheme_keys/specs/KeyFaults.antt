-- The first rule that refuses a text as a pure identity URI of a further scheme, or as the text of its key.
use Rattle.std.specs.Prelude.{◌≡◌, ℕ, ◌<◌, ◌≤◌, ◌==◌, ◌⊎◌, true, List, [], ◌∷◌, ◌++◌, length, take, drop, slice_index, codes, option_map, unwrap_or}
use Rattle.std.specs.List.{join_with_byte, before_first}
use Rattle.tag_epc.specs.declared.kind.Kind.{Kind}
use Rattle.tag_epc.specs.declared.kind.Kind.TheVariants.{Gdti, Gsrn}
use Rattle.tag_uri.specs.Calls.Decimal.{AreDigits}
use Rattle.tag_uri.specs.Decimal.{padded}
use Rattle.tag_uri.specs.TagText.{is_strange}
use Rattle.tag_schemes.specs.declared.scheme.Scheme.{Scheme}
use Rattle.tag_schemes.specs.declared.scheme.Scheme.TheVariants.{Giai, Gsrnp, Sgcn, Cpi}
use Rattle.tag_schemes.specs.Texts.{HasFaultIn}
use Rattle.tag_keys.specs.declared.fault.KeyFault.{KeyFault}
use Rattle.tag_keys.specs.declared.fault.KeyFault.TheVariants as key
use Rattle.tag_keys.specs.declared.spelling.Spelling.{Spelling}
use Rattle.tag_keys.specs.PureIdentity.{id_start}
use Rattle.tag_keys.specs.KeyText.{KeyForm, key_form, mark}
use Rattle.tag_keys.specs.KeyFaults.{IsNumber, HasKeyFault}
use Rattle.tag_scheme_keys.specs.PureIdentity.{id_text_in}
use Rattle.tag_scheme_keys.specs.KeyText.{start_in, gap}

-- the most octets that a text may have: this project's own bound, above the length of each
abbrev pub most_octets : ℕ
most_octets = 72

-- the components of a tag URI by those of a pure identity URI: the filter value and a dot (46) come in front of them
abbrev pub with_filter_in : ℕ → List ℕ → List ℕ
with_filter_in filter rest = padded 1 filter ++ 46 ∷ rest

-- the first rule that refuses a text as a pure identity URI; the last is one of those that refuse the tag URI with the filter value put in
abbrev pub HasIdFaultIn : ℕ → List ℕ → KeyFault → Type 0
HasIdFaultIn filter text key.Long = most_octets < length text
HasIdFaultIn filter text key.Start = (length text ≤ most_octets) × ((rest : List ℕ) → text ≡ id_start ++ rest → ⊥)
HasIdFaultIn filter text key.Scheme = (length text ≤ most_octets) × (rest : List ℕ) × (text ≡ id_start ++ rest) × ((scheme : Scheme) (more : List ℕ) → rest ≡ id_text_in scheme more → ⊥)
HasIdFaultIn filter text (key.Tag f) = (length text ≤ most_octets) × (scheme : Scheme) × (rest : List ℕ) × (text ≡ id_start ++ id_text_in scheme rest) × HasFaultIn scheme (with_filter_in filter rest) f
HasIdFaultIn filter text fault = ⊥

-- what the text of the key of one of the seven schemes begins with
abbrev pub older_start : Spelling → Kind → List ℕ
older_start s kind = unwrap_or (option_map (λ (f : KeyForm). f.start) (key_form s kind)) []

-- what follows the start of a GCN is 13 digits and, after the gap, one character or more
pub record SplitsCoupon (s : Spelling) (rest digits serial : List ℕ) : Type 0 where
  pub is : rest ≡ digits ++ (gap s ++ serial)
  pub count : length digits ≡ 13
  pub all_digits : AreDigits digits
  pub some : 0 < length serial

-- the same with a 1 (49) before the serial number, if there is one
abbrev pub IsWithOne : Spelling → List ℕ → List ℕ → Type 0
IsWithOne s rest with_one =
    ((digits : List ℕ) × (serial : List ℕ) × SplitsCoupon s rest digits serial × (with_one ≡ digits ++ (gap s ++ 49 ∷ serial)))
    ⊎ (((digits serial : List ℕ) → SplitsCoupon s rest digits serial → ⊥) × (with_one ≡ rest))

-- the first rule that refuses what follows the start of a GIAI, whose company prefix has `count` digits
abbrev pub AssetFails : ℕ → ℕ → List ℕ → KeyFault → Type 0
AssetFails filter count rest key.Length = length rest ≤ count
AssetFails filter count rest key.Digit = (count < length rest) × (is_strange rest ≡ true)
AssetFails filter count rest (key.Tag f) = (count < length rest) × AreDigits rest × HasFaultIn Giai (join_with_byte 46 (padded 1 filter ∷ take count rest ∷ drop count rest ∷ [])) f
AssetFails filter count rest fault = ⊥

-- the mark of the serial number of a CPID
abbrev pub serial_mark : Spelling → List ℕ
serial_mark s = mark s (codes "8011")

-- the characters in front of the first one of that mark, which no digit is
abbrev pub part_front : Spelling → List ℕ → List ℕ
part_front s rest = before_first (λ b. b == slice_index (serial_mark s) 0) rest

-- the first rule that refuses what follows the start of a CPID
abbrev pub PartFails : Spelling → ℕ → ℕ → List ℕ → KeyFault → Type 0
PartFails s filter count rest key.Length = length (part_front s rest) ≤ count
PartFails s filter count rest key.Digit = (count < length (part_front s rest)) × (is_strange (part_front s rest) ≡ true)
PartFails s filter count rest key.Serial =
    (count < length (part_front s rest)) × AreDigits (part_front s rest)
    × ((serial : List ℕ) → IsNumber serial → rest ≡ part_front s rest ++ (serial_mark s ++ serial) → ⊥)
PartFails s filter count rest (key.Tag f) =
    (count < length (part_front s rest)) × AreDigits (part_front s rest)
    × (serial : List ℕ) × IsNumber serial × (rest ≡ part_front s rest ++ (serial_mark s ++ serial))
    × HasFaultIn Cpi (join_with_byte 46 (padded 1 filter ∷ take count (part_front s rest) ∷ drop count (part_front s rest) ∷ serial ∷ [])) f
PartFails s filter count rest fault = ⊥

-- the first rule that refuses what follows the start of a key: of a GSRNP-96 that of the key of GSRN-96 with the same digits, of an SGCN-96 that of GDTI-96 with a 1 before the serial number
abbrev pub FailsAfter : Scheme → Spelling → ℕ → ℕ → List ℕ → KeyFault → Type 0
FailsAfter Giai s filter count rest fault = AssetFails filter count rest fault
FailsAfter Gsrnp s filter count rest fault = HasKeyFault s filter count (older_start s Gsrn ++ rest) fault
FailsAfter Sgcn s filter count rest fault = (with_one : List ℕ) × IsWithOne s rest with_one × HasKeyFault s filter count (older_start s Gdti ++ with_one) fault
FailsAfter Cpi s filter count rest fault = PartFails s filter count rest fault

-- a text that begins as the key of a scheme, and what follows
pub record BeginsKeyIn (s : Spelling) (text : List ℕ) (scheme : Scheme) (rest : List ℕ) : Type 0 where
  pub begins : text ≡ start_in s scheme ++ rest

-- the first rule that refuses a text as that of a key
abbrev pub HasKeyFaultIn : Spelling → ℕ → ℕ → List ℕ → KeyFault → Type 0
HasKeyFaultIn s filter count text fault =
    ((fault ≡ key.Long) × (most_octets < length text))
    ⊎ (((fault ≡ key.Start) × (length text ≤ most_octets) × ((scheme : Scheme) (rest : List ℕ) → BeginsKeyIn s text scheme rest → ⊥))
    ⊎ ((length text ≤ most_octets) × (scheme : Scheme) × (rest : List ℕ) × BeginsKeyIn s text scheme rest × FailsAfter scheme s filter count rest fault))
