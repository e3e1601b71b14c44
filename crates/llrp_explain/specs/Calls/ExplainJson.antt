-- The text of a frame as an object of JSON (RFC 8259): each line of a field is one object, with the same five columns.
use Rattle.std.specs.Prelude.{◌≡◌, ℕ, ◌^◌, ◌<◌, List, [], ◌∷◌, ◌++◌, length, get_or, Option, Bool, true, false, ◌&&◌, ◌==◌, not, nat_le, if◌then◌else◌, drop, codes, decimal}
use Rattle.std.specs.List.{flat_map, slice_split, before_first, after_first, before_last, after_last}
use Rattle.hex.specs.Hex.{encode_lower, IsBytes}
use Rattle.llrp_schema.specs.declared.kinds.Kind.{Kind}
use Rattle.llrp_explain.specs.Calls.ExplainText.{line_reading, line_value}
use Rattle.llrp_explain.specs.Calls.ExplainLines.{Standing, ANumber, Octets, ExplainLine, standing_bits}
use Rattle.llrp_explain.specs.declared.json.LineKind.{LineKind}
use Rattle.llrp_explain.specs.declared.json.LineKind.TheVariants.{Field, Heading, Fault, Other}

-- ---- strings

-- printable ASCII but for a quote (34) and a backslash (92)
abbrev pub is_plain : ℕ → Bool
is_plain c = nat_le 32 c && (nat_le c 126 && (not (c == 34) && not (c == 92)))

-- an octet of a string, or where it is not plain \u and four hexadecimal digits
abbrev pub string_octet : ℕ → List ℕ
string_octet c = if is_plain c then c ∷ [] else codes "\\u00" ++ encode_lower (c ∷ [])

-- a text between quotes
abbrev pub json_string : List ℕ → List ℕ
json_string text = 34 ∷ (flat_map string_octet text ++ (34 ∷ []))

-- ---- a field

abbrev pub is_space : ℕ → Bool
is_space c = c == 32

abbrev pub first_word : List ℕ → List ℕ
first_word text = before_first is_space text

abbrev pub other_words : List ℕ → List ℕ
other_words text = after_first is_space text

-- what stands in a field: octets, whose digits come after x (120) in the text, or a number
abbrev pub standing_json : List ℕ → List ℕ
standing_json [] = codes "\"value\":"
standing_json (c ∷ digits) = if c == 120 then codes "\"hex\":\"" ++ (digits ++ codes "\"") else codes "\"value\":" ++ (c ∷ digits)

-- a field that is refused says so
abbrev pub field_end : Bool → List ℕ
field_end true = codes ",\"refused\":true}"
field_end false = codes "}"

abbrev pub is_tab : ℕ → Bool
is_tab c = c == 9

-- the reading of a field's number, if it has one
abbrev pub reading_json : List ℕ → List ℕ
reading_json [] = []
reading_json (c ∷ reading) = codes ",\"reading\":" ++ json_string (c ∷ reading)

-- The members of the columns BIT WIDTH LEVEL FIELD VALUE: the name may have spaces, and the value is what stands after the last one.
unfoldable pub columns_json : List ℕ → List ℕ
columns_json columns =
    let after_bit = other_words columns in
    let after_width = other_words after_bit in
    let after_level = other_words after_width in
    codes "{\"bit\":" ++ (first_word columns ++ (codes ",\"width\":" ++ (first_word after_bit ++ (codes ",\"name\":" ++ (json_string (before_last is_space after_level) ++ (codes ",\"level\":" ++ (first_word after_width ++ (codes "," ++ standing_json (after_last is_space after_level)))))))))

-- The object of a field's line: its columns, and after a tab its reading.
unfoldable pub field_json : (refused : Bool) → List ℕ → List ℕ
field_json refused line = columns_json (before_first is_tab line) ++ (reading_json (after_first is_tab line) ++ field_end refused)

-- ---- a field by its columns

-- what stands in a line: octets, or a number by its text
abbrev pub value_member : Standing → (text : List ℕ) → List ℕ
value_member (ANumber value) text = codes "\"value\":" ++ text
value_member (Octets octets) text = codes "\"hex\":\"" ++ (encode_lower octets ++ codes "\"")

-- the members of a line that begins at this bit, whose value has this text
abbrev pub line_columns : (bit : ℕ) → ExplainLine → (text : List ℕ) → List ℕ
line_columns bit l text =
    codes "{\"bit\":" ++ (decimal bit ++ (codes ",\"width\":" ++ (decimal (standing_bits l.bits l.standing) ++ (codes ",\"name\":" ++ (json_string l.name ++ (codes ",\"level\":" ++ (decimal l.level ++ (codes "," ++ value_member l.standing text))))))))

-- the object of a line after the head of a kind
abbrev pub line_object : Option Kind → (refused : Bool) (bit : ℕ) → ExplainLine → List ℕ
line_object before refused bit l = line_columns bit l (line_value before l.kind l) ++ (reading_json (line_reading before l.kind l) ++ field_end refused)

-- a number of 64 digits at most, or octets
abbrev pub IsShort : Standing → Type 0
IsShort (ANumber value) = value < 10 ^ 64
IsShort (Octets octets) = IsBytes octets

-- a line whose numbers have 64 digits at most, and whose name has no tab
pub record HasShortColumns (bit : ℕ) (l : ExplainLine) : Type 0 where
  pub bit_short : bit < 10 ^ 64
  pub width_short : standing_bits l.bits l.standing < 10 ^ 64
  pub level_short : l.level < 10 ^ 64
  pub standing_short : IsShort l.standing
  pub name_short : (k : ℕ) → k < length l.name → is_tab (get_or l.name k 0) ≡ false

-- ---- a fault

abbrev pub is_comma : ℕ → Bool
is_comma c = c == 44

abbrev pub is_colon : ℕ → Bool
is_colon c = c == 58

-- The object of a fault's line, fault at bit BIT, octet OCTET: REASON: TEXT, after its first 13 octets.
unfoldable pub fault_json : List ℕ → List ℕ
fault_json line =
    let place = drop 13 line in
    let later = drop 7 (after_first is_comma place) in
    let sentence = drop 1 (after_first is_colon later) in
    codes "{\"bit\":" ++ (before_first is_comma place ++ (codes ",\"octet\":" ++ (before_first is_colon later ++ (codes ",\"reason\":" ++ (json_string (before_first is_colon sentence) ++ (codes ",\"text\":" ++ (json_string (drop 1 (after_first is_colon sentence)) ++ codes "}")))))))

-- ---- a frame

-- a line of a field begins with a digit, the heading of what is refused with t (116), and the line of the fault with f (102)
abbrev pub kind_of_line : List ℕ → LineKind
kind_of_line [] = Other
kind_of_line (c ∷ line) = if nat_le 48 c && nat_le c 57 then Field else (if c == 116 then Heading else (if c == 102 then Fault else Other))

-- a comma before each field but the first
abbrev pub separator : Bool → List ℕ
separator true = []
separator false = codes ","

-- What a line adds to the object, and then `later`: fields come after those that came, if any did, and in what is refused or before it. A fault comes last.
abbrev pub line_json : LineKind → (first refused : Bool) → List ℕ → (later : Bool → Bool → List ℕ) → List ℕ
line_json Field first refused line later = separator first ++ (field_json refused line ++ later false refused)
line_json Heading first refused line later = later first true
line_json Fault first refused line later = codes "],\"fault\":" ++ (fault_json line ++ codes "}\n")
line_json Other first refused line later = later first refused

-- the fields of lines, and the end of the object
unfoldable pub lines_json : List (List ℕ) → (first refused : Bool) → List ℕ
lines_json [] first refused = codes "]}\n"
lines_json (line ∷ lines) first refused = line_json (kind_of_line line) first refused line (lines_json lines)

-- what stands between LF (10)
abbrev pub lines_of : List ℕ → List (List ℕ)
lines_of text = slice_split (λ c. c == 10) text

-- The object of a frame by its number, how many octets it has, and the text of its fields and its fault; it ends with LF.
unfoldable pub frame_json : (number octets : ℕ) → List ℕ → List ℕ
frame_json number octets text = codes "{\"frame\":" ++ (decimal number ++ (codes ",\"octets\":" ++ (decimal octets ++ (codes ",\"fields\":[" ++ lines_json (lines_of text) true false))))
