-- The text of lines: the bit, the width and the level in decimal, the name and what stands there, with spaces (32) between them and LF (10) after them; and the same as people read it.
use Rattle.std.specs.Prelude.{ℕ, ◌+◌, ◌-◌, List, [], ◌∷◌, ◌++◌, Bool, ◌&&◌, if◌then◌else◌, Option, Some, None, codes, decimal, cond, nat_eq, nat_lt}
use Rattle.std.specs.Cmp.Lexicographic.{pointwise}
use Rattle.std.specs.List.{list_any}
use Rattle.llrp_schema.specs.declared.kinds.Kind.{Kind}
use Rattle.llrp_schema.specs.Schema.{fields_of, name_of}
use Rattle.llrp_enumerations.specs.Calls.Enumerations.{value_name}
use Rattle.hex.specs.Hex.{encode_lower}
use Rattle.llrp_explain.specs.Calls.ExplainLines.{Standing, ANumber, Octets, ExplainLine, standing_bits}

-- a number in decimal; 'x' (120), and octets in lower-case hexadecimal
abbrev pub standing_text : Standing → List ℕ
standing_text (ANumber value) = decimal value
standing_text (Octets octets) = 120 ∷ encode_lower octets

abbrev pub words_text : (bit width level : ℕ) → (name what : List ℕ) → List ℕ
words_text bit width level name what = decimal bit ++ (32 ∷ (decimal width ++ (32 ∷ (decimal level ++ (32 ∷ (name ++ (32 ∷ (what ++ (10 ∷ [])))))))))

-- the columns before what stands there
abbrev pub columns_text : (bit width level : ℕ) → (name : List ℕ) → List ℕ
columns_text bit width level name = decimal bit ++ (32 ∷ (decimal width ++ (32 ∷ (decimal level ++ (32 ∷ (name ++ (32 ∷ [])))))))

abbrev pub line_text : ℕ → ExplainLine → List ℕ
line_text bit l = words_text bit (standing_bits l.bits l.standing) l.level l.name (standing_text l.standing)

-- The text of lines from a bit on. A line of no bits (a tail of no octets) has no text.
unfoldable pub lines_text : ℕ → List ExplainLine → List ℕ
lines_text bit [] = []
lines_text bit (l ∷ lines) = cond (nat_eq (standing_bits l.bits l.standing) 0) (lines_text bit lines) (line_text bit l ++ lines_text (bit + standing_bits l.bits l.standing) lines)

-- ---- as people read them

-- the kind whose fields come after a line: that of the last head
abbrev pub later_kind : Option Kind → Option Kind → Option Kind
later_kind before None = before
later_kind before (Some kind) = Some kind

abbrev pub kind_after_line : Option Kind → ExplainLine → Option Kind
kind_after_line before l = later_kind before l.kind

-- the kind whose fields come after lines; one of no bits is of no kind
unfoldable pub kind_after : Option Kind → List ExplainLine → Option Kind
kind_after before [] = before
kind_after before (l ∷ lines) = kind_after (cond (nat_eq (standing_bits l.bits l.standing) 0) before (kind_after_line before l)) lines

-- whether the field of a kind with a name is a signed octet, in two's complement
abbrev pub is_signed : Kind → (name : List ℕ) → (width : ℕ) → Bool
is_signed kind name width = nat_eq width 8 && list_any (λ r. r.signed && pointwise nat_eq r.name name) (fields_of kind)

-- an octet in two's complement: '-' (45) before a negative number
abbrev pub signed_text : ℕ → List ℕ
signed_text value = if nat_lt value 128 then decimal value else 45 ∷ decimal (256 - value)

-- the number of a field of a kind
abbrev pub number_text : Kind → (name : List ℕ) → (width value : ℕ) → List ℕ
number_text kind name width value = if is_signed kind name width then signed_text value else decimal value

-- what stands in a field of a kind
abbrev pub field_value : Option Kind → (name : List ℕ) → (width : ℕ) → Standing → List ℕ
field_value None name width standing = standing_text standing
field_value (Some kind) name width (ANumber value) = number_text kind name width value
field_value (Some kind) name width (Octets octets) = standing_text (Octets octets)

-- the name of its number
abbrev pub name_or_none : Option (List ℕ) → List ℕ
name_or_none None = []
name_or_none (Some name) = name

abbrev pub field_reading : Option Kind → (name : List ℕ) → Standing → List ℕ
field_reading None name standing = []
field_reading (Some kind) name (ANumber value) = name_or_none (value_name kind name value)
field_reading (Some kind) name (Octets octets) = []

-- what stands in a line that is after the head of a kind; the type in a head is the number of its own kind
abbrev pub line_value : Option Kind → Option Kind → ExplainLine → List ℕ
line_value before (Some kind) l = standing_text l.standing
line_value before None l = field_value before l.name l.bits l.standing

-- what people read there: the name of a kind, or of a number
abbrev pub line_reading : Option Kind → Option Kind → ExplainLine → List ℕ
line_reading before (Some kind) l = name_of kind
line_reading before None l = field_reading before l.name l.standing

-- a tab (9) before a reading
abbrev pub tabbed : List ℕ → List ℕ
tabbed [] = []
tabbed (c ∷ reading) = 9 ∷ c ∷ reading

abbrev pub read_text : Option Kind → ℕ → ExplainLine → List ℕ
read_text before bit l = words_text bit (standing_bits l.bits l.standing) l.level l.name (line_value before l.kind l ++ tabbed (line_reading before l.kind l))

-- The text of lines from a bit on, as lines_text has it, with their readings.
unfoldable pub readings_text : Option Kind → ℕ → List ExplainLine → List ℕ
readings_text before bit [] = []
readings_text before bit (l ∷ lines) =
    cond (nat_eq (standing_bits l.bits l.standing) 0) (readings_text before bit lines) (read_text before bit l ++ readings_text (kind_after_line before l) (bit + standing_bits l.bits l.standing) lines)

-- the bit of a fault, and the octet that has it
abbrev pub fault_place : (bit octet : ℕ) → List ℕ
fault_place bit octet = codes "fault at bit " ++ (decimal bit ++ (codes ", octet " ++ (decimal octet ++ codes ": ")))
