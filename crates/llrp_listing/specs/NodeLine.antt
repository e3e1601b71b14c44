-- The line of a message or of a parameter in a listing, and its text. Texts are lists of ASCII codes: 10 is LF, 32 a space, 44 a comma, 45 a minus.
use Rattle.std.specs.Prelude.{◌≡◌, ℕ, ◌-◌, ◌==◌, nat_lt, if◌then◌else◌, List, [], ◌∷◌, ◌++◌, map, decimal}
use Rattle.std.specs.List.{flat_map, join_with_byte}
use Rattle.hex.specs.Hex.{encode_lower}
use Rattle.llrp_schema.specs.declared.kinds.ParamKind.{ParamKind}
use Rattle.llrp_schema.specs.declared.kinds.Kind.{Kind}
use Rattle.llrp_schema.specs.declared.kinds.Kind.TheVariants.{Message, Parameter}
use Rattle.llrp_schema.specs.declared.kinds.Tail.{Tail}
use Rattle.llrp_schema.specs.declared.kinds.Tail.TheVariants.{Absent, Words, Text, Bits, Data}
use Rattle.llrp_schema.specs.Schema.{FieldRule, name_of, plain_fields_of, tail_of}
use Rattle.llrp_tree.specs.Tree.{MessageTree, words_of}
use Rattle.tag_uri.specs.TagText.{IsTextOf}

-- What is on one line: the kind, the numbers (a message's version and id, and then the plain fields), and the octets of the tail.
pub record NodeLine : Type 0 where
  pub kind : Kind
  pub numbers : List ℕ
  pub tail : List ℕ

-- the line of a message
abbrev pub message_line : MessageTree → NodeLine
message_line m = record { kind = Message m.kind; numbers = m.version ∷ m.id ∷ m.fields; tail = m.tail }

-- the line of a parameter
abbrev pub parameter_line : ParamKind → List ℕ → List ℕ → NodeLine
parameter_line kind fields tail = record { kind = Parameter kind; numbers = fields; tail = tail }

-- ---- numbers

-- what a number is: a message's version or id, a field without a sign, one with a sign, or the 96 bits of an EPC
pub data NumberForm : Type 0 where
  Version : NumberForm
  Id : NumberForm
  Unsigned : NumberForm
  Signed : NumberForm
  Epc : NumberForm

-- what a plain field is: only that of EPC-96 has 96 bits
abbrev pub field_form : FieldRule → NumberForm
field_form rule = if rule.width == 96 then Epc else (if rule.signed then Signed else Unsigned)

-- what the numbers of a kind's line are, in order
unfoldable pub number_forms : Kind → List NumberForm
number_forms (Message kind) = Version ∷ Id ∷ map field_form (plain_fields_of (Message kind))
number_forms (Parameter kind) = map field_form (plain_fields_of (Parameter kind))

-- eight bits that are a number in two's complement, in decimal
abbrev pub signed_text : ℕ → List ℕ
signed_text bits = if nat_lt bits 128 then decimal bits else 45 ∷ decimal (256 - bits)

-- the text of a number: decimal, or for an EPC's word the word's text
abbrev pub IsNumberText : NumberForm → ℕ → List ℕ → Type 0
IsNumberText Version n text = text ≡ decimal n
IsNumberText Id n text = text ≡ decimal n
IsNumberText Unsigned n text = text ≡ decimal n
IsNumberText Signed n text = text ≡ signed_text n
IsNumberText Epc n text = IsTextOf n text

-- the texts of numbers, one for each
abbrev pub AreNumberTexts : List NumberForm → List ℕ → List (List ℕ) → Type 0
AreNumberTexts [] [] [] = Unit {0}
AreNumberTexts (f ∷ fs) (n ∷ ns) (w ∷ ws) = IsNumberText f n w × AreNumberTexts fs ns ws
AreNumberTexts _ _ _ = ⊥

-- ---- tails

-- 'w' (119), and the words in decimal, joined by commas
abbrev pub word_list_text : List ℕ → List ℕ
word_list_text octets = 119 ∷ join_with_byte 44 (map decimal (words_of octets))

-- 'x' (120), and the octets in lower-case hexadecimal
abbrev pub octets_text : List ℕ → List ℕ
octets_text octets = 120 ∷ encode_lower octets

-- the text of a tail, where the kind has one
abbrev pub tail_texts : Tail → List ℕ → List (List ℕ)
tail_texts Absent tail = []
tail_texts Words tail = word_list_text tail ∷ []
tail_texts Text tail = octets_text tail ∷ []
tail_texts Bits tail = octets_text tail ∷ []
tail_texts Data tail = octets_text tail ∷ []

-- ---- lines

-- words with a space before each
abbrev pub spaced : List (List ℕ) → List ℕ
spaced words = flat_map (λ word. 32 ∷ word) words

-- The text of a line at its level, with its LF: the level, the name, the numbers and the tail, as words with one space between two.
pub record IsLine (line : ℕ × NodeLine) (text : List ℕ) : Type 0 where
  pub numbers : List (List ℕ)
  pub are : AreNumberTexts (number_forms line.1.kind) line.1.numbers numbers
  pub text_is : text ≡ decimal line.0 ++ (spaced (name_of line.1.kind ∷ (numbers ++ tail_texts (tail_of line.1.kind) line.1.tail)) ++ (10 ∷ []))
