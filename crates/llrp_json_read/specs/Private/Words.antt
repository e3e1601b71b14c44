-- What the functions that read objects promise.
use Rattle.llrp_json_read.specs.declared.names.ObjectMember.{ObjectMember}
use Rattle.llrp_json_read.specs.declared.refusal.ReadErr.{ReadErr}
use Rattle.llrp_json_read.specs.declared.refusal.ReadErr.TheVariants as error
use Rattle.llrp_json_read.specs.ObjectRefused.{at_place}
use Rattle.llrp_json_read.specs.Calls.ReadErrors.{told}
use Rattle.std.specs.Prelude.{◌≡◌, ℕ, ◌+◌, ◌-◌, ◌*◌, ◌^◌, ◌<◌, ◌==◌, nat_le, nat_lt, not, ◌&&◌, Bool, false, List, [], ◌∷◌, ◌++◌, Some, codes, decimal, filter, map}
use Rattle.std.specs.List.{list_any}
use Rattle.hex.specs.Hex.{encode_lower}
use Rattle.json.specs.Find.{as_number}
use Rattle.json.specs.Json.{Json, number, Items, item}
use Rattle.llrp_schema.specs.declared.kinds.Tail.TheVariants.{Words}
use Rattle.llrp_tree.specs.Lawful.{AreOctets}
use Rattle.llrp_tree.specs.Tree.{words_of}
use Rattle.llrp_json_read.specs.MemberRules.{field_member}
use Rattle.llrp_json_read.specs.ObjectMembers.{MemberRule}
use Rattle.llrp_json_read.specs.ObjectSays.{SaysNumber, SaysParts, numbers}
use Rattle.llrp_schema.specs.declared.kinds.Kind.TheVariants.{Message}
use Rattle.llrp_schema.specs.declared.kinds.KindSet.{KindSet}
use Rattle.llrp_schema.specs.declared.kinds.MsgKind.{MsgKind}
use Rattle.llrp_schema.specs.Schema.{FieldRule}
use Rattle.llrp_listing.specs.NodeLine.{NumberForm, Version, Id, Unsigned, Signed, Epc, field_form}
use Rattle.llrp_listing.specs.LineChecks.{IsTailOf}

-- the greatest value of a field of each form that the tables have: 64 bits without a sign, all values of 8 bits with one, all of 96 of an EPC
abbrev pub is_greatest : NumberForm → ℕ → Bool
is_greatest Version g = false
is_greatest Id g = false
is_greatest Unsigned g = nat_lt g (2 ^ 64)
is_greatest Signed g = g == 255
is_greatest Epc g = g == 2 ^ 96 - 1

abbrev pub is_readable : FieldRule → Bool
is_readable rule = is_greatest (field_form rule) rule.greatest

-- the plain ones of some fields
abbrev pub plain : List FieldRule → List FieldRule
plain rules = filter (λ rule. not rule.reserved) rules

-- the members of the plain ones of some fields
abbrev pub field_members : List FieldRule → List MemberRule
field_members rules = map field_member (plain rules)

-- ---- tails

-- the values are the words that the octets make, and this many octets make words
abbrev pub SaysWords : Items → List ℕ → Type 0
SaysWords values tail = IsTailOf Words tail × (values ≡ numbers (words_of tail))

-- The octets of a number of 16 bits were appended.
pub record AppendsNumber (j : Json) (old new : List ℕ) : Type 0 where
  pub high : ℕ
  pub low : ℕ
  pub high_octet : high < 256
  pub low_octet : low < 256
  pub word : as_number j ≡ Some (decimal (256 * high + low))
  pub more : new ≡ old ++ (high ∷ low ∷ [])

-- the value is no number of 16 bits
abbrev pub IsNoNumber : Json → Type 0
IsNoNumber j = (n : ℕ) → n < 2 ^ 16 → as_number j ≡ Some (decimal n) → ⊥

-- some octet is a capital letter
abbrev pub has_capital : List ℕ → Bool
has_capital octets = list_any (λ b. nat_le 65 b && nat_le b 90) octets

-- the digits are those of the octets
abbrev pub AreDigitsOf : List ℕ → List ℕ → Type 0
AreDigitsOf digits tail = AreOctets tail × (digits ≡ encode_lower tail)

-- numbers before the values of an array
abbrev pub numbers_before : List ℕ → Items → Items
numbers_before [] rest = rest
numbers_before (w ∷ ws) rest = item (number (decimal w)) (numbers_before ws rest)

-- ---- messages

-- A value says these parts of a message, whatever the parameters below it are.
pub record MessageParts (p : KindSet) (j : Json) (kind : MsgKind) (version id : ℕ) (fields tail : List ℕ) : Type 0 where
  pub parts : SaysParts p (Message kind) j fields tail
  pub version_said : SaysNumber Version (codes "version") j version
  pub id_said : SaysNumber Id (codes "id") j id

-- ---- what the program's values say

-- what a member of the program says
abbrev pub member_rule : ObjectMember → MemberRule
member_rule m = record { name = m.name.now; shape = m.shape; optional = m.optional }

-- the error of the parameter with this place became one of its parent
abbrev pub IsMoved : ℕ → ReadErr → ReadErr → Type 0
IsMoved place before error.Memory = Unit {0}
IsMoved place error.Memory (error.Refused refusal) = ⊥
IsMoved place (error.Refused inner) (error.Refused refusal) = told refusal ≡ at_place place (told inner)
