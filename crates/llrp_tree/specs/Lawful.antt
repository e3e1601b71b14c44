-- Lawful parameters and messages.
use Rattle.std.specs.Prelude.{◌≡◌, ℕ, ◌+◌, ◌*◌, ◌/◌, ◌^◌, ◌<◌, ◌≤◌, ◌⊎◌, max, List, [], ◌∷◌, length, true, if◌then◌else◌, Option, None, Some, Bool, nat_le}
use Rattle.std.specs.Str.{IsUtf8}
use Rattle.llrp_schema.specs.declared.kinds.ParamKind.{ParamKind}
use Rattle.llrp_schema.specs.declared.kinds.Kind.{Kind}
use Rattle.llrp_schema.specs.declared.kinds.Kind.TheVariants.{Message, Parameter}
use Rattle.llrp_schema.specs.declared.kinds.Tail.{Tail}
use Rattle.llrp_schema.specs.declared.kinds.Tail.TheVariants.{Absent, Words, Text, Bits, Data}
use Rattle.llrp_schema.specs.Schema.{FieldRule, GroupRule, fields_of, plain_fields_of, bits_of, groups_of, tail_of, is_tv}
pub use Rattle.llrp_schema.specs.Schema.{is_member, has_place}
use Rattle.llrp_tree.specs.declared.TheConstants.{MAX_DEPTH, MAX_LIMIT, MAX_OCTETS}
use Rattle.llrp_tree.specs.Tree.{Forest, none, and, Tree, MessageTree}

-- ---- levels and octets

abbrev pub at_most : Option ℕ → ℕ → Bool
at_most None n = true
at_most (Some most) n = nat_le n most

-- how many levels of parameters there are
abbrev pub levels : Forest → ℕ
levels none = 0
levels (and before kind fields tail children) = max (levels before) (levels children + 1)

-- the octets of the count before a tail
abbrev pub count_octets : Tail → ℕ
count_octets Absent = 0
count_octets Words = 2
count_octets Text = 2
count_octets Bits = 0
count_octets Data = 0

-- the octets of the fields of a kind and of its tail
unfoldable pub body_octets : Kind → List ℕ → ℕ
body_octets kind tail = bits_of (fields_of kind) / 8 + count_octets (tail_of kind) + length tail

abbrev pub head_octets : ParamKind → ℕ
head_octets kind = if is_tv kind then 1 else 4

-- how many octets parameters take
abbrev pub octets : Forest → ℕ
octets none = 0
octets (and before kind fields tail children) = octets before + (head_octets kind + body_octets (Parameter kind) tail + octets children)

abbrev pub tree_octets : Tree → ℕ
tree_octets t = head_octets t.kind + body_octets (Parameter t.kind) t.tail + octets t.children

abbrev pub message_octets : MessageTree → ℕ
message_octets m = 10 + body_octets (Message m.kind) m.tail + octets m.children

-- ---- the rules of a kind

-- one value for each rule, and each in its range
abbrev pub AreInRange : List FieldRule → List ℕ → Type 0
AreInRange [] [] = Unit {0}
AreInRange [] (v ∷ values) = ⊥
AreInRange (r ∷ rules) [] = ⊥
AreInRange (r ∷ rules) (v ∷ values) = (v ≤ r.greatest) × AreInRange rules values

-- each is an octet
abbrev pub AreOctets : List ℕ → Type 0
AreOctets [] = Unit {0}
AreOctets (o ∷ os) = (o < 256) × AreOctets os

-- the first of some values, and those after it
abbrev pub first : List ℕ → ℕ
first [] = 0
first (v ∷ values) = v

abbrev pub others : List ℕ → List ℕ
others [] = []
others (v ∷ values) = values

-- The tail has its form. That of bits is filled up to whole octets; the first field counts them. Data is any octets.
abbrev pub IsTail : Tail → List ℕ → List ℕ → Type 0
IsTail Absent fields tail = tail ≡ []
IsTail Words fields tail = (words : ℕ) × (words ≤ 65535) × (length tail ≡ 2 * words)
IsTail Text fields tail = (length tail ≤ 65535) × IsUtf8 tail
IsTail Bits fields tail = length tail ≡ (first fields + 7) / 8
IsTail Data fields tail = Unit {0}

-- how many parameters of a row are of a group
unfoldable pub count : GroupRule → Forest → ℕ
count group none = 0
count group (and before kind fields tail children) = if is_member group kind then count group before + 1 else count group before

-- each parameter is of a kind that a group has
unfoldable pub ArePlaced : List GroupRule → Forest → Type 0
ArePlaced groups none = Unit {0}
ArePlaced groups (and before kind fields tail children) = ArePlaced groups before × (has_place groups kind ≡ true)

abbrev pub IsAtMost : ℕ → Option ℕ → Type 0
IsAtMost n None = Unit {0}
IsAtMost n (Some most) = n ≤ most

-- no group has more than its most
unfoldable pub NoneTooMany : List GroupRule → Forest → Type 0
NoneTooMany [] children = Unit {0}
NoneTooMany (g ∷ groups) children = IsAtMost (count g children) g.most × NoneTooMany groups children

-- no group has fewer than its least
unfoldable pub NoneMissing : List GroupRule → Forest → Type 0
NoneMissing [] children = Unit {0}
NoneMissing (g ∷ groups) children = (g.least ≤ count g children) × NoneMissing groups children

-- The parts are as the table has them for their kind.
pub record Obeys (kind : Kind) (fields tail : List ℕ) (children : Forest) : Type 0 where
  pub ranges : AreInRange (plain_fields_of kind) fields
  pub form : IsTail (tail_of kind) fields tail
  pub bytes : AreOctets tail
  pub placed : ArePlaced (groups_of kind) children
  pub most : NoneTooMany (groups_of kind) children
  pub least : NoneMissing (groups_of kind) children

-- ---- lawful parameters and messages

-- The parts are those of a parameter whose children are lawful.
pub record AreLawful (kind : ParamKind) (fields tail : List ℕ) (children : Forest) : Type 0 where
  pub obeys : Obeys (Parameter kind) fields tail children
  pub deep : levels children + 1 ≤ MAX_DEPTH
  pub long : head_octets kind + body_octets (Parameter kind) tail + octets children ≤ MAX_OCTETS

-- each parameter of the row is lawful, with all below it
abbrev pub AllLawful : Forest → Type 0
AllLawful none = Unit {0}
AllLawful (and before kind fields tail children) = AllLawful before × AreLawful kind fields tail children × AllLawful children

abbrev pub IsLawfulTree : Tree → Type 0
IsLawfulTree t = AreLawful t.kind t.fields t.tail t.children × AllLawful t.children

pub record IsLawfulMessage (m : MessageTree) : Type 0 where
  pub version : (m.version ≡ 1) ⊎ (m.version ≡ 2)
  pub id : m.id < 2 ^ 32
  pub obeys : Obeys (Message m.kind) m.fields m.tail m.children
  pub children : AllLawful m.children
  pub long : message_octets m ≤ MAX_LIMIT
