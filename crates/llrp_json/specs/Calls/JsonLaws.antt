-- An item is known from its line, and the items of a stream from its lines.
use Rattle.std.specs.Prelude.{◌≡◌, ℕ, ◌^◌, ◌<◌, List, [], ◌∷◌, ◌++◌, codes, map}
use Rattle.std.specs.List.{AllByRecursion, AllPairs}
use Rattle.llrp_schema.specs.declared.kinds.Kind.{Kind}
use Rattle.llrp_schema.specs.declared.kinds.Kind.TheVariants.{Message, Parameter}
use Rattle.llrp_schema.specs.declared.kinds.KindSet.{KindSet}
use Rattle.llrp_schema.specs.declared.kinds.Tail.{Tail}
use Rattle.llrp_schema.specs.declared.kinds.Tail.TheVariants.{Absent, Words, Text, Bits, Data}
use Rattle.llrp_schema.specs.Schema.{plain_fields_of, set_of_kind, tail_of}
use Rattle.llrp_tree.specs.Lawful.{IsLawfulMessage}
use Rattle.llrp_stream.specs.declared.item.Item.{Item}
use Rattle.llrp_stream.specs.declared.item.Item.TheVariants.{Msg, Bad}
use Rattle.llrp_stream.specs.declared.item.End.{End}
use Rattle.llrp_stream.specs.declared.item.End.TheVariants.{Rest}
use Rattle.llrp_listing.specs.StreamListing.{IsStreamText}
use Rattle.llrp_json.specs.JsonItems.{field_name}
use Rattle.llrp_json.specs.JsonLines.{IsItemJson, end_json}

-- A lawful message of this set of kinds, or a fault whose id has 32 bits and whose bit is numbered in 64. Both sets have a KEEPALIVE, with one name.
abbrev pub IsLawfulIn : KindSet → Item → Type 0
IsLawfulIn p (Msg message) = IsLawfulMessage message × (set_of_kind (Message message.kind) ≡ p)
IsLawfulIn p (Bad id fault) = (id < 2 ^ 32) × (fault.bit < 2 ^ 64)

-- No two items of a set of kinds have one line. In every text an object, an array and a string end at one place, and a number before what is no digit (RFC 8259, sections 4 to 7).
abbrev pub LinesAreApart : Type 0
LinesAreApart = (p : KindSet) (a b : Item) (line : List ℕ) → IsLawfulIn p a → IsLawfulIn p b → IsItemJson a line → IsItemJson b line → a ≡ b

-- the octets of an unfinished frame are counted in 64 bits
abbrev pub IsCounted : End → Type 0
IsCounted (Rest octets) = octets < 2 ^ 64
IsCounted _ = Unit {0}

-- The lines of a stream are those of one list of items of a set of kinds, and of an end with one line.
abbrev pub StreamsAreApart : Type 0
StreamsAreApart =
    (p : KindSet) (items others : List Item) (end last : End) (text : List ℕ) → AllByRecursion (IsLawfulIn p) items → AllByRecursion (IsLawfulIn p) others → IsCounted end → IsCounted last
    → IsStreamText IsItemJson end_json items end text → IsStreamText IsItemJson end_json others last text → (items ≡ others) × (end_json end ≡ end_json last)

-- ---- the members of an object

-- the name of a tail's member, where the kind has one
abbrev pub tail_names : Tail → List (List ℕ)
tail_names Absent = []
tail_names Words = codes "words" ∷ []
tail_names Text = codes "text" ∷ []
tail_names Bits = codes "bits" ∷ []
tail_names Data = codes "octets" ∷ []

-- the names of the members before the fields
abbrev pub first_names : Kind → List (List ℕ)
first_names (Message kind) = codes "message" ∷ codes "version" ∷ codes "id" ∷ []
first_names (Parameter kind) = codes "parameter" ∷ []

-- the names of the members of a kind's object, those that only some of its objects have among them
abbrev pub member_names : Kind → List (List ℕ)
member_names kind = first_names kind ++ (map field_name (plain_fields_of kind) ++ (tail_names (tail_of kind) ++ codes "parameters" ∷ []))

-- no two of them are the same (RFC 8259, section 4)
abbrev pub NamesAreApart : Type 0
NamesAreApart = (kind : Kind) → AllPairs (λ a b. a ≡ b → ⊥) (member_names kind)

-- ---- each item has a line

-- a lawful message, or any fault
abbrev pub IsLawfulItem : Item → Type 0
IsLawfulItem (Msg message) = IsLawfulMessage message
IsLawfulItem (Bad id fault) = Unit {0}

abbrev pub EachHasLine : Type 0
EachHasLine = (item : Item) → IsLawfulItem item → (line : List ℕ) × IsItemJson item line
