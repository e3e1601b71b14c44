-- The text of an open tree, whose innermost node has its leading parts.
use Rattle.std.specs.Prelude.{◌≡◌, ℕ, ◌*◌, length, Bool, true, false, List, [], ◌∷◌, ◌++◌, codes, decimal, map, Option, Some, None}
use Rattle.std.specs.List.{join_with_byte}
use Rattle.hex.specs.Hex.{encode_lower}
use Rattle.llrp_schema.specs.declared.kinds.Kind.TheVariants.{Message, Parameter}
use Rattle.llrp_schema.specs.declared.kinds.Tail.{Tail}
use Rattle.llrp_schema.specs.declared.kinds.Tail.TheVariants.{Absent, Words, Text, Bits, Data}
use Rattle.llrp_schema.specs.Schema.{FieldRule, name_of, plain_fields_of}
use Rattle.llrp_tree.specs.Tree.{Forest, none, and, words_of}
use Rattle.llrp_tree.specs.Spelling.{Head, message, tlv, tv}
use Rattle.llrp_tree.specs.OpenTree.{Begun, kind_of_head, plain_values, rules, form}
use Rattle.llrp_listing.specs.NodeLine.{field_form}
use Rattle.llrp_listing.specs.Calls.ItemPrinter.{IsMarked}
use Rattle.llrp_json.specs.JsonValues.{inside, string, member}
use Rattle.llrp_json.specs.JsonItems.{AreParameters, IsValue, field_name, more_members}

-- what an object begins with
abbrev pub opening : Head → List ℕ
opening (message version kind octets id) = 123 ∷ (member (codes "message") (string (name_of (Message kind))) ++ more_members (member (codes "version") (decimal version) ∷ member (codes "id") (decimal id) ∷ []))
opening (tlv kind octets) = 123 ∷ member (codes "parameter") (string (name_of (Parameter kind)))
opening (tv kind) = 123 ∷ member (codes "parameter") (string (name_of (Parameter kind)))

-- the members of the first plain fields
abbrev pub AreFirstFields : List FieldRule → List ℕ → List (List ℕ) → Type 0
AreFirstFields rs [] [] = Unit {0}
AreFirstFields (r ∷ rs) (n ∷ ns) (m ∷ ms) = ((value : List ℕ) × IsValue (field_form r) n value × (m ≡ member (field_name r) value)) × AreFirstFields rs ns ms
AreFirstFields _ _ _ = ⊥

-- what the member of a tail begins with, after its comma, and the octets of it that are read
abbrev pub tail_begun : Tail → List ℕ → List ℕ
tail_begun Absent octets = []
tail_begun Words octets = codes ",\"words\":[" ++ join_with_byte 44 (map decimal (words_of octets))
tail_begun Text octets = codes ",\"text\":\"" ++ inside octets
tail_begun Bits octets = codes ",\"bits\":\"" ++ encode_lower octets
tail_begun Data octets = codes ",\"octets\":\"" ++ encode_lower octets

-- what it ends with
abbrev pub tail_end : Tail → List ℕ
tail_end Absent = []
tail_end Words = 93 ∷ []
tail_end Text = 34 ∷ []
tail_end Bits = 34 ∷ []
tail_end Data = 34 ∷ []

abbrev pub whole_of : Tail → Option (List ℕ) → List ℕ
whole_of form None = []
whole_of form (Some octets) = tail_begun form octets ++ tail_end form

-- The object of a node up to its tail, of which this is read.
pub record IsLead (b : Begun) (tail text : List ℕ) : Type 0 where
  pub members : List (List ℕ)
  pub are : AreFirstFields (plain_fields_of (kind_of_head b.head)) (plain_values (rules b) b.fields) members
  pub text_is : text ≡ opening b.head ++ (more_members members ++ tail)

abbrev pub is_parent : Forest → Bool
is_parent none = false
is_parent (and before kind fields tail children) = true

-- what comes before one more, after others or as the first
abbrev pub before_one_more : Bool → List ℕ
before_one_more false = codes ",\"parameters\":["
before_one_more true = 44 ∷ []

-- what comes before one more in the innermost node; a tree with no node has no other
abbrev pub separator_in : List Begun → List ℕ
separator_in [] = []
separator_in (b ∷ outer) = before_one_more (is_parent b.children)

-- these so far
abbrev pub listed : List (List ℕ) → List ℕ
listed [] = []
listed (text ∷ texts) = codes ",\"parameters\":[" ++ join_with_byte 44 (text ∷ texts)

-- the text of an open tree whose innermost node has its leading parts
abbrev pub Opened : List Begun → List ℕ → Type 0
Opened [] text = text ≡ []
Opened (b ∷ outer) text =
    (above lead : List ℕ) × (below : List (List ℕ)) × Opened outer above × IsLead b (whole_of (form b) b.tail) lead × AreParameters b.children below
    × (text ≡ (above ++ separator_in outer) ++ (lead ++ listed below))

-- whether it has parameters
abbrev pub IsParent : List Begun → Bool → Type 0
IsParent [] flag = Unit {0}
IsParent (b ∷ outer) flag = flag ≡ is_parent b.children

-- The printer has this text of earlier items, and the text of this open tree; it knows how deep that is.
pub record Holds (mark depth : ℕ) (parent : Bool) (text was : List ℕ) (t : List Begun) : Type 0 where
  pub marked : IsMarked mark text was (Opened t)
  pub deep : depth ≡ length t
  pub parent_is : IsParent t parent

-- a tail that is read in part, and one that is whole
abbrev pub part_of : Tail → Option (List ℕ) → List ℕ
part_of form None = []
part_of form (Some octets) = tail_begun form octets

-- the text of an open tree, of which the innermost node is read up to its tail or into it
abbrev pub Begins : List Begun → List ℕ → Type 0
Begins [] text = ⊥
Begins (b ∷ outer) text =
    (above lead : List ℕ) × Opened outer above × IsLead b (part_of (form b) b.tail) lead × (b.children ≡ none) × (text ≡ (above ++ separator_in outer) ++ lead)

abbrev pub has_any : List ℕ → Bool
has_any [] = false
has_any (octet ∷ octets) = true

-- which tail is begun, and whether it has words
abbrev pub IsTailOf : Tail → Option (List ℕ) → Tail → Bool → Type 0
IsTailOf form None tail some = tail ≡ Absent
IsTailOf form (Some octets) tail some = (tail ≡ form) × (form ≡ Words → ((n : ℕ) × (length octets ≡ 2 * n)) × (some ≡ has_any octets))

abbrev pub KnowsTail : List Begun → Tail → Bool → Type 0
KnowsTail [] tail some = ⊥
KnowsTail (b ∷ outer) tail some = IsTailOf (form b) b.tail tail some

-- The printer has this text of earlier items, and the text of this open tree, whose innermost node is not read up to its parameters.
pub record Awaits (mark depth : ℕ) (parent : Bool) (tail : Tail) (some : Bool) (text was : List ℕ) (t : List Begun) : Type 0 where
  pub marked : IsMarked mark text was (Begins t)
  pub deep : depth ≡ length t
  pub none_yet : parent ≡ false
  pub tail_is : KnowsTail t tail some
