-- What lawful message or parameter an object says. Its members come in any order; each is there once, and no other is.
use Rattle.std.specs.Prelude.{◌≡◌, ℕ, zero, suc, ◌≤◌, List, [], ◌∷◌, codes, decimal, Option, Some, None, option_and_then, unwrap_or}
use Rattle.hex.specs.Hex.{encode_lower}
use Rattle.json.specs.Find.{as_array, as_number, as_object, as_str, get}
use Rattle.json.specs.Json.{Json, number, string, array, Items, no_items, item, Members}
use Rattle.llrp_schema.specs.declared.kinds.Kind.{Kind}
use Rattle.llrp_schema.specs.declared.kinds.Kind.TheVariants.{Message, Parameter}
use Rattle.llrp_schema.specs.declared.kinds.KindSet.{KindSet}
use Rattle.llrp_schema.specs.declared.kinds.Tail.{Tail}
use Rattle.llrp_schema.specs.declared.kinds.Tail.TheVariants.{Absent, Words, Text, Bits, Data}
use Rattle.llrp_schema.specs.Schema.{FieldRule, name_of, plain_fields_of, set_of_kind, tail_of}
use Rattle.llrp_tree.specs.declared.TheConstants.{MAX_DEPTH}
use Rattle.llrp_tree.specs.Lawful.{AreOctets, IsLawfulMessage, IsLawfulTree}
use Rattle.llrp_tree.specs.Tree.{MessageTree, Tree, trees, words_of}
use Rattle.llrp_listing.specs.NodeLine.{NumberForm, Version, Id, Unsigned, Signed, Epc, field_form, IsNumberText}
use Rattle.llrp_listing.specs.LineChecks.{IsInForm, IsTailOf}
use Rattle.llrp_json.specs.JsonItems.{field_name}
use Rattle.llrp_json_read.specs.MemberRules.{member_rules}
use Rattle.llrp_json_read.specs.ObjectMembers.{member_fault}

-- ---- members

-- the text of the member with a name: the string of an EPC, and the digits of any other number
abbrev pub text_in : NumberForm → List ℕ → Json → Option (List ℕ)
text_in Version name j = option_and_then as_number (get name j)
text_in Id name j = option_and_then as_number (get name j)
text_in Unsigned name j = option_and_then as_number (get name j)
text_in Signed name j = option_and_then as_number (get name j)
text_in Epc name j = option_and_then as_str (get name j)

-- the member with a name says a number of a form
pub record SaysNumber (form : NumberForm) (name : List ℕ) (j : Json) (n : ℕ) : Type 0 where
  pub in_form : IsInForm form n
  pub text : List ℕ
  pub member : text_in form name j ≡ Some text
  pub is : IsNumberText form n text

-- the member of a plain field says its value
abbrev pub SaysField : FieldRule → Json → ℕ → Type 0
SaysField rule j n = SaysNumber (field_form rule) (field_name rule) j n × (n ≤ rule.greatest)

-- the members of plain fields say their values, one for each
abbrev pub SaysFields : List FieldRule → Json → List ℕ → Type 0
SaysFields [] j [] = Unit {0}
SaysFields [] j (n ∷ ns) = ⊥
SaysFields (rule ∷ rules) j [] = ⊥
SaysFields (rule ∷ rules) j (n ∷ ns) = SaysField rule j n × SaysFields rules j ns

-- words of 16 bits as values of an array
abbrev pub numbers : List ℕ → Items
numbers [] = no_items
numbers (w ∷ ws) = item (number (decimal w)) (numbers ws)

-- the member of a tail says its octets
abbrev pub SaysTail : Tail → Json → List ℕ → Type 0
SaysTail Absent j tail = tail ≡ []
SaysTail Words j tail = IsTailOf Words tail × (get (codes "words") j ≡ Some (array (numbers (words_of tail))))
SaysTail Text j tail = AreOctets tail × (get (codes "text") j ≡ Some (string tail))
SaysTail Bits j tail = AreOctets tail × (get (codes "bits") j ≡ Some (string (encode_lower tail)))
SaysTail Data j tail = AreOctets tail × (get (codes "octets") j ≡ Some (string (encode_lower tail)))

-- the values of the parameters below an object; there are none where it has no such member
abbrev pub below : Json → Items
below j = unwrap_or (option_and_then as_array (get (codes "parameters") j)) no_items

-- ---- objects

-- the member that names the kind
abbrev pub kind_member : Kind → List ℕ
kind_member (Message kind) = codes "message"
kind_member (Parameter kind) = codes "parameter"

-- The value is an object of this kind of a set.
pub record IsOfKind (p : KindSet) (kind : Kind) (j : Json) : Type 0 where
  pub members : Members
  pub object : as_object j ≡ Some members
  pub own : set_of_kind kind ≡ p
  pub named : option_and_then as_str (get (kind_member kind) j) ≡ Some (name_of kind)

-- The value is an object of a kind whose members are those of the kind, each of its type, with these fields and this tail.
pub record SaysParts (p : KindSet) (kind : Kind) (j : Json) (fields tail : List ℕ) : Type 0 where
  pub of_kind : IsOfKind p kind j
  pub checked : member_fault j of_kind.members (member_rules kind) ≡ None
  pub fields_said : SaysFields (plain_fields_of kind) j fields
  pub tail_said : SaysTail (tail_of kind) j tail

-- each of some values says one of some trees, in order
abbrev pub SaysEach : (Json → Tree → Type 0) → Items → List Tree → Type 0
SaysEach Says no_items [] = Unit {0}
SaysEach Says no_items (t ∷ ts) = ⊥
SaysEach Says (item j js) [] = ⊥
SaysEach Says (item j js) (t ∷ ts) = Says j t × SaysEach Says js ts

-- the value says a lawful parameter, with this many levels of parameters from it on at most
abbrev pub SaysParameter : KindSet → ℕ → Json → Tree → Type 0
SaysParameter p zero j t = ⊥
SaysParameter p (suc levels) j t = SaysParts p (Parameter t.kind) j t.fields t.tail × SaysEach (SaysParameter p levels) (below j) (trees t.children) × IsLawfulTree t

-- The value says a lawful message.
pub record SaysMessage (p : KindSet) (j : Json) (m : MessageTree) : Type 0 where
  pub parts : SaysParts p (Message m.kind) j m.fields m.tail
  pub version : SaysNumber Version (codes "version") j m.version
  pub id : SaysNumber Id (codes "id") j m.id
  pub parameters : SaysEach (SaysParameter p MAX_DEPTH) (below j) (trees m.children)
  pub lawful : IsLawfulMessage m
