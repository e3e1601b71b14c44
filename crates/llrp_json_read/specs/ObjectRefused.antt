-- The first reason for which a value is refused, in the order of the checks, and where. A value is refused only if it says no lawful message or parameter.
use Rattle.std.specs.Prelude.{◌≡◌, ◌⊎◌, ℕ, zero, suc, List, [], ◌∷◌, ◌++◌, codes, Option, Some, None, option_and_then}
use Rattle.json.specs.Find.{as_object, as_str, get}
use Rattle.json.specs.Json.{Json, Items, no_items, item, Members}
use Rattle.llrp_schema.specs.declared.kinds.Kind.{Kind}
use Rattle.llrp_schema.specs.declared.kinds.Kind.TheVariants.{Message, Parameter}
use Rattle.llrp_schema.specs.declared.kinds.KindSet.{KindSet}
use Rattle.llrp_schema.specs.declared.kinds.ParamKind.{ParamKind}
use Rattle.llrp_schema.specs.declared.kinds.MsgKind.{MsgKind}
use Rattle.llrp_schema.specs.declared.kinds.Tail.{Tail}
use Rattle.llrp_schema.specs.declared.kinds.Tail.TheVariants.{Absent, Words, Text, Bits, Data}
use Rattle.llrp_schema.specs.Schema.{FieldRule, name_of, plain_fields_of, set_of_kind, tail_of}
use Rattle.llrp_tree.specs.declared.TheConstants.{MAX_DEPTH}
use Rattle.llrp_tree.specs.declared.node.NodeFault.{NodeFault}
use Rattle.llrp_tree.specs.declared.node.NodeFault.TheVariants.{TooDeep}
use Rattle.llrp_tree.specs.Checks.{first_fault, first_message_fault}
use Rattle.llrp_tree.specs.Tree.{Tree, forest}
use Rattle.tag_uri.specs.declared.fault.UriFault.{UriFault}
use Rattle.tag_uri.specs.TagText.{HasTextFault}
use Rattle.llrp_listing.specs.NodeLine.{NumberForm, Version, Id, Epc, field_form}
use Rattle.llrp_json.specs.JsonItems.{field_name}
use Rattle.llrp_json_read.specs.declared.refusal.Reason.{Reason}
use Rattle.llrp_json_read.specs.declared.refusal.Reason.TheVariants as reason
use Rattle.llrp_json_read.specs.MemberRules.{member_rules}
use Rattle.llrp_json_read.specs.ObjectMembers.{member_fault}
use Rattle.llrp_json_read.specs.ObjectSays.{SaysNumber, SaysField, SaysFields, SaysTail, SaysParts, SaysEach, SaysParameter, IsOfKind, below, text_in}

-- Where a value is refused: the place of its object among the parameters of its parent, the place of that one, and so on; and the member, if it is refused at one.
pub record Refused : Type 0 where
  pub places : List ℕ
  pub member : Option (List ℕ)
  pub reason : Reason

-- refused as a whole
abbrev pub whole : Reason → Refused
whole reason = record { places = []; member = None; reason = reason }

-- refused at a member
abbrev pub at_member : List ℕ → Reason → Refused
at_member name reason = record { places = []; member = Some name; reason = reason }

-- refused at the parameter with this place
abbrev pub at_place : ℕ → Refused → Refused
at_place place r = record { places = r.places ++ place ∷ []; member = r.member; reason = r.reason }

-- ---- the kind

-- the member that names the kind is not there, or is no string
abbrev pub RefusesName : List ℕ → Option Json → Reason → Type 0
RefusesName name None why = why ≡ reason.Missing
RefusesName name (Some j) why = (as_str j ≡ None) × (why ≡ reason.Mistyped)

-- the value is no object of a kind of the set
abbrev pub RefusesKind : KindSet → (Kind → Type 0) → List ℕ → Json → Refused → Type 0
RefusesKind p IsSuch name j r =
    ((as_object j ≡ None) × (r ≡ whole reason.Mistyped))
    ⊎ ((members : Members) × (as_object j ≡ Some members) × (why : Reason) × RefusesName name (get name j) why × (r ≡ at_member name why))
    ⊎ ((members : Members) × (as_object j ≡ Some members) × (text : List ℕ) × (option_and_then as_str (get name j) ≡ Some text) × ((kind : Kind) → IsSuch kind → set_of_kind kind ≡ p → name_of kind ≡ text → ⊥) × (r ≡ at_member name reason.Name))

-- ---- the values of members

-- the reason for which a member is refused that says no number of its form
abbrev pub RefusesText : NumberForm → Option (List ℕ) → Reason → Type 0
RefusesText Epc (Some text) why = (fault : UriFault) × HasTextFault text fault × (why ≡ reason.Epc fault)
RefusesText form text why = why ≡ reason.Value

-- the member of a field says no value of it
abbrev pub RefusesField : FieldRule → Json → Refused → Type 0
RefusesField rule j r =
    ((n : ℕ) → SaysField rule j n → ⊥) × (why : Reason) × RefusesText (field_form rule) (text_in (field_form rule) (field_name rule) j) why × (r ≡ at_member (field_name rule) why)

-- the first of the fields that is refused
abbrev pub RefusesFields : List FieldRule → Json → Refused → Type 0
RefusesFields [] j r = ⊥
RefusesFields (rule ∷ rules) j r = RefusesField rule j r ⊎ (((n : ℕ) × SaysField rule j n) × RefusesFields rules j r)

-- the name of a tail's member
abbrev pub tail_member : Tail → List ℕ
tail_member Absent = []
tail_member Words = codes "words"
tail_member Text = codes "text"
tail_member Bits = codes "bits"
tail_member Data = codes "octets"

-- the member of a tail says none
abbrev pub RefusesTail : Tail → Json → Refused → Type 0
RefusesTail form j r = ((tail : List ℕ) → SaysTail form j tail → ⊥) × (r ≡ at_member (tail_member form) reason.Value)

-- the fields and the tail: the first that is refused
abbrev pub RefusesValues : Kind → Json → Refused → Type 0
RefusesValues kind j r =
    RefusesFields (plain_fields_of kind) j r
    ⊎ (((fields : List ℕ) × SaysFields (plain_fields_of kind) j fields) × RefusesTail (tail_of kind) j r)

-- the version and the id of a message: the first that is refused
abbrev pub RefusesStart : Json → Refused → Type 0
RefusesStart j r =
    (((n : ℕ) → SaysNumber Version (codes "version") j n → ⊥) × (r ≡ at_member (codes "version") reason.Value))
    ⊎ (((n : ℕ) × SaysNumber Version (codes "version") j n) × ((n : ℕ) → SaysNumber Id (codes "id") j n → ⊥) × (r ≡ at_member (codes "id") reason.Value))

-- both are said
abbrev pub SaysStart : Json → Type 0
SaysStart j = ((n : ℕ) × SaysNumber Version (codes "version") j n) × ((n : ℕ) × SaysNumber Id (codes "id") j n)

-- ---- parameters

-- the first of some values, counted from a place, that is refused
abbrev pub RefusesEach : (Json → Tree → Type 0) → (Json → Refused → Type 0) → ℕ → Items → Refused → Type 0
RefusesEach Says Refuses place no_items r = ⊥
RefusesEach Says Refuses place (item j js) r =
    ((q : Refused) × Refuses j q × (r ≡ at_place place q)) ⊎ (((t : Tree) × Says j t) × RefusesEach Says Refuses (suc place) js r)

-- the names and types of the members of an object of a kind
abbrev pub RefusesMembers : KindSet → Kind → Json → Refused → Type 0
RefusesMembers p kind j r = (of_kind : IsOfKind p kind j) × (at : List ℕ × Reason) × (member_fault j of_kind.members (member_rules kind) ≡ Some at) × (r ≡ at_member at.0 at.1)

-- the object is of a kind, and its members are those of the kind
abbrev pub HasMembers : KindSet → Kind → Json → Type 0
HasMembers p kind j = (of_kind : IsOfKind p kind j) × (member_fault j of_kind.members (member_rules kind) ≡ None)

-- What is said is no lawful parameter, since this test is the first to fail.
pub record RefusesParts (p : KindSet) (levels : ℕ) (kind : ParamKind) (j : Json) (r : Refused) : Type 0 where
  pub fields : List ℕ
  pub tail : List ℕ
  pub children : List Tree
  pub parts : SaysParts p (Parameter kind) j fields tail
  pub each : SaysEach (SaysParameter p levels) (below j) children
  pub fault : NodeFault
  pub first : first_fault kind fields tail (forest children) ≡ Some fault
  pub refused : r ≡ whole (reason.Node fault)

abbrev pub IsParameter : Kind → Type 0
IsParameter (Message kind) = ⊥
IsParameter (Parameter kind) = Unit {0}

-- the value is no object that says the fields and the tail of a parameter: its kind, its members, and their values
abbrev pub RefusesOwnParts : KindSet → Json → Refused → Type 0
RefusesOwnParts p j r =
    RefusesKind p IsParameter (codes "parameter") j r
    ⊎ ((kind : ParamKind) × RefusesMembers p (Parameter kind) j r)
    ⊎ ((kind : ParamKind) × HasMembers p (Parameter kind) j × RefusesValues (Parameter kind) j r)

-- the value says no lawful parameter with this many levels of parameters from it on at most: its own parts, the parameters below it, and the tests of the tables
abbrev pub RefusesParameter : KindSet → ℕ → Json → Refused → Type 0
RefusesParameter p zero j r = r ≡ whole (reason.Node TooDeep)
RefusesParameter p (suc levels) j r =
    RefusesOwnParts p j r
    ⊎ ((kind : ParamKind) × (fields tail : List ℕ) × SaysParts p (Parameter kind) j fields tail × RefusesEach (SaysParameter p levels) (RefusesParameter p levels) 0 (below j) r)
    ⊎ ((kind : ParamKind) × RefusesParts p levels kind j r)

-- ---- messages

-- What is said is no lawful message, since this test is the first to fail.
pub record RefusesWhole (p : KindSet) (kind : MsgKind) (j : Json) (r : Refused) : Type 0 where
  pub version : ℕ
  pub id : ℕ
  pub fields : List ℕ
  pub tail : List ℕ
  pub children : List Tree
  pub version_said : SaysNumber Version (codes "version") j version
  pub id_said : SaysNumber Id (codes "id") j id
  pub parts : SaysParts p (Message kind) j fields tail
  pub each : SaysEach (SaysParameter p MAX_DEPTH) (below j) children
  pub fault : NodeFault
  pub first : first_message_fault version kind fields tail (forest children) ≡ Some fault
  pub refused : r ≡ whole (reason.Node fault)

abbrev pub IsMessage : Kind → Type 0
IsMessage (Message kind) = Unit {0}
IsMessage (Parameter kind) = ⊥

-- the value is no object that says the version, the id, the fields and the tail of a message: its kind, its members, and their values
abbrev pub RefusesOwnMessage : KindSet → Json → Refused → Type 0
RefusesOwnMessage p j r =
    RefusesKind p IsMessage (codes "message") j r
    ⊎ ((kind : MsgKind) × RefusesMembers p (Message kind) j r)
    ⊎ ((kind : MsgKind) × HasMembers p (Message kind) j × RefusesStart j r)
    ⊎ ((kind : MsgKind) × HasMembers p (Message kind) j × SaysStart j × RefusesValues (Message kind) j r)

-- the value says no lawful message: its own parts, the parameters below it, and the tests of the tables
abbrev pub RefusesMessage : KindSet → Json → Refused → Type 0
RefusesMessage p j r =
    RefusesOwnMessage p j r
    ⊎ ((kind : MsgKind) × (fields tail : List ℕ) × SaysParts p (Message kind) j fields tail × SaysStart j × RefusesEach (SaysParameter p MAX_DEPTH) (RefusesParameter p MAX_DEPTH) 0 (below j) r)
    ⊎ ((kind : MsgKind) × RefusesWhole p kind j r)
