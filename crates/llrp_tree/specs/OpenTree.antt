-- Open trees: how far a frame is read.
use Rattle.llrp_schema.specs.declared.kinds.KindSet.{KindSet}
use Rattle.llrp_schema.specs.declared.kinds.KindSet.TheVariants.{Profile}
use Rattle.std.specs.Prelude.{◌≡◌, ℕ, ◌+◌, ◌*◌, ◌^◌, ◌<◌, ◌≤◌, ◌⊎◌, Bool, true, false, not, ◌||◌, if◌then◌else◌, nat_le, ◌==◌, List, [], ◌∷◌, ◌++◌, length, drop, Option, Some, None}
use Rattle.std.specs.List.{list_all}
use Rattle.llrp_schema.specs.declared.kinds.ParamKind.{ParamKind}
use Rattle.llrp_schema.specs.declared.kinds.Kind.{Kind}
use Rattle.llrp_schema.specs.declared.kinds.Kind.TheVariants.{Message, Parameter}
use Rattle.llrp_schema.specs.declared.kinds.Tail.{Tail}
use Rattle.llrp_schema.specs.declared.kinds.Tail.TheVariants.{Absent, Words, Text, Bits, Data}
use Rattle.llrp_schema.specs.Schema.{FieldRule, GroupRule, fields_of, tail_of, groups_of, set_of_kind, is_tv}
use Rattle.llrp_tree.specs.declared.TheConstants.{MAX_DEPTH}
use Rattle.llrp_tree.specs.Tree.{Forest, none}
use Rattle.llrp_tree.specs.Lawful.{levels, AreOctets, IsTail, is_member, has_place, count, ArePlaced, NoneTooMany, AllLawful, at_most}
use Rattle.llrp_tree.specs.Spelling.{Head, message, tlv, tv, head_digits, field_digits, tail_digits, forest_digits}

-- A node that is begun: its head, the bit at which it stops, its leading fields, reserved ones among them, its tail if that is read, and whole children.
pub record Begun : Type 0 where
  pub head : Head
  pub stop : ℕ
  pub fields : List ℕ
  pub tail : Option (List ℕ)
  pub children : Forest

-- the kind of the node that a head begins
abbrev pub kind_of_head : Head → Kind
kind_of_head (message version kind octets id) = Message kind
kind_of_head (tlv kind octets) = Parameter kind
kind_of_head (tv kind) = Parameter kind

-- what the tables say of a begun node
abbrev pub rules : Begun → List FieldRule
rules b = fields_of (kind_of_head b.head)

abbrev pub form : Begun → Tail
form b = tail_of (kind_of_head b.head)

abbrev pub groups : Begun → List GroupRule
groups b = groups_of (kind_of_head b.head)

-- whether it is of the profile or of the whole standard
abbrev pub set : Begun → KindSet
set b = set_of_kind (kind_of_head b.head)

-- that of the message, which is begun outermost
abbrev pub root_of : Head → List Begun → KindSet
root_of h [] = set_of_kind (kind_of_head h)
root_of h (p ∷ outer) = root_of p.head outer

abbrev pub root_set : List Begun → KindSet
root_set [] = Profile
root_set (b ∷ outer) = root_of b.head outer

-- ---- what is covered

-- the digits of a tail that is read
abbrev pub read_digits : Tail → Option (List ℕ) → List Bool
read_digits form None = []
read_digits form (Some octets) = tail_digits form octets

-- the digits of the fields and the tail that are read
unfoldable pub leading_digits : Kind → List ℕ → Option (List ℕ) → List Bool
leading_digits kind fields tail = field_digits (fields_of kind) fields ++ read_digits (tail_of kind) tail

-- the digits of a begun node's own parts in order
unfoldable pub part : Begun → List Bool
part b = head_digits b.head ++ (leading_digits (kind_of_head b.head) b.fields b.tail ++ forest_digits b.children)

-- An open tree is a chain of begun nodes, each inside the next one of the list: the innermost first, the message last. It covers the digits of their parts, the message's first.
unfoldable pub covers : List Begun → List Bool
covers [] = []
covers (b ∷ outer) = covers outer ++ part b

-- ---- what is read next

-- a field, the tail, or a child or the end
pub data Due : Type 0 where
  AField : FieldRule → Due
  ATail : Due
  Rest : Due

abbrev pub has_tail : Tail → Bool
has_tail Absent = false
has_tail Words = true
has_tail Text = true
has_tail Bits = true
has_tail Data = true

abbrev pub tail_due : Tail → Option (List ℕ) → Due
tail_due form None = if has_tail form then ATail else Rest
tail_due form (Some octets) = Rest

abbrev pub field_due : List FieldRule → Due → Due
field_due [] after = after
field_due (r ∷ rules) after = AField r

-- what comes next in a begun node by the table of its kind
unfoldable pub due : Begun → Due
due b = field_due (drop (length b.fields) (rules b)) (tail_due (form b) b.tail)

-- ---- which parts pass

-- a reserved field is zero, and another is not above its greatest value
abbrev pub in_range : FieldRule → ℕ → Bool
in_range r value = if r.reserved then value == 0 else nat_le value r.greatest

-- these are values of the first fields of the rules
abbrev pub AreLeading : List FieldRule → List ℕ → Type 0
AreLeading rules [] = Unit {0}
AreLeading [] (v ∷ values) = ⊥
AreLeading (r ∷ rules) (v ∷ values) = (v < 2 ^ r.width) × (in_range r v ≡ true) × AreLeading rules values

-- the values of the fields that are not reserved
abbrev pub plain_values : List FieldRule → List ℕ → List ℕ
plain_values rules [] = []
plain_values [] (v ∷ values) = []
plain_values (r ∷ rules) (v ∷ values) = if r.reserved then plain_values rules values else v ∷ plain_values rules values

-- a tail that is read has its form
abbrev pub IsReadTail : Tail → List ℕ → Option (List ℕ) → Type 0
IsReadTail form fields None = Unit {0}
IsReadTail form fields (Some octets) = (has_tail form ≡ true) × IsTail form fields octets × AreOctets octets

-- no group of the kind is full
unfoldable pub takes_more : List GroupRule → ParamKind → Forest → Bool
takes_more groups kind children = list_all (λ g. not (is_member g kind) || at_most g.most (count g children + 1)) groups

-- no group has fewer than its least
unfoldable pub is_enough : List GroupRule → Forest → Bool
is_enough groups children = list_all (λ g. nat_le g.least (count g children)) groups

-- A child of the kind may begin in the node.
pub record MayBegin (b : Begun) (kind : ParamKind) : Type 0 where
  pub ready : due b ≡ Rest
  pub has : has_place (groups b) kind ≡ true
  pub more : takes_more (groups b) kind b.children ≡ true

-- A message's header, which stops where the frame ends.
pub record IsHeader (version octets id stop : ℕ) : Type 0 where
  pub known_version : (version ≡ 1) ⊎ (version ≡ 2)
  pub octets_fit : octets < 2 ^ 32
  pub id_fits : id < 2 ^ 32
  pub stops : stop ≡ 8 * octets

-- The head of a parameter with type, length and value after what is covered. It stops as many octets after its first bit as its length says, and not after its parent.
pub record IsTlvHead (kind : ParamKind) (octets stop : ℕ) (parent : Begun) (outer : List Begun) : Type 0 where
  pub kind_is_tlv : is_tv kind ≡ false
  pub least : 4 ≤ octets
  pub most : octets < 65536
  pub stops : stop ≡ length (covers (parent ∷ outer)) + 8 * octets
  pub within : stop ≤ parent.stop
  pub deep : length (parent ∷ outer) ≤ MAX_DEPTH
  pub may_begin : MayBegin parent kind

-- The head of a parameter with type and value, which may go as far as its parent.
pub record IsTvHead (kind : ParamKind) (stop : ℕ) (parent : Begun) (outer : List Begun) : Type 0 where
  pub kind_is_tv : is_tv kind ≡ true
  pub stops : stop ≡ parent.stop
  pub deep : length (parent ∷ outer) ≤ MAX_DEPTH
  pub may_begin : MayBegin parent kind

-- a message is outermost, a parameter in another node
abbrev pub IsHead : Head → ℕ → List Begun → Type 0
IsHead (message version kind octets id) stop [] = IsHeader version octets id stop
IsHead (message version kind octets id) stop (p ∷ outer) = ⊥
IsHead (tlv kind octets) stop [] = ⊥
IsHead (tlv kind octets) stop (p ∷ outer) = IsTlvHead kind octets stop p outer
IsHead (tv kind) stop [] = ⊥
IsHead (tv kind) stop (p ∷ outer) = IsTvHead kind stop p outer

-- A begun node inside others: all its parts pass, a tail is read after all fields and children after the tail, data that is read ends at the stop, and what is covered ends before the stop or there.
pub record IsOpenNode (b : Begun) (outer : List Begun) : Type 0 where
  pub head : IsHead b.head b.stop outer
  pub fields : AreLeading (rules b) b.fields
  pub tail : IsReadTail (form b) (plain_values (rules b) b.fields) b.tail
  pub filled : form b ≡ Data → (b.tail ≡ None) ⊎ (length (covers (b ∷ outer)) ≡ b.stop)
  pub tail_after : (b.tail ≡ None) ⊎ (length b.fields ≡ length (rules b))
  pub children_after : (b.children ≡ none) ⊎ (due b ≡ Rest)
  pub lawful : AllLawful b.children
  pub placed : ArePlaced (groups b) b.children
  pub most : NoneTooMany (groups b) b.children
  pub deep : length outer + levels b.children ≤ MAX_DEPTH
  pub inside : length (covers (b ∷ outer)) ≤ b.stop

-- each begun node of the chain is one
unfoldable pub IsOpenTree : List Begun → Type 0
IsOpenTree [] = Unit {0}
IsOpenTree (b ∷ outer) = IsOpenNode b outer × IsOpenTree outer
