-- What a listener receives of a message: an open tree, part by part.
use Rattle.std.specs.Prelude.{◌≡◌, ℕ, ◌+◌, ◌*◌, ◌<◌, ◌≤◌, ◌⊎◌, Bool, true, nat_le, List, [], ◌∷◌, ◌++◌, length, drop, Option, Some, None, unwrap_or}
use Rattle.std.specs.Str.{IsUtf8}
use Rattle.llrp_schema.specs.declared.kinds.ParamKind.{ParamKind}
use Rattle.llrp_schema.specs.declared.kinds.Kind.TheVariants.{Message, Parameter}
use Rattle.llrp_schema.specs.declared.kinds.Tail.{Tail}
use Rattle.llrp_schema.specs.declared.kinds.Tail.TheVariants.{Absent, Words, Text, Bits, Data}
use Rattle.llrp_schema.specs.Schema.{FieldRule, fields_of, plain_fields_of, tail_of}
use Rattle.llrp_tree.specs.Tree.{Forest, none, and, Tree, MessageTree}
use Rattle.llrp_tree.specs.Lawful.{AreInRange, IsLawfulTree, IsLawfulMessage}
use Rattle.llrp_tree.specs.Spelling.{Head, message, tlv, tv}
use Rattle.llrp_tree.specs.OpenTree.{Begun, kind_of_head, rules, plain_values, due, Rest, IsOpenTree, MayBegin, root_set, covers}
use Rattle.tag_bits.specs.Digits.{digits_of_bytes}
use Rattle.llrp_schema.specs.declared.kinds.KindSet.{KindSet}
use Rattle.llrp_tree.specs.declared.fault.Fault.{Fault}
use Rattle.llrp_tree.specs.declared.fault.Reason.{Reason}
use Rattle.llrp_tree.specs.declared.fault.Reason.TheVariants.{Utf8}
use Rattle.llrp_tree.specs.FirstFault.{has_ended, next_fault}
use Rattle.llrp_tree.specs.Calls.Standing.{IsAt, begin_node, leading}
use Rattle.llrp_stream.specs.Calls.Front.{AreDeciding}
use Rattle.llrp_stream.specs.Calls.Items.{header_fault_in}

-- one field more in the innermost node
abbrev pub with_field : ℕ → List Begun → List Begun
with_field value [] = []
with_field value (b ∷ outer) = begin_node b.head b.stop (b.fields ++ value ∷ []) b.tail b.children ∷ outer

-- some octets more of the innermost node's tail
abbrev pub with_octets : List ℕ → List Begun → List Begun
with_octets octets [] = []
with_octets octets (b ∷ outer) = begin_node b.head b.stop b.fields (Some (unwrap_or b.tail [] ++ octets)) b.children ∷ outer

-- one parameter more in a row, of its read parts
abbrev pub with_child : Forest → Head → List ℕ → Option (List ℕ) → Forest → Forest
with_child before (message version kind octets id) fields tail children = before
with_child before (tlv kind octets) fields tail children = and before kind (plain_values (fields_of (Parameter kind)) fields) (unwrap_or tail []) children
with_child before (tv kind) fields tail children = and before kind (plain_values (fields_of (Parameter kind)) fields) (unwrap_or tail []) children

-- the innermost node is closed: it is the last child of the one around it
abbrev pub with_closed : List Begun → List Begun
with_closed [] = []
with_closed (b ∷ []) = b ∷ []
with_closed (b ∷ p ∷ outer) = begin_node p.head p.stop p.fields p.tail (with_child p.children b.head b.fields b.tail b.children) ∷ outer

-- the field of the rule is the next one of the innermost node
pub record IsNextField (t : List Begun) (rule : FieldRule) : Type 0 where
  pub node : Begun
  pub outer : List Begun
  pub others : List FieldRule
  pub tree_is : t ≡ node ∷ outer
  pub next : drop (length node.fields) (rules node) ≡ rule ∷ others
  pub untailed : node.tail ≡ None

-- a whole parameter of type and value more in the innermost node
abbrev pub with_value : ParamKind → ℕ → List Begun → List Begun
with_value kind value [] = []
with_value kind value (b ∷ outer) = begin_node b.head b.stop b.fields b.tail (and b.children kind (value ∷ []) [] none) ∷ outer

-- a parameter of the kind may begin in the innermost node, and the value is in the range of its one field
pub record IsNextValue (t : List Begun) (kind : ParamKind) (value : ℕ) : Type 0 where
  pub node : Begun
  pub outer : List Begun
  pub tree_is : t ≡ node ∷ outer
  pub may_begin : MayBegin node kind
  pub range : AreInRange (plain_fields_of (Parameter kind)) (value ∷ [])

-- the innermost node has all its parts, and ends where its length says
pub record IsReady (t : List Begun) : Type 0 where
  pub node : Begun
  pub outer : List Begun
  pub tree_is : t ≡ node ∷ outer
  pub ready : due node ≡ Rest
  pub is_open : IsOpenTree t
  pub ended : has_ended node.head (nat_le node.stop (length (covers t))) ≡ true

-- the message of a node of which all is read
abbrev pub IsMessageOf : Head → List ℕ → Option (List ℕ) → Forest → MessageTree → Type 0
IsMessageOf (message version kind octets id) fields tail children m = m ≡ record { version = version; id = id; kind = kind; fields = plain_values (fields_of (Message kind)) fields; tail = unwrap_or tail []; children = children }
IsMessageOf _ fields tail children m = ⊥

-- the tail is what comes next in the innermost node, and it has this form
pub record IsBeforeTail (t : List Begun) (form : Tail) : Type 0 where
  pub node : Begun
  pub outer : List Begun
  pub tree_is : t ≡ node ∷ outer
  pub form_is : tail_of (kind_of_head node.head) ≡ form
  pub all_fields : length node.fields ≡ length (rules node)
  pub untailed : node.tail ≡ None

-- the tail of the innermost node is begun, and it has this form
pub record IsInTail (t : List Begun) (form : Tail) : Type 0 where
  pub node : Begun
  pub outer : List Begun
  pub tree_is : t ≡ node ∷ outer
  pub form_is : tail_of (kind_of_head node.head) ≡ form
  pub so_far : List ℕ
  pub tail_is : node.tail ≡ Some so_far

-- octets of a tail that are whole words, or whole characters
abbrev pub AreWhole : Tail → List ℕ → Type 0
AreWhole Absent octets = ⊥
AreWhole Words octets = (words : ℕ) × (length octets ≡ 2 * words)
AreWhole Text octets = IsUtf8 octets
AreWhole Bits octets = Unit {0}
AreWhole Data octets = Unit {0}

-- the parameter of a node of which all is read
abbrev pub tree_of : ParamKind → Begun → Tree
tree_of kind b = record { kind = kind; fields = plain_values (fields_of (Parameter kind)) b.fields; tail = unwrap_or b.tail []; children = b.children }

-- The innermost node is a lawful parameter, and can be closed.
pub record CanClose (stands : List Begun → Type 0) : Type 0 where
  pub node : Begun
  pub parent : Begun
  pub outer : List Begun
  pub kind : ParamKind
  pub kind_is : kind_of_head node.head ≡ Parameter kind
  pub lawful : IsLawfulTree (tree_of kind node)
  pub told : stands (node ∷ parent ∷ outer)

-- The message is lawful, and can be ended.
pub record CanEnd (stands : List Begun → Type 0) : Type 0 where
  pub node : Begun
  pub message : MessageTree
  pub is : IsMessageOf node.head node.fields node.tail node.children message
  pub lawful : IsLawfulMessage message
  pub told : stands (node ∷ [])

-- ---- a fault

-- the innermost node as it was before its tail
abbrev pub without_tail : List Begun → List Begun
without_tail [] = []
without_tail (b ∷ outer) = leading b.head b.stop b.fields ∷ outer

-- Of the digits an open tree covers the first, and of the checks that come next in it this one fails first.
pub record FailsAt (ds : List Bool) (t : List Begun) (bit : ℕ) (reason : Reason) : Type 0 where
  pub at : ℕ
  pub stands : IsAt ds t at
  pub fails : next_fault t (drop at ds) ≡ Some (bit, reason)

-- Of each frame of this many octets that begins with the front, the fault is one of this open tree; where text is no UTF-8, of the tree before that text, of which whole characters were received.
pub record IsFaultIn (p : KindSet) (front : List ℕ) (octets : ℕ) (t : List Begun) (fault : Fault) : Type 0 where
  pub tree : List Begun
  pub is : (t ≡ tree) ⊎ ((fault.reason ≡ Utf8) × (without_tail t ≡ tree))
  pub root : root_set tree ≡ p
  pub fails : (more : List ℕ) → length (front ++ more) ≡ octets → FailsAt (digits_of_bytes (front ++ more)) tree fault.bit fault.reason

-- the first digit after an open tree is in this octet
abbrev pub EndsInOctet : List Begun → ℕ → Type 0
EndsInOctet t place = (8 * place ≤ length (covers t)) × (length (covers t) < 8 * place + 8)

-- These octets stand in the front from the one on in which the first digit after the open tree is; they decide the next checks of the tree, but where text is no UTF-8.
pub record StandAfter (t : List Begun) (front : List ℕ) (octets : ℕ) (handed : List ℕ) (fault : Fault) : Type 0 where
  pub place : ℕ
  pub is : EndsInOctet t place
  pub within : place ≤ length front
  pub later : List ℕ
  pub are : drop place front ≡ handed ++ later
  pub decide : (fault.reason ≡ Utf8) ⊎ AreDeciding (8 * (place + length handed)) front octets t

-- The frame that begins so, of this many octets, has the fault: in its header, where nothing is received of it, or at this open tree, where the frame is within the limit. The octets are those after the tree, of a header's fault the header.
pub record IsRefusedIn (p : KindSet) (limit : ℕ) (front : List ℕ) (octets : ℕ) (t : List Begun) (handed : List ℕ) (fault : Fault) : Type 0 where
  pub fault_is : ((t ≡ []) × (header_fault_in p limit front ≡ Some (fault.bit, fault.reason)) × (length handed ≡ 10)) ⊎ (IsFaultIn p front octets t fault × (octets ≤ limit))
  pub after : StandAfter t front octets handed fault
