-- What is done to the open nodes of a builder.
use Rattle.std.specs.Prelude.{◌≡◌, ℕ, ◌<◌, List, [], ◌∷◌, ◌++◌, length, reverse, Option, Some, None}
use Rattle.std.specs.Option.{option_to_list}
use Rattle.llrp_schema.specs.declared.kinds.ParamKind.{ParamKind}
use Rattle.llrp_schema.specs.declared.kinds.MsgKind.{MsgKind}
use Rattle.llrp_schema.specs.declared.kinds.Kind.{Kind}
use Rattle.llrp_schema.specs.declared.kinds.Kind.TheVariants.{Message, Parameter}
use Rattle.llrp_tree.specs.Tree.{none, and, MessageTree}
use Rattle.llrp_tree.specs.Lawful.{AreLawful, IsLawfulMessage}
use Rattle.llrp_stream.specs.Building.{OpenParts}

-- a node of which nothing is read but its head
abbrev pub fresh : Kind → OpenParts
fresh kind = record { kind = kind; fields = []; tail = []; children = none }

-- one plain value more in the innermost node
abbrev pub with_value : ℕ → List OpenParts → List OpenParts
with_value value [] = []
with_value value (n ∷ outer) = record n { fields = n.fields ++ value ∷ [] } ∷ outer

-- some octets more of the innermost node's tail
abbrev pub with_tail : List ℕ → List OpenParts → List OpenParts
with_tail octets [] = []
with_tail octets (n ∷ outer) = record n { tail = n.tail ++ octets } ∷ outer

-- a parameter of type and value more at the end of the innermost node's children
abbrev pub with_parameter : ParamKind → ℕ → List OpenParts → List OpenParts
with_parameter kind value [] = []
with_parameter kind value (n ∷ outer) = record n { children = and n.children kind (value ∷ []) [] none } ∷ outer

-- The innermost node has room for a plain value.
pub record HasRoom (nodes : List OpenParts) : Type 0 where
  pub node : OpenParts
  pub outer : List OpenParts
  pub are : nodes ≡ node ∷ outer
  pub few : length node.fields < 12

-- The innermost node is a lawful parameter in another node.
pub record IsWholeParameter (nodes : List OpenParts) : Type 0 where
  pub node : OpenParts
  pub parent : OpenParts
  pub outer : List OpenParts
  pub kind : ParamKind
  pub are : nodes ≡ node ∷ parent ∷ outer
  pub kind_is : node.kind ≡ Parameter kind
  pub lawful : AreLawful kind node.fields node.tail node.children

-- one parameter more at the end of a node's children
abbrev pub with_child : OpenParts → ParamKind → OpenParts → OpenParts
with_child parent kind node = record parent { children = and parent.children kind node.fields node.tail node.children }

-- the message of a node
abbrev pub message_of : (version id : ℕ) → MsgKind → OpenParts → MessageTree
message_of version id kind node = record { version = version; id = id; kind = kind; fields = node.fields; tail = node.tail; children = node.children }

-- The one open node is a lawful message.
pub record IsWholeMessage (version id : ℕ) (nodes : List OpenParts) : Type 0 where
  pub node : OpenParts
  pub kind : MsgKind
  pub are : nodes ≡ node ∷ []
  pub kind_is : node.kind ≡ Message kind
  pub lawful : IsLawfulMessage (message_of version id kind node)

-- where no node is innermost there is none around it
abbrev pub AreNested : Option OpenParts → List OpenParts → Type 0
AreNested None outer = outer ≡ []
AreNested (Some node) outer = Unit {0}

-- the innermost node and those around it, the outermost of these first
abbrev pub nested : Option OpenParts → List OpenParts → List OpenParts
nested top outer = option_to_list top ++ reverse outer
