-- What is heard of a reader's messages: what the profile has of each, and of an answer that is excused a grant.
use Rattle.std.specs.Prelude.{ℕ, ◌==◌, ◌&&◌, ◌||◌, Bool, true, false, if◌then◌else◌, is_none, List, [], ◌∷◌, Option, Some, None}
use Rattle.std.specs.Option.{option_map}
use Rattle.std.specs.List.{flat_map}
use Rattle.llrp_schema.specs.declared.kinds.MsgKind.{MsgKind}
use Rattle.llrp_schema.specs.declared.kinds.MsgKind.TheVariants.{DeleteRoSpecResponse, ErrorMessage}
use Rattle.llrp_schema.specs.declared.kinds.ParamKind.{ParamKind}
use Rattle.llrp_schema.specs.declared.kinds.ParamKind.TheVariants.{RoSpec}
use Rattle.llrp_schema.specs.declared.kinds.Kind.TheVariants.{Message, Parameter}
use Rattle.llrp_schema.specs.declared.kinds.KindSet.{KindSet}
use Rattle.llrp_schema.specs.declared.kinds.KindSet.TheVariants.{Profile, Standard}
use Rattle.llrp_schema.specs.Schema.{GroupRule, groups_of, has_place, is_tv, key_of, message_in, number_of, tlv_in, tv_in}
use Rattle.llrp_tree.specs.Tree.{Forest, none, and, Tree, MessageTree, add, forest}
use Rattle.llrp_tree.specs.Checks.{first_fault, first_message_fault}
use Rattle.llrp_stream.specs.declared.item.Item.{Item}
use Rattle.llrp_stream.specs.declared.item.Item.TheVariants.{Msg, Bad}
use Rattle.llrp_session.specs.declared.types.Operation.TheVariants.{Deleting}
use Rattle.llrp_session.specs.Contents.{Response}
use Rattle.llrp_session.specs.ReaderMessages.{reader_message}
use Rattle.llrp_endpoints.specs.declared.hearing.Hearing.{Hearing}
use Rattle.llrp_endpoints.specs.Plan.{boundary, antenna_inventory}

-- the profile's kind of a parameter with the same number
abbrev pub own_kind : ParamKind → Option ParamKind
own_kind kind = if is_tv kind then tv_in Profile (number_of (Parameter kind)) else tlv_in Profile (number_of (Parameter kind))

-- its groups of children
abbrev pub groups_where : Option ParamKind → List GroupRule
groups_where None = []
groups_where (Some kind) = groups_of (Parameter kind)

-- a parameter of these parts, if they are lawful
abbrev pub lawful_where : ParamKind → List ℕ → List ℕ → Forest → Option Tree
lawful_where kind fields tail children = if is_none (first_fault kind fields tail children) then Some (record { kind = kind; fields = fields; tail = tail; children = children }) else None

-- In place of a ROSpec that is not lawful without what the profile lacks, as one with an RFSurveySpec alone, there is one with its fields, ROSpecID,
-- Priority and CurrentState, by which a client compares a reader's table with its view, and with the parts of a standard plan's ROSpec. Of no other
-- kind is one kept.
abbrev pub kept_where : ParamKind → List ℕ → Option Tree
kept_where kind fields = if key_of RoSpec == key_of kind then lawful_where RoSpec fields [] (forest (boundary ∷ antenna_inventory ∷ [])) else None

abbrev pub else_kept : ParamKind → List ℕ → Option Tree → Option Tree
else_kept kind fields None = kept_where kind fields
else_kept kind fields (Some t) = Some t

-- a parameter of these parts below a node of these groups, if one of them has its kind
abbrev pub tree_where : List GroupRule → Option ParamKind → List ℕ → List ℕ → Forest → Option Tree
tree_where groups None fields tail children = None
tree_where groups (Some kind) fields tail children = if has_place groups kind then else_kept kind fields (lawful_where kind fields tail children) else None

abbrev pub add_where : Forest → Option Tree → Forest
add_where before None = before
add_where before (Some t) = add before t

-- of parameters in a row below a node of these groups those that the profile has there, each with what the profile has below it
unfoldable pub own_row : List GroupRule → Forest → Forest
own_row groups none = none
own_row groups (and before kind fields tail children) = add_where (own_row groups before) (tree_where groups (own_kind kind) fields tail (own_row (groups_where (own_kind kind)) children))

-- what the profile has of a parameter below a node of these groups
abbrev pub own_tree : List GroupRule → Tree → Option Tree
own_tree groups t = tree_where groups (own_kind t.kind) t.fields t.tail (own_row (groups_where (own_kind t.kind)) t.children)

-- a message of these parts, if they are lawful
abbrev pub message_where : MessageTree → Option MessageTree
message_where m = if is_none (first_message_fault m.version m.kind m.fields m.tail m.children) then Some m else None

abbrev pub own_where : Option MsgKind → MessageTree → Option MessageTree
own_where None m = None
own_where (Some kind) m = message_where (record { version = m.version; id = m.id; kind = kind; fields = m.fields; tail = []; children = own_row (groups_of (Message kind)) m.children })

-- what the profile has of a message
unfoldable pub own_message : MessageTree → Option MessageTree
own_message m = own_where (message_in Profile (number_of (Message m.kind))) m

abbrev pub part_in : KindSet → MessageTree → Option MessageTree
part_in Profile m = Some m
part_in Standard m = own_message m

-- ---- an answer that is excused

-- it has the number of this kind
abbrev pub is_numbered : MessageTree → MsgKind → Bool
is_numbered m kind = number_of (Message m.kind) == number_of (Message kind)

-- it may answer the client's first request, which has the id 1, where that is a DELETE_ROSPEC: it is its response or an ERROR_MESSAGE
abbrev pub answers_first : MessageTree → Bool
answers_first m = (m.id == 1) && (is_numbered m DeleteRoSpecResponse || is_numbered m ErrorMessage)

-- the response with M_Success, which is heard in its place whatever its status is (LLRP 1.1, section 15)
abbrev pub granted : MessageTree → MessageTree
granted m = reader_message (record { version = m.version; id = m.id; word = Response Deleting 0 })

abbrev pub excused : Bool → MessageTree → MessageTree
excused false m = m
excused true m = if answers_first m then granted m else m

-- ---- what is heard

-- of a message what the set of kinds has of it; of nothing else is it heard
abbrev pub heard_message : Hearing → MessageTree → Option MessageTree
heard_message h m = option_map (excused h.excuses) (part_in h.set m)

abbrev pub item_where : Option MessageTree → List Item
item_where None = []
item_where (Some m) = Msg m ∷ []

-- what is heard of an item: all of a frame that is no message
abbrev pub heard_item : Hearing → Item → List Item
heard_item h (Msg m) = item_where (heard_message h m)
heard_item h (Bad id fault) = Bad id fault ∷ []

-- what is heard of items; a message of which nothing is heard is passed over
abbrev pub heard : Hearing → List Item → List Item
heard h items = flat_map (heard_item h) items
