-- Messages of the profile under the names of the whole standard: the profile has shorter names for some fields of its kinds (docs/json.md). A kind of the profile has the number, the fields and the tail of one of the standard, but for those names.
use Rattle.std.specs.Prelude.{ℕ, List, if◌then◌else◌, unwrap_or}
use Rattle.llrp_schema.specs.declared.kinds.MsgKind.{MsgKind}
use Rattle.llrp_schema.specs.declared.kinds.ParamKind.{ParamKind}
use Rattle.llrp_schema.specs.declared.kinds.Kind.TheVariants.{Message, Parameter}
use Rattle.llrp_schema.specs.declared.kinds.KindSet.TheVariants.{Standard}
use Rattle.llrp_schema.specs.Schema.{is_tv, message_in, number_of, tlv_in, tv_in}
use Rattle.llrp_tree.specs.Tree.{Forest, none, and, MessageTree}
use Rattle.llrp_stream.specs.declared.item.Item.{Item}
use Rattle.llrp_stream.specs.declared.item.Item.TheVariants.{Msg, Bad}
use Rattle.llrp_json.specs.JsonLines.{IsItemJson}
use Rattle.llrp_json.specs.declared.names.Names.{Names}
use Rattle.llrp_json.specs.declared.names.Names.TheVariants.{Own, Standard as OfStandard}

-- the message of the whole standard with the number of this one
unfoldable pub standard_message : MsgKind → MsgKind
standard_message kind = unwrap_or (message_in Standard (number_of (Message kind))) kind

-- the parameter of the whole standard with the number of this one
unfoldable pub standard_parameter : ParamKind → ParamKind
standard_parameter kind = unwrap_or (if is_tv kind then tv_in Standard (number_of (Parameter kind)) else tlv_in Standard (number_of (Parameter kind))) kind

-- parameters in a row, each with the same values as one of the whole standard
abbrev pub standard_forest : Forest → Forest
standard_forest none = none
standard_forest (and before kind fields tail children) = and (standard_forest before) (standard_parameter kind) fields tail (standard_forest children)

-- a message with the same values as one of the whole standard
abbrev pub in_standard : MessageTree → MessageTree
in_standard m = record { version = m.version; id = m.id; kind = standard_message m.kind; fields = m.fields; tail = m.tail; children = standard_forest m.children }

-- the line of an item: that of a message with the names of its own set, or with those of the whole standard
abbrev pub IsNamedJson : Names → Item → List ℕ → Type 0
IsNamedJson Own item line = IsItemJson item line
IsNamedJson OfStandard (Msg message) line = IsItemJson (Msg (in_standard message)) line
IsNamedJson OfStandard (Bad id fault) line = IsItemJson (Bad id fault) line
