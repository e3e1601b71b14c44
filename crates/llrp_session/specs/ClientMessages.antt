-- The message that each word of a client is (LLRP 1.1, sections 11 to 17).
use Rattle.std.specs.Prelude.{ℕ, List, [], ◌∷◌}
use Rattle.llrp_schema.specs.declared.kinds.MsgKind.{MsgKind}
use Rattle.llrp_schema.specs.declared.kinds.MsgKind.TheVariants.{AddRoSpec, DeleteRoSpec, StartRoSpec, StopRoSpec, EnableRoSpec, DisableRoSpec, GetRoSpecs, SetReaderConfig, GetReport as GetReportMessage, CloseConnection, KeepaliveAck}
use Rattle.llrp_schema.specs.declared.kinds.ParamKind.TheVariants.{KeepaliveSpec as KeepaliveSpecParameter}
use Rattle.llrp_tree.specs.Tree.{Tree, MessageTree, forest}
use Rattle.llrp_session.specs.Contents.{Add, Delete, Start, Stop, Enable, Disable, GetRospecs, SetKeepalive, GetReport, Close, ClientContent, Asks, Acknowledges, ClientMessage, KeepaliveSpec, keepalive_each}
use Rattle.llrp_session.specs.ReaderMessages.{parameter}

abbrev pub client_kind : ClientContent → MsgKind
client_kind (Asks (Add spec)) = AddRoSpec
client_kind (Asks (Delete id)) = DeleteRoSpec
client_kind (Asks (Start id)) = StartRoSpec
client_kind (Asks (Stop id)) = StopRoSpec
client_kind (Asks (Enable id)) = EnableRoSpec
client_kind (Asks (Disable id)) = DisableRoSpec
client_kind (Asks GetRospecs) = GetRoSpecs
client_kind (Asks (SetKeepalive ms)) = SetReaderConfig
client_kind (Asks GetReport) = GetReportMessage
client_kind (Asks Close) = CloseConnection
client_kind Acknowledges = KeepaliveAck

-- the ROSpecID that it names; of SET_READER_CONFIG the flag that resets to the factory default, which is not set
abbrev pub client_fields : ClientContent → List ℕ
client_fields (Asks (Delete id)) = id ∷ []
client_fields (Asks (Start id)) = id ∷ []
client_fields (Asks (Stop id)) = id ∷ []
client_fields (Asks (Enable id)) = id ∷ []
client_fields (Asks (Disable id)) = id ∷ []
client_fields (Asks (SetKeepalive ms)) = 0 ∷ []
client_fields _ = []

abbrev pub keepalive_parameter : KeepaliveSpec → Tree
keepalive_parameter k = parameter KeepaliveSpecParameter (k.trigger ∷ k.period ∷ []) []

abbrev pub client_parameters : ClientContent → List Tree
client_parameters (Asks (Add spec)) = spec ∷ []
client_parameters (Asks (SetKeepalive ms)) = keepalive_parameter (keepalive_each ms) ∷ []
client_parameters _ = []

-- the message of a client
unfoldable pub client_message : ClientMessage → MessageTree
client_message m = record { version = 1; id = m.id; kind = client_kind m.word; fields = client_fields m.word; tail = []; children = forest (client_parameters m.word) }
