-- What a client says as messages, and what it hears in them (LLRP 1.1, sections 10 to 14).
use Rattle.std.specs.Prelude.{ℕ, ◌%◌, nat_le, ◌==◌, ◌&&◌, ◌||◌, min, Bool, if◌then◌else◌, List, [], ◌∷◌, drop, find, Option, Some, None}
use Rattle.std.specs.Int.{to_be_bytes, w128}
use Rattle.std.specs.List.{list_any}
use Rattle.llrp_schema.specs.declared.kinds.Kind.TheVariants.{Message}
use Rattle.llrp_schema.specs.declared.kinds.MsgKind.{MsgKind}
use Rattle.llrp_schema.specs.declared.kinds.MsgKind.TheVariants.{WholeAddRoSpec, WholeEnableRoSpec, WholeStartRoSpec, WholeDeleteRoSpec, WholeAddAccessSpec, WholeEnableAccessSpec, WholeDeleteAccessSpec, WholeCloseConnection, WholeKeepalive, WholeKeepaliveAck, WholeErrorMessage, WholeRoAccessReport, WholeReaderEventNotification}
use Rattle.llrp_schema.specs.declared.kinds.MsgKind.TheVariants.{WholeAddRoSpecResponse, WholeEnableRoSpecResponse, WholeStartRoSpecResponse, WholeDeleteRoSpecResponse, WholeAddAccessSpecResponse, WholeEnableAccessSpecResponse, WholeDeleteAccessSpecResponse, WholeCloseConnectionResponse}
use Rattle.llrp_schema.specs.declared.kinds.ParamKind.{ParamKind}
use Rattle.llrp_schema.specs.declared.kinds.ParamKind.TheVariants.{WholeEpc96, WholeEpcData, WholeTagReportData, WholeLlrpStatus, WholeReaderEventNotificationData, WholeConnectionAttemptEvent}
use Rattle.llrp_schema.specs.Schema.{number_of}
use Rattle.llrp_session.specs.RoSpec.{field_of, is_kind}
use Rattle.llrp_tree.specs.Tree.{MessageTree, Tree, forest, trees}
use Rattle.llrp_operations.specs.declared.course.Demand.{Demand}
use Rattle.llrp_operations.specs.declared.course.Demand.TheVariants.{ClearAccess, ClearInventory, AddInventory, EnableInventory, StartInventory, AddAccess, EnableAccess, RemoveAccess, RemoveInventory, Close}
use Rattle.llrp_operations.specs.declared.course.Saying.{Saying}
use Rattle.llrp_operations.specs.declared.course.Saying.TheVariants.{Asks, Acknowledges}
use Rattle.llrp_operations.specs.declared.course.Stage.{Stage}
use Rattle.llrp_operations.specs.declared.course.Stage.TheVariants.{Asking}
use Rattle.llrp_operations.specs.declared.request.Request.{Request}
use Rattle.llrp_operations.specs.Calls.Course.{Course, accept, acknowledge, answer, finish, sees}
use Rattle.llrp_operations.specs.Calls.Inventory.{inventory_spec}
use Rattle.llrp_operations.specs.Calls.Operations.{access_spec_to}
use Rattle.llrp_operations.specs.Calls.Results.{are_of, field_at, is_parameter, is_result}

-- ---- what is said

-- the ids of messages count the demands
abbrev pub demand_id : Demand → ℕ
demand_id ClearAccess = 1
demand_id ClearInventory = 2
demand_id AddInventory = 3
demand_id EnableInventory = 4
demand_id StartInventory = 5
demand_id AddAccess = 6
demand_id EnableAccess = 7
demand_id RemoveAccess = 8
demand_id RemoveInventory = 9
demand_id Close = 10

abbrev pub demand_kind : Demand → MsgKind
demand_kind ClearAccess = WholeDeleteAccessSpec
demand_kind ClearInventory = WholeDeleteRoSpec
demand_kind AddInventory = WholeAddRoSpec
demand_kind EnableInventory = WholeEnableRoSpec
demand_kind StartInventory = WholeStartRoSpec
demand_kind AddAccess = WholeAddAccessSpec
demand_kind EnableAccess = WholeEnableAccessSpec
demand_kind RemoveAccess = WholeDeleteAccessSpec
demand_kind RemoveInventory = WholeDeleteRoSpec
demand_kind Close = WholeCloseConnection

abbrev pub answer_kind : Demand → MsgKind
answer_kind ClearAccess = WholeDeleteAccessSpecResponse
answer_kind ClearInventory = WholeDeleteRoSpecResponse
answer_kind AddInventory = WholeAddRoSpecResponse
answer_kind EnableInventory = WholeEnableRoSpecResponse
answer_kind StartInventory = WholeStartRoSpecResponse
answer_kind AddAccess = WholeAddAccessSpecResponse
answer_kind EnableAccess = WholeEnableAccessSpecResponse
answer_kind RemoveAccess = WholeDeleteAccessSpecResponse
answer_kind RemoveInventory = WholeDeleteRoSpecResponse
answer_kind Close = WholeCloseConnectionResponse

-- of version 1, which readers of LLRP 1.0.1 take too
abbrev pub message : MsgKind → ℕ → List ℕ → List Tree → MessageTree
message kind id fields children = record { version = 1; id = id; kind = kind; fields = fields; tail = []; children = forest children }

abbrev pub numbered : Demand → ℕ → MessageTree
numbered d id = message (demand_kind d) (demand_id d) (id ∷ []) []

abbrev pub adding : Demand → Tree → MessageTree
adding d spec = message (demand_kind d) (demand_id d) [] (spec ∷ [])

-- the message of a demand, for the tag with this EPC
abbrev pub demand_message_to : (epc : List ℕ) → Demand → Request → MessageTree
demand_message_to epc ClearAccess r = numbered ClearAccess r.id
demand_message_to epc ClearInventory r = numbered ClearInventory r.rospec
demand_message_to epc AddInventory r = adding AddInventory (inventory_spec r.rospec r.antenna)
demand_message_to epc EnableInventory r = numbered EnableInventory r.rospec
demand_message_to epc StartInventory r = numbered StartInventory r.rospec
demand_message_to epc AddAccess r = adding AddAccess (access_spec_to epc r)
demand_message_to epc EnableAccess r = numbered EnableAccess r.id
demand_message_to epc RemoveAccess r = numbered RemoveAccess r.id
demand_message_to epc RemoveInventory r = numbered RemoveInventory r.rospec
demand_message_to epc Close r = message (demand_kind Close) (demand_id Close) [] []

-- the message of what is said, for the tag with this EPC
abbrev pub message_to : (epc : List ℕ) → Saying → Request → MessageTree
message_to epc (Asks d) r = demand_message_to epc d r
message_to epc (Acknowledges id) r = message WholeKeepaliveAck id [] []

abbrev pub message_of : Saying → Request → MessageTree
message_of saying r = message_to r.epc.now saying r

-- ---- what is heard

abbrev pub is_message : MsgKind → MessageTree → Bool
is_message kind m = number_of (Message m.kind) == number_of (Message kind)

-- the status that the first parameter of a kind says, and 0 if there is none
abbrev pub status_in : ParamKind → List Tree → ℕ
status_in kind ts = min (field_of 0 (find (is_kind kind) ts)) 65535

-- the status with which a message answers what was asked last: it has that id, and is the response or an ERROR_MESSAGE
abbrev pub answer_to : Demand → MessageTree → Option ℕ
answer_to d m =
    if (m.id == demand_id d) && (is_message (answer_kind d) m || is_message WholeErrorMessage m) then Some (status_in WholeLlrpStatus (trees m.children)) else None

abbrev pub answer_in : Stage → MessageTree → Option ℕ
answer_in (Asking d) m = answer_to d m
answer_in _ m = None

-- the status of a ConnectionAttemptEvent
abbrev pub status_of : Option Tree → Option ℕ
status_of None = None
status_of (Some t) = Some (min (field_at 0 t) 65535)

abbrev pub attempt_below : Option Tree → Option ℕ
attempt_below None = None
attempt_below (Some t) = status_of (find (is_kind WholeConnectionAttemptEvent) (trees t.children))

abbrev pub attempt_in : MessageTree → Option ℕ
attempt_in m = attempt_below (find (is_kind WholeReaderEventNotificationData) (trees m.children))

-- the octets by which an EPC of this many bits names its tag: none if it is not of whole words, or of more than 31 (EPC C1G2, section 6.3.2.1.2)
abbrev pub named : (bits : ℕ) → List ℕ → List ℕ
named bits octets = if (bits % 16 == 0) && nat_le bits 496 then octets else []

-- those of the first EPC among parameters: a number of 96 bits, or data
abbrev pub epc_in : List Tree → List ℕ
epc_in [] = []
epc_in (t ∷ ts) = if is_parameter WholeEpc96 t then drop 4 (to_be_bytes w128 (field_at 0 t)) else if is_parameter WholeEpcData t then named (field_at 0 t) t.tail else epc_in ts

-- TagReportData with results of the AccessSpec with this id
abbrev pub has_results : ℕ → Tree → Bool
has_results id t = is_parameter WholeTagReportData t && list_any is_result (trees t.children) && are_of id (trees t.children)

abbrev pub hear_tag : ℕ → Tree → Course → Course
hear_tag id t c = if has_results id t then finish c else if is_parameter WholeTagReportData t then sees (epc_in (trees t.children)) c else c

abbrev pub hear_tags : ℕ → List Tree → Course → Course
hear_tags id [] c = c
hear_tags id (t ∷ ts) c = hear_tags id ts (hear_tag id t c)

abbrev pub hear_answer : Option ℕ → Course → Course
hear_answer None c = c
hear_answer (Some status) c = answer c.stage status c

abbrev pub hear_attempt : Option ℕ → Course → Course
hear_attempt None c = c
hear_attempt (Some status) c = accept c.stage status c

-- a message came
abbrev pub hear_message : ℕ → MessageTree → Course → Course
hear_message id m c =
    if is_message WholeKeepalive m then acknowledge m.id c
    else if is_message WholeRoAccessReport m then hear_tags id (trees m.children) c
    else if is_message WholeReaderEventNotification m then hear_attempt (attempt_in m) c
    else hear_answer (answer_in c.stage m) c
