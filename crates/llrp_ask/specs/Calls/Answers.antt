-- Which message answers what a client waits for, and with which status (LLRP 1.1, sections 14 and 15).
use Rattle.std.specs.Prelude.{ℕ, ◌==◌, ◌&&◌, ◌||◌, min, Bool, if◌then◌else◌, List, [], ◌∷◌, slice_index, Option, Some, None, unwrap_or}
use Rattle.llrp_schema.specs.declared.kinds.MsgKind.{MsgKind}
use Rattle.llrp_schema.specs.declared.kinds.MsgKind.TheVariants.{WholeErrorMessage}
use Rattle.llrp_schema.specs.declared.kinds.ParamKind.{ParamKind}
use Rattle.llrp_schema.specs.declared.kinds.ParamKind.TheVariants.{WholeLlrpStatus, WholeReaderEventNotificationData, WholeConnectionAttemptEvent}
use Rattle.llrp_schema.specs.declared.kinds.Kind.TheVariants.{Message, Parameter}
use Rattle.llrp_schema.specs.Schema.{number_of}
use Rattle.llrp_tree.specs.Tree.{Tree, MessageTree, trees}
use Rattle.llrp_ask.specs.declared.step.Wait.{Wait}
use Rattle.llrp_ask.specs.declared.step.Wait.TheVariants.{Acceptance, Answer, Pause}

-- it is of this kind
abbrev pub is_message : MessageTree → MsgKind → Bool
is_message m kind = number_of (Message m.kind) == number_of (Message kind)

abbrev pub is_parameter : Tree → ParamKind → Bool
is_parameter t kind = number_of (Parameter t.kind) == number_of (Parameter kind)

-- the first field of a parameter, of 16 bits: the status that it says
abbrev pub status_field : Tree → ℕ
status_field t = min (slice_index t.fields 0) 65535

-- the status of the first of these parameters that is of a kind
abbrev pub status_below : ParamKind → List Tree → Option ℕ
status_below kind [] = None
status_below kind (t ∷ ts) = if is_parameter t kind then Some (status_field t) else status_below kind ts

-- the status of a ConnectionAttemptEvent in ReaderEventNotificationData
abbrev pub attempt_in : List Tree → Option ℕ
attempt_in [] = None
attempt_in (t ∷ ts) = if is_parameter t WholeReaderEventNotificationData then status_below WholeConnectionAttemptEvent (trees t.children) else attempt_in ts

-- it answers with this id: a message of this kind, or an ERROR_MESSAGE
abbrev pub answers : MsgKind → ℕ → MessageTree → Bool
answers kind id m = (m.id == id) && (is_message m kind || is_message m WholeErrorMessage)

-- the status of LLRPStatus; a message without one, as CUSTOM_MESSAGE, refuses nothing
abbrev pub status_of : MessageTree → ℕ
status_of m = unwrap_or (status_below WholeLlrpStatus (trees m.children)) 0

-- the status with which a message answers what is waited for, if it does
abbrev pub answer_of : Wait → MessageTree → Option ℕ
answer_of Acceptance m = attempt_in (trees m.children)
answer_of (Answer kind id) m = if answers kind id m then Some (status_of m) else None
answer_of (Pause milliseconds) m = None
