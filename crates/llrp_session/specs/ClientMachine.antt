-- The client.
use Rattle.std.specs.Prelude.{ℕ, ◌+◌, ◌==◌, nat_lt, Bool, true, false, ◌&&◌, not, List, [], ◌∷◌, Option, None, Some, is_some, Result, Ok, Err, if◌then◌else◌}
use Rattle.std.specs.List.{list_any, list_all}
use Rattle.llrp_tree.specs.Tree.{Tree}
use Rattle.llrp_session.specs.RoSpec.{rospec_of, field_of}
use Rattle.llrp_session.specs.Table.{Viewed, RoState, Inactive, Active, state_number, enabling, disabling, setting, change_view, view_without, enter_view, viewed_state}
use Rattle.llrp_session.specs.Contents.{Operation, Adding, Deleting, Starting, Stopping, Enabling, Disabling, Listing, Configuring, Closing, Command, Add, Delete, Start, Stop, Enable, Disable, GetRospecs, SetKeepalive, GetReport, Close, RoSpecChange, Heard, HeardResponse, HeardError, HeardReport, HeardKeepalive, HeardNotification, HeardOther, Asks, Acknowledges, ClientMessage}
use Rattle.llrp_session.specs.Refusal.{Refusal, Closed as ClosedRefusal, NotReady, Busy, OverLimit, IdsSpent, Unexpected}
pub use Rattle.llrp_session.specs.declared.types.ClientPhase.{ClientPhase}
pub use Rattle.llrp_session.specs.declared.types.ClientPhase.TheVariants.{Fresh, Ready, Closed}
pub use Rattle.llrp_session.specs.declared.types.Pending.{Pending}
pub use Rattle.llrp_session.specs.declared.types.Taken.{Taken}
pub use Rattle.llrp_session.specs.declared.types.Taken.TheVariants.{Connected, Refused, Reply, Tags, Table, Differs, Event, Note, Kept, Closed as ConnectionEnded}

pub record Client : Type 0 where
  pub limit : ℕ  -- the greatest length of a message, in octets
  pub phase : ClientPhase
  pub pending : Option Pending  -- the request that waits for its response
  pub view : List Viewed  -- the ROSpecs that it added, in rising order of ids
  pub next_id : ℕ  -- the next message id; above 4,294,967,295 where they are spent

-- a client as new
abbrev pub new_client : ℕ → ℕ → Client
new_client limit first_id = record { limit = limit; phase = Fresh; pending = None; view = []; next_id = first_id }

-- ---- commands

abbrev pub waits_for : ℕ → Operation → ℕ → Option Pending
waits_for id operation rospec = Some (record { id = id; operation = operation; rospec = rospec })

-- what waits for a response once the command is sent under an id
abbrev pub awaited : ℕ → Command → Option Pending
awaited id (Add spec) = waits_for id Adding (rospec_of spec).id
awaited id (Delete n) = waits_for id Deleting n
awaited id (Start n) = waits_for id Starting n
awaited id (Stop n) = waits_for id Stopping n
awaited id (Enable n) = waits_for id Enabling n
awaited id (Disable n) = waits_for id Disabling n
awaited id GetRospecs = waits_for id Listing 0
awaited id (SetKeepalive ms) = waits_for id Configuring 0
awaited id GetReport = None
awaited id Close = waits_for id Closing 0

-- its message would be longer than the limit: only ADD_ROSPEC can be
abbrev pub is_over_limit : ℕ → Command → Bool
is_over_limit limit (Add spec) = nat_lt limit (10 + (rospec_of spec).octets)
is_over_limit limit _ = false

abbrev pub are_spent : ℕ → Bool
are_spent next_id = nat_lt 4294967295 next_id

abbrev pub refused_when_ready : Client → Command → Option Refusal
refused_when_ready c k =
    if is_some c.pending then Some Busy
    else (if is_over_limit c.limit k then Some OverLimit
    else (if are_spent c.next_id then Some IdsSpent else None))

-- why a command is refused in a phase
abbrev pub refused_in : ClientPhase → Client → Command → Option Refusal
refused_in Closed c k = Some ClosedRefusal
refused_in Fresh c k = Some NotReady
refused_in Ready c k = refused_when_ready c k

-- the message of a command, and the client once it is sent
pub record Sending : Type 0 where
  pub message : ClientMessage
  pub client : Client

abbrev pub sending : Client → Command → Sending
sending c k = record {
  message = record { id = c.next_id; word = Asks k };
  client = record c { pending = awaited c.next_id k; next_id = c.next_id + 1 };
}

abbrev pub sent_unless : Option Refusal → Client → Command → Result Sending Refusal
sent_unless None c k = Ok (sending c k)
sent_unless (Some refusal) c k = Err refusal

-- the step of a command
unfoldable pub command : Client → Command → Result Sending Refusal
command c k = sent_unless (refused_in c.phase c k) c k

-- ---- messages

-- what a message was taken for, the messages that answer it, and the client then
pub record Taking : Type 0 where
  pub taken : Taken
  pub sent : List ClientMessage
  pub client : Client

-- nothing is sent
abbrev pub takes : Taken → Client → Result Taking Refusal
takes taken c = Ok (record { taken = taken; sent = []; client = c })

abbrev pub unexpected : Result Taking Refusal
unexpected = Err Unexpected

abbrev operation_number : Operation → ℕ
operation_number Adding = 0
operation_number Deleting = 1
operation_number Starting = 2
operation_number Stopping = 3
operation_number Enabling = 4
operation_number Disabling = 5
operation_number Configuring = 6
operation_number Closing = 7
operation_number Listing = 8

-- the response is to the pending request: it has its id and its kind
abbrev pub is_response_to : Pending → ℕ → Operation → Bool
is_response_to p id operation = (p.id == id) && (operation_number p.operation == operation_number operation)

-- the view once a request was granted
abbrev pub granted : Operation → ℕ → List Viewed → List Viewed
granted Adding n view = enter_view n view
granted Deleting n view = view_without n view
granted Enabling n view = change_view (enabling n) view
granted Disabling n view = change_view (disabling n) view
granted _ n view = view

-- nothing is pending any more
abbrev pub cleared : Client → Client
cleared c = record c { pending = None }

abbrev pub closed : Client → Client
closed c = record c { phase = Closed }

-- a response with a status; status 0 grants the request
abbrev pub replied : Client → Pending → ℕ → Result Taking Refusal
replied c p status =
    takes (Reply status) (if status == 0 then record c { pending = None; view = granted p.operation p.rospec c.view } else cleared c)

-- a ROSpec that is listed has this id and this state
abbrev pub shows : Tree → Viewed → Bool
shows t v = (field_of 0 (Some t) == v.id) && (field_of 2 (Some t) == state_number v.state)

-- two ROSpecs that are listed have one ROSpecID
abbrev pub names_same : Tree → Tree → Bool
names_same t u = field_of 0 (Some t) == field_of 0 (Some u)

-- no ROSpecID is named twice
unfoldable pub names_none_twice : List Tree → Bool
names_none_twice [] = true
names_none_twice (t ∷ ts) = not (list_any (names_same t) ts) && names_none_twice ts

-- the pairs of ROSpecID and CurrentState name no id twice, and are exactly those of the view
abbrev pub is_view : List Tree → List Viewed → Bool
is_view ts view =
    names_none_twice ts && (list_all (λ t. list_any (shows t) view) ts && list_all (λ v. list_any (λ t. shows t v) ts) view)

-- the ROSpecs that the reader lists are the view, or differ from it
abbrev pub compared : List Tree → List Viewed → Taken
compared ts view = if is_view ts view then Table ts else Differs ts

-- GET_ROSPECS's response with status 0 is compared with the view, which stays
abbrev pub listed : Client → ℕ → List Tree → Result Taking Refusal
listed c status ts = takes (if status == 0 then compared ts c.view else Reply status) (cleared c)

-- CLOSE_CONNECTION's response closes, whatever its status
abbrev pub take_response : Operation → Client → Pending → ℕ → List Tree → Result Taking Refusal
take_response Closing c p status ts = takes ConnectionEnded (closed (cleared c))
take_response Listing c p status ts = listed c status ts
take_response _ c p status ts = replied c p status

-- the response to the pending request is taken; any other is unexpected
abbrev pub answered : Option Pending → Client → ℕ → Operation → ℕ → List Tree → Result Taking Refusal
answered None c id operation status ts = unexpected
answered (Some p) c id operation status ts = if is_response_to p id operation then take_response operation c p status ts else unexpected

-- ERROR_MESSAGE with the pending id: the request failed, and the view stays
abbrev pub failed : Option Pending → Client → ℕ → ℕ → Result Taking Refusal
failed None c id status = unexpected
failed (Some p) c id status = if p.id == id then takes (Reply status) (cleared c) else unexpected

-- a ROSpecEvent of type 0 is a start, another an end
abbrev pub state_after : ℕ → RoState
state_after event = if event == 0 then Active else Inactive

-- an event of a ROSpec outside the view is only noted
abbrev pub event_of : Option RoState → RoSpecChange → Taken
event_of None e = Note
event_of (Some state) e = Event e.id (state_after e.event)

abbrev pub moved : Client → RoSpecChange → Client
moved c e = record c { view = change_view (setting e.id (state_after e.event)) c.view }

-- READER_EVENT_NOTIFICATION once the client is ready
abbrev pub notified : Client → Bool → Option RoSpecChange → Result Taking Refusal
notified c true e = takes ConnectionEnded (closed c)
notified c false None = takes Note c
notified c false (Some e) = takes (event_of (viewed_state e.id c.view) e) (moved c e)

abbrev pub take_ready : Client → ℕ → Heard → Result Taking Refusal
take_ready c id (HeardResponse operation status ts) = answered c.pending c id operation status ts
take_ready c id (HeardError status) = failed c.pending c id status
take_ready c id (HeardReport tags) = takes (Tags tags) c
take_ready c id HeardKeepalive = Ok (record { taken = Kept; sent = record { id = id; word = Acknowledges } ∷ []; client = c })
take_ready c id (HeardNotification n) = notified c n.closes n.rospec
take_ready c id HeardOther = unexpected

-- ConnectionAttemptEvent: status 0 accepts the connection, another refuses it
abbrev pub attempted : Client → Option ℕ → Result Taking Refusal
attempted c None = unexpected
attempted c (Some status) =
    if status == 0 then takes Connected (record c { phase = Ready }) else takes (Refused status) (closed c)

abbrev pub take_fresh : Client → Heard → Result Taking Refusal
take_fresh c (HeardNotification n) = attempted c n.attempt
take_fresh c _ = unexpected

abbrev pub take_in : ClientPhase → Client → ℕ → Heard → Result Taking Refusal
take_in Fresh c id h = take_fresh c h
take_in Ready c id h = take_ready c id h
take_in Closed c id h = Err ClosedRefusal

-- the step of a message with an id
unfoldable pub take : Client → ℕ → Heard → Result Taking Refusal
take c id h = take_in c.phase c id h
