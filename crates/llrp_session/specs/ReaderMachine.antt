-- The simulated reader. Moments are in microseconds, and are given to it.
use Rattle.std.specs.Prelude.{ℕ, ◌+◌, ◌-◌, ◌*◌, ◌==◌, min, nat_lt, nat_le, Bool, true, false, not, ◌||◌, ◌&&◌, List, [], ◌∷◌, ◌++◌, length, Option, None, Some, is_some, is_none, Result, Ok, Err, if◌then◌else◌}
use Rattle.std.specs.List.{list_any}
use Rattle.llrp_tree.specs.Tree.{Tree}
use Rattle.llrp_tree.specs.declared.fault.Reason.{Reason}
use Rattle.llrp_tree.specs.declared.fault.Reason.TheVariants.{Reserved, Version, MessageType, MessageLength, Short, Value, Count, Utf8, ParamType, Misplaced, TooMany, TooDeep, ParamLength, Extra, Missing}
use Rattle.llrp_session.specs.RoSpec.{RoSpec, ReportSpec, rospec_of}
use Rattle.llrp_session.specs.Table.{Entry, RoState, Inactive, Active, is_inactive, is_active, names, enabling, disabling, setting, change, without, enter, state_of, octets_of, active, first_immediate}
use Rattle.llrp_session.specs.TagReport.{Sighting, tag_report}
use Rattle.llrp_session.specs.Contents.{Adding, Deleting, Starting, Stopping, Enabling, Disabling, Configuring, Closing, KeepaliveSpec, Config, Request, AddRoSpec, DeleteRoSpec, StartRoSpec, StopRoSpec, EnableRoSpec, DisableRoSpec, GetRoSpecs, SetReaderConfig, GetReports, CloseConnection, NoRequest, Unsupported, ReaderContent, Response, Listed, Error, Report, KeepaliveSent, Accepted, Started, Ended, Overflowed, ReaderMessage}
use Rattle.llrp_session.specs.Refusal.{Refusal, Closed, NotConnected, AlreadyUp}
pub use Rattle.llrp_session.specs.declared.types.ReaderPhase.{ReaderPhase}
pub use Rattle.llrp_session.specs.declared.types.ReaderPhase.TheVariants.{Waiting, Up, Down}
pub use Rattle.llrp_session.specs.declared.types.Keepalive.{Keepalive}

pub record Reader : Type 0 where
  pub limit : ℕ  -- the greatest length of a message, in octets
  pub phase : ReaderPhase
  pub table : List Entry  -- in rising order of ids
  pub held : List Tree  -- the TagReportData that are not sent yet
  pub started : ℕ  -- the moment at which the active ROSpec was started
  pub keepalive : Option Keepalive
  pub report : ReportSpec  -- the default ROReportSpec
  pub next_id : ℕ  -- the next own message id
  pub version : ℕ  -- of the last message taken; 1 before any

-- ROReportTrigger 2, N 0, AntennaID and PeakRSSI
abbrev pub factory_report : ReportSpec
factory_report = record {
  trigger = 2;
  n = 0;
  selector = record {
    rospec_id = false;
    spec_index = false;
    inventory_parameter_spec_id = false;
    antenna_id = true;
    channel_index = false;
    peak_rssi = true;
    first_seen = false;
    last_seen = false;
    tag_seen_count = false;
  };
}

-- a reader as new
abbrev pub new_reader : ℕ → ℕ → Reader
new_reader limit first_id = record {
  limit = limit;
  phase = Waiting;
  table = [];
  held = [];
  started = 0;
  keepalive = None;
  report = factory_report;
  next_id = first_id;
  version = 1;
}

-- the greatest number of reports that are held
abbrev pub most_held : ℕ
most_held = 64

-- ---- status codes (LLRP 1.1, section 15)

abbrev pub success : ℕ
success = 0

abbrev pub parameter_error : ℕ
parameter_error = 100

abbrev pub field_error : ℕ
field_error = 101

abbrev pub unsupported_message : ℕ
unsupported_message = 109

abbrev pub unsupported_version : ℕ
unsupported_version = 110

-- ---- messages

-- what a step has sent so far, in order, and the reader as it is then
pub record Turn : Type 0 where
  pub sent : List ReaderMessage
  pub reader : Reader

-- nothing is sent yet
abbrev pub turn_begun : Reader → Turn
turn_begun r = record { sent = []; reader = r }

-- own ids go upward, and on from 1
abbrev pub following : ℕ → ℕ
following id = if id == 4294967295 then 1 else id + 1

-- one more message, under an own id and with the version of the last message taken
abbrev pub tell : ReaderContent → Turn → Turn
tell word t = record {
  sent = t.sent ++ record { version = t.reader.version; id = t.reader.next_id; word = word } ∷ [];
  reader = record t.reader { next_id = following t.reader.next_id };
}

-- one more message, under the id and with the version of the message that it answers
abbrev pub reply : ℕ → ℕ → ReaderContent → Turn → Turn
reply version id word t = record { sent = t.sent ++ record { version = version; id = id; word = word } ∷ []; reader = t.reader }

abbrev pub with_reader : Reader → Turn → Turn
with_reader r t = record { sent = t.sent; reader = r }

abbrev pub with_table : List Entry → Turn → Turn
with_table table t = with_reader (record t.reader { table = table }) t

-- ---- reports

-- one RO_ACCESS_REPORT with all that is held, perhaps nothing
abbrev pub send_held : Turn → Turn
send_held t = let told = tell (Report t.reader.held) t in with_reader (record told.reader { held = [] }) told

-- a ROSpec's own ROReportSpec, else the default
abbrev pub own_or : ReportSpec → Option ReportSpec → ReportSpec
own_or default None = default
own_or default (Some own) = own

abbrev pub effective_report : Reader → RoSpec → ReportSpec
effective_report r s = own_or r.report s.report

-- reports are sent without a request: the trigger is 1 or 2
abbrev pub sends_unasked : ReportSpec → Bool
sends_unasked p = (p.trigger == 1) || (p.trigger == 2)

-- no such ROReportTrigger: it is above 2
abbrev pub is_bad_report : Option ReportSpec → Bool
is_bad_report None = false
is_bad_report (Some p) = nat_lt 2 p.trigger

-- ---- a ROSpec starts and ends

abbrev pub set_state : ℕ → RoState → Turn → Turn
set_state id state t = with_table (change (setting id state) t.reader.table) t

-- a ROSpec starts: it is Active from now on, and the Start event is sent
abbrev pub start : ℕ → ℕ → Turn → Turn
start now id t =
    let activated = set_state id Active t in
    tell (Started now id) (with_reader (record activated.reader { started = now }) activated)

-- something is held, and is sent at the end
abbrev pub sends_at_end : Reader → RoSpec → Bool
sends_at_end r s = sends_unasked (effective_report r s) && not (length r.held == 0)

-- a ROSpec ends: what is held is sent if its reports are, then the End event; it is Inactive
unfoldable pub end : ℕ → RoSpec → Turn → Turn
end now s t =
    let reported = if sends_at_end t.reader s then send_held t else t in
    tell (Ended now s.id) (set_state s.id Inactive reported)

-- the active ROSpec ends if it passes the test
abbrev pub end_if : (RoSpec → Bool) → ℕ → Option RoSpec → Turn → Turn
end_if test now None t = t
end_if test now (Some s) t = if test s then end now s t else t

-- the active ROSpec ends if it is named
abbrev pub end_named : ℕ → ℕ → Turn → Turn
end_named now n t = end_if (λ s. names n s.id) now (active t.reader.table) t

-- ---- requests, each with the moment, and with its message's version and id

-- a field has a value that no ROSpec may have here
abbrev pub has_bad_field : List Entry → RoSpec → Bool
has_bad_field table s =
    (s.id == 0) || is_some (state_of s.id table) || not (s.current_state == 0)
    || (s.start_trigger == 2) || (s.start_trigger == 3) || (s.stop_trigger == 2) || s.has_ai_stop || is_bad_report s.report

-- all ROSpecs of the table would not fit one message with it
abbrev pub is_too_long : ℕ → List Entry → RoSpec → Bool
is_too_long limit table s = nat_lt (limit - 18) (octets_of table + s.octets)

abbrev pub add_status : ℕ → List Entry → RoSpec → ℕ
add_status limit table s =
    if has_bad_field table s then field_error else (if is_too_long limit table s then parameter_error else success)

-- ADD_ROSPEC: it is added, Disabled
abbrev pub add_rospec : ℕ → ℕ → RoSpec → Turn → Turn
add_rospec version id s t =
    let status = add_status t.reader.limit t.reader.table s in
    reply version id (Response Adding status) (if status == success then with_table (enter s t.reader.table) t else t)

-- 0 names all, perhaps none; any other id has to be in the table
abbrev pub is_known : ℕ → List Entry → Bool
is_known n table = (n == 0) || is_some (state_of n table)

-- DELETE_ROSPEC: those named are removed; the active one among them ends first
abbrev pub delete_rospec : ℕ → ℕ → ℕ → ℕ → Turn → Turn
delete_rospec now version id n t =
    let ended = end_named now n t in
    if is_known n t.reader.table
    then reply version id (Response Deleting success) (with_table (without n ended.reader.table) ended)
    else reply version id (Response Deleting field_error) t

-- a ROSpec starts if none is active
abbrev pub start_if_idle : ℕ → Option RoSpec → Bool → Turn → Turn
start_if_idle now None idle t = t
start_if_idle now (Some s) idle t = if idle then start now s.id t else t

-- ENABLE_ROSPEC: those named that are Disabled become Inactive, and after the response, if none is active, the one with the
-- lowest id among them that starts by itself is started
abbrev pub enable_rospec : ℕ → ℕ → ℕ → ℕ → Turn → Turn
enable_rospec now version id n t =
    let table = t.reader.table in
    let enabled = reply version id (Response Enabling success) (with_table (change (enabling n) table) t) in
    if is_known n table
    then start_if_idle now (first_immediate n table) (is_none (active table)) enabled
    else reply version id (Response Enabling field_error) t

-- DISABLE_ROSPEC: those named become Disabled; the active one among them ends first
abbrev pub disable_rospec : ℕ → ℕ → ℕ → ℕ → Turn → Turn
disable_rospec now version id n t =
    let ended = end_named now n t in
    if is_known n t.reader.table
    then reply version id (Response Disabling success) (with_table (change (disabling n) ended.reader.table) ended)
    else reply version id (Response Disabling field_error) t

abbrev pub has_state : (RoState → Bool) → Option RoState → Bool
has_state test None = false
has_state test (Some state) = test state

-- START_ROSPEC: an Inactive one starts after the response if none is active
abbrev pub start_rospec : ℕ → ℕ → ℕ → ℕ → Turn → Turn
start_rospec now version id n t =
    if has_state is_inactive (state_of n t.reader.table) && is_none (active t.reader.table)
    then start now n (reply version id (Response Starting success) t)
    else reply version id (Response Starting field_error) t

-- STOP_ROSPEC: the Active one ends before the response
abbrev pub stop_rospec : ℕ → ℕ → ℕ → ℕ → Turn → Turn
stop_rospec now version id n t =
    if has_state is_active (state_of n t.reader.table)
    then reply version id (Response Stopping success) (end_if (λ s. s.id == n) now (active t.reader.table) t)
    else reply version id (Response Stopping field_error) t

-- GET_ROSPECS: each ROSpec of the table is listed with its present state
abbrev pub list_rospecs : ℕ → ℕ → Turn → Turn
list_rospecs version id t = reply version id (Listed t.reader.table) t

-- ---- settings

-- a moment this many milliseconds later; it stops at the greatest u64
abbrev pub later : ℕ → ℕ → ℕ
later now ms = min (now + 1000 * ms) 18446744073709551615

-- a period of 0
abbrev pub is_bad_keepalive : Option KeepaliveSpec → Bool
is_bad_keepalive None = false
is_bad_keepalive (Some k) = (k.trigger == 1) && (k.period == 0)

-- the next keepalive, after this one
abbrev pub keepalive_from : ℕ → ℕ → Keepalive
keepalive_from now period = record { period = period; due = later now period }

abbrev pub set_keepalive : ℕ → Option KeepaliveSpec → Reader → Reader
set_keepalive now None r = r
set_keepalive now (Some k) r = record r { keepalive = if k.trigger == 0 then None else Some (keepalive_from now k.period) }

abbrev pub set_report : Option ReportSpec → Reader → Reader
set_report None r = r
set_report (Some p) r = record r { report = p }

-- no keepalive, and the factory default
abbrev pub reset_if : Bool → Reader → Reader
reset_if chosen r = if chosen then record r { keepalive = None; report = factory_report } else r

unfoldable pub configured : ℕ → Config → Reader → Reader
configured now k r = set_report k.report (set_keepalive now k.keepalive (reset_if k.reset r))

-- SET_READER_CONFIG: the table stays
abbrev pub set_reader_config : ℕ → ℕ → ℕ → Config → Turn → Turn
set_reader_config now version id k t =
    if is_bad_report k.report || is_bad_keepalive k.keepalive
    then reply version id (Response Configuring field_error) t
    else reply version id (Response Configuring success) (with_reader (configured now k t.reader) t)

-- CLOSE_CONNECTION: the table stays, and no end is reported
abbrev pub close_connection : ℕ → ℕ → Turn → Turn
close_connection version id t =
    reply version id (Response Closing success) (with_reader (record t.reader { phase = Down }) t)

-- what a request does
unfoldable pub serve : ℕ → ℕ → ℕ → Request → Turn → Turn
serve now version id (AddRoSpec rospec) t = add_rospec version id (rospec_of rospec) t
serve now version id (DeleteRoSpec n) t = delete_rospec now version id n t
serve now version id (EnableRoSpec n) t = enable_rospec now version id n t
serve now version id (DisableRoSpec n) t = disable_rospec now version id n t
serve now version id (StartRoSpec n) t = start_rospec now version id n t
serve now version id (StopRoSpec n) t = stop_rospec now version id n t
serve now version id GetRoSpecs t = list_rospecs version id t
serve now version id (SetReaderConfig k) t = set_reader_config now version id k t
serve now version id GetReports t = send_held t
serve now version id CloseConnection t = close_connection version id t
serve now version id NoRequest t = t
serve now version id Unsupported t = reply version id (Error unsupported_message) t

-- ---- frames that are no message

-- the status that answers a frame, by its fault
abbrev pub fault_status : Reason → ℕ
fault_status Version = unsupported_version
fault_status MessageType = unsupported_message
fault_status Reserved = field_error
fault_status Value = field_error
fault_status Count = field_error
fault_status Utf8 = field_error
fault_status MessageLength = parameter_error
fault_status Short = parameter_error
fault_status ParamType = parameter_error
fault_status Misplaced = parameter_error
fault_status TooMany = parameter_error
fault_status TooDeep = parameter_error
fault_status ParamLength = parameter_error
fault_status Extra = parameter_error
fault_status Missing = parameter_error

-- ---- sightings

abbrev pub lists_antenna : ℕ → List ℕ → Bool
lists_antenna antenna antennas = list_any (λ a. (a == 0) || (a == antenna)) antennas

-- the active ROSpec, if it lists the antenna or 0
abbrev pub counting : Sighting → Option RoSpec → Option RoSpec
counting g None = None
counting g (Some s) = if lists_antenna g.antenna s.antennas then Some s else None

-- enough are held for them to be sent
abbrev pub is_report_due : ReportSpec → ℕ → Bool
is_report_due p count = sends_unasked p && (nat_lt 0 p.n && nat_le p.n count)

abbrev pub is_full : Reader → Bool
is_full r = nat_le most_held (length r.held)

abbrev pub hold : Tree → Turn → Turn
hold tag t = with_reader (record t.reader { held = t.reader.held ++ tag ∷ [] }) t

-- what is held is sent if it is enough
abbrev pub send_if_enough : ReportSpec → Turn → Turn
send_if_enough p t = if is_report_due p (length t.reader.held) then send_held t else t

-- a sighting that counts while this ROSpec is active
unfoldable pub see : ℕ → Sighting → Option RoSpec → Turn → Turn
see now g None t = t
see now g (Some s) t =
    let p = effective_report t.reader s in
    if is_full t.reader
    then tell (Overflowed now) t
    else send_if_enough p (hold (tag_report now s p.selector g) t)

-- ---- time passes

-- the active ROSpec has run as long as its stop trigger says
abbrev pub has_run_out : ℕ → ℕ → RoSpec → Bool
has_run_out now started s = (s.stop_trigger == 1) && nat_le (later started s.duration) now

-- a keepalive that is due
abbrev pub keep_alive : ℕ → Option Keepalive → Turn → Turn
keep_alive now None t = t
keep_alive now (Some k) t =
    let told = tell KeepaliveSent t in
    if nat_le k.due now then with_reader (record told.reader { keepalive = Some (keepalive_from now k.period) }) told else t

unfoldable pub tick : ℕ → Turn → Turn
tick now t =
    let ended = end_if (has_run_out now t.reader.started) now (active t.reader.table) t in
    keep_alive now ended.reader.keepalive ended

-- ---- events

pub data ReaderEvent : Type 0 where
  Connect : ReaderEvent
  Take : (version id : ℕ) → Request → ReaderEvent
  TakeBad : (id : ℕ) → Reason → ReaderEvent
  Seen : Sighting → ReaderEvent
  Tick : ReaderEvent

-- a client connects
abbrev pub connect : ℕ → Reader → Turn
connect now r = tell (Accepted now) (turn_begun (record r { phase = Up }))

-- what happens to a reader whose client is connected
abbrev pub happen : ℕ → ReaderEvent → Reader → Turn
happen now Connect r = turn_begun r
happen now (Take version id request) r = serve now version id request (turn_begun (record r { version = version }))
happen now (TakeBad id reason) r = reply r.version id (Error (fault_status reason)) (turn_begun r)
happen now (Seen g) r = see now g (counting g (active r.table)) (turn_begun r)
happen now Tick r = tick now (turn_begun r)

-- the turn that an event makes in a phase, or why it is refused
abbrev pub next_in : ReaderPhase → ℕ → ReaderEvent → Reader → Result Turn Refusal
next_in Down now e r = Err Closed
next_in Waiting now Connect r = Ok (connect now r)
next_in Waiting now _ r = Err NotConnected
next_in Up now Connect r = Err AlreadyUp
next_in Up now e r = Ok (happen now e r)

-- the next step
unfoldable pub next : ℕ → ReaderEvent → Reader → Result Turn Refusal
next now e r = next_in r.phase now e r
