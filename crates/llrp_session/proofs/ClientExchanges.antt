-- Worked exchanges of the client, computed on the machine: limit 65,536, first id 1 where no other is named.
use Rattle.std.proofs.Common.{◌≡◌, ℕ, refl, List, [], ◌∷◌}
use Rattle.std.specs.Prelude.{Option, None, Some, false, Result, Ok, Err}
use Rattle.llrp_schema.specs.Schema.{number_of, rule_of, param_rule, fields_of, tail_of, is_tv, key_of, set_of_kind}
use Rattle.llrp_tree.specs.Lawful.{body_octets}
use Rattle.llrp_session.specs.RoSpec.{rospec_of, report_spec_of}
use Rattle.llrp_session.specs.Table.{Disabled, Active, change_view, view_without, enter_view, viewed_state}
use Rattle.llrp_session.specs.Contents.{Adding, Enabling, Closing, Accepted, Started, Response, KeepaliveSent, Heard, HeardNotification, HeardKeepalive, Command, Add, Enable, GetReport, Close, Asks, Acknowledges, ClientMessage}
use Rattle.llrp_session.specs.Calls.Contents.{heard}
use Rattle.llrp_session.specs.Refusal.{Refusal, Closed as ClosedRefusal, NotReady, Busy, OverLimit, IdsSpent, Unexpected}
use Rattle.llrp_session.specs.ClientMachine.{Client, Closed, Taken, Connected, Refused, Reply, Event, Note, Kept, ConnectionEnded, Taking, Sending, new_client, take, command}
use Rattle.llrp_session.proofs.Examples.{rospec}

-- ---- the exchanges' steps

-- a command that is sent, or a message with an id that is taken
pub data Move : Type 0 where
  Commanded : Command → Move
  Delivered : (id : ℕ) → Heard → Move

abbrev client_after_sending : Result Sending Refusal → Client → Client
client_after_sending (Ok s) c = s.client
client_after_sending (Err refusal) c = c

abbrev client_after_taking : Result Taking Refusal → Client → Client
client_after_taking (Ok k) c = k.client
client_after_taking (Err refusal) c = c

-- the client after some moves; one that is refused changes nothing
abbrev client_after : List Move → Client → Client
client_after [] c = c
client_after (Commanded k ∷ moves) c = client_after moves (client_after_sending (command c k) c)
client_after (Delivered id h ∷ moves) c = client_after moves (client_after_taking (take c id h) c)

abbrev after : List Move → Client
after moves = client_after moves (new_client 65536 1)

-- the message that a command sends
abbrev messages : Result Sending Refusal → List ClientMessage
messages (Ok s) = s.message ∷ []
messages (Err refusal) = []

abbrev answers : Result Taking Refusal → List ClientMessage
answers (Ok k) = k.sent
answers (Err refusal) = []

-- what it was taken for
abbrev taken : Result Taking Refusal → Option Taken
taken (Ok k) = Some k.taken
taken (Err refusal) = None

-- the reader accepts the connection
abbrev accepted : Move
accepted = Delivered 1 (heard (Accepted 0))

-- ---- the exchanges

-- no command goes before the reader accepts the connection
pub not_ready : command (new_client 65536 1) (Enable 1) ≡ Err NotReady
unfolding take command change_view view_without enter_view viewed_state rospec_of report_spec_of number_of key_of set_of_kind rule_of param_rule fields_of tail_of is_tv body_octets
not_ready = refl

-- nothing but the acceptance is taken first
pub keepalive_before_connection : take (new_client 65536 1) 7 HeardKeepalive ≡ Err Unexpected
unfolding take command change_view view_without enter_view viewed_state rospec_of report_spec_of number_of key_of set_of_kind rule_of param_rule fields_of tail_of is_tv body_octets
keepalive_before_connection = refl

pub connects : taken (take (new_client 65536 1) 1 (heard (Accepted 0))) ≡ Some Connected
unfolding take command change_view view_without enter_view viewed_state rospec_of report_spec_of number_of key_of set_of_kind rule_of param_rule fields_of tail_of is_tv body_octets
connects = refl

-- a connection that is refused is closed
pub is_refused : (taken (take (new_client 65536 1) 1 (HeardNotification (record { attempt = Some 2; closes = false; rospec = None }))) ≡ Some (Refused 2))
    × ((after (Delivered 1 (HeardNotification (record { attempt = Some 2; closes = false; rospec = None })) ∷ [])).phase ≡ Closed)
unfolding take command change_view view_without enter_view viewed_state rospec_of report_spec_of number_of key_of set_of_kind rule_of param_rule fields_of tail_of is_tv body_octets
is_refused = (refl, refl)

-- a second acceptance is a notification like others
pub accepted_twice : taken (take (after (accepted ∷ [])) 1 (heard (Accepted 0))) ≡ Some Note
unfolding take command change_view view_without enter_view viewed_state rospec_of report_spec_of number_of key_of set_of_kind rule_of param_rule fields_of tail_of is_tv body_octets
accepted_twice = refl

-- ENABLE_ROSPEC is the first message of its own
pub enable : messages (command (after (accepted ∷ [])) (Enable 1)) ≡ record { id = 1; word = Asks (Enable 1) } ∷ []
unfolding take command change_view view_without enter_view viewed_state rospec_of report_spec_of number_of key_of set_of_kind rule_of param_rule fields_of tail_of is_tv body_octets
enable = refl

-- no second request while one is pending
pub busy : command (after (accepted ∷ Commanded (Enable 1) ∷ [])) Close ≡ Err Busy
unfolding take command change_view view_without enter_view viewed_state rospec_of report_spec_of number_of key_of set_of_kind rule_of param_rule fields_of tail_of is_tv body_octets
busy = refl

-- a response with another id, or to another request
pub response_to_another : (take (after (accepted ∷ Commanded (Enable 1) ∷ [])) 2 (heard (Response Enabling 0)) ≡ Err Unexpected)
    × (take (after (accepted ∷ Commanded (Enable 1) ∷ [])) 1 (heard (Response Adding 0)) ≡ Err Unexpected)
unfolding take command change_view view_without enter_view viewed_state rospec_of report_spec_of number_of key_of set_of_kind rule_of param_rule fields_of tail_of is_tv body_octets
response_to_another = (refl, refl)

-- a KEEPALIVE is acknowledged under its own id
pub keepalive : (taken (take (after (accepted ∷ [])) 7 (heard KeepaliveSent)) ≡ Some Kept)
    × (answers (take (after (accepted ∷ [])) 7 (heard KeepaliveSent)) ≡ record { id = 7; word = Acknowledges } ∷ [])
unfolding take command change_view view_without enter_view viewed_state rospec_of report_spec_of number_of key_of set_of_kind rule_of param_rule fields_of tail_of is_tv body_octets
keepalive = (refl, refl)

-- GET_REPORT leaves nothing pending; after the last id there is none
pub ids_spent : (messages (command (client_after (accepted ∷ []) (new_client 65536 4294967295)) GetReport) ≡ record { id = 4294967295; word = Asks GetReport } ∷ [])
    × (command (client_after (accepted ∷ Commanded GetReport ∷ []) (new_client 65536 4294967295)) GetReport ≡ Err IdsSpent)
unfolding take command change_view view_without enter_view viewed_state rospec_of report_spec_of number_of key_of set_of_kind rule_of param_rule fields_of tail_of is_tv body_octets
ids_spent = (refl, refl)

-- a ROSpec that is added is Disabled in the view; with another status the view stays as it was
pub view_moves_on_success : (viewed_state 1 (after (accepted ∷ Commanded (Add rospec) ∷ Delivered 1 (heard (Response Adding 0)) ∷ [])).view ≡ Some Disabled)
    × (viewed_state 1 (after (accepted ∷ Commanded (Add rospec) ∷ Delivered 1 (heard (Response Adding 101)) ∷ [])).view ≡ None)
    × (taken (take (after (accepted ∷ Commanded (Add rospec) ∷ [])) 1 (heard (Response Adding 101))) ≡ Some (Reply 101))
unfolding take command change_view view_without enter_view viewed_state rospec_of report_spec_of number_of key_of set_of_kind rule_of param_rule fields_of tail_of is_tv body_octets
view_moves_on_success = (refl, refl, refl)

-- the 62 octets of ADD_ROSPEC against the limit
pub over_limit : (command (client_after (accepted ∷ []) (new_client 61 1)) (Add rospec) ≡ Err OverLimit)
    × (messages (command (client_after (accepted ∷ []) (new_client 62 1)) (Add rospec)) ≡ record { id = 1; word = Asks (Add rospec) } ∷ [])
unfolding take command change_view view_without enter_view viewed_state rospec_of report_spec_of number_of key_of set_of_kind rule_of param_rule fields_of tail_of is_tv body_octets
over_limit = (refl, refl)

-- an event of a ROSpec of the view, and of another
pub rospec_events : (taken (take (after (accepted ∷ Commanded (Add rospec) ∷ Delivered 1 (heard (Response Adding 0)) ∷ [])) 2 (heard (Started 5 1))) ≡ Some (Event 1 Active))
    × (taken (take (after (accepted ∷ Commanded (Add rospec) ∷ Delivered 1 (heard (Response Adding 0)) ∷ [])) 2 (heard (Started 5 2))) ≡ Some Note)
unfolding take command change_view view_without enter_view viewed_state rospec_of report_spec_of number_of key_of set_of_kind rule_of param_rule fields_of tail_of is_tv body_octets
rospec_events = (refl, refl)

-- CLOSE_CONNECTION's response closes whatever its status; then all is refused
pub closes : (taken (take (after (accepted ∷ Commanded Close ∷ [])) 1 (heard (Response Closing 101))) ≡ Some ConnectionEnded)
    × (command (after (accepted ∷ Commanded Close ∷ Delivered 1 (heard (Response Closing 101)) ∷ [])) Close ≡ Err ClosedRefusal)
    × (take (after (accepted ∷ Commanded Close ∷ Delivered 1 (heard (Response Closing 101)) ∷ [])) 7 HeardKeepalive ≡ Err ClosedRefusal)
unfolding take command change_view view_without enter_view viewed_state rospec_of report_spec_of number_of key_of set_of_kind rule_of param_rule fields_of tail_of is_tv body_octets
closes = (refl, refl, refl)
