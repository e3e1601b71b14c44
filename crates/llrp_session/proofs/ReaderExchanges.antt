-- Worked exchanges of the reader, computed on the machine: limit 65,536, first own id 1.
use Rattle.std.proofs.Common.{◌≡◌, ℕ, refl, List, [], ◌∷◌, ◌++◌}
use Rattle.std.specs.Prelude.{None, Some, false, replicate, Err}
use Rattle.llrp_schema.specs.Schema.{number_of, rule_of, param_rule, fields_of, tail_of, is_tv, key_of, set_of_kind}
use Rattle.llrp_tree.specs.Lawful.{body_octets}
use Rattle.llrp_tree.specs.declared.fault.Reason.TheVariants.{Version, MessageType}
use Rattle.llrp_session.specs.RoSpec.{rospec_of, report_spec_of}
use Rattle.llrp_session.specs.Table.{Disabled, Inactive, Active, change, without, enter, state_of, octets_of, active, first_immediate}
use Rattle.llrp_session.specs.TagReport.{tag_report}
use Rattle.llrp_session.specs.Contents.{Adding, Starting, Stopping, Enabling, Disabling, Configuring, Closing, AddRoSpec, StartRoSpec, StopRoSpec, EnableRoSpec, DisableRoSpec, GetRoSpecs, SetReaderConfig, GetReports, CloseConnection, Unsupported, Response, Listed, Error, Report, KeepaliveSent, Accepted, Started, Ended, Overflowed, ReaderContent, ReaderMessage}
use Rattle.llrp_session.specs.Refusal.{Closed, NotConnected, AlreadyUp}
use Rattle.llrp_session.specs.ReaderMachine.{Reader, ReaderEvent, Connect, Take, TakeBad, Seen, Tick, new_reader, next, serve, end, configured, see, tick}
use Rattle.llrp_session.specs.Sightings.{history, no_history}
use Rattle.llrp_session.proofs.Examples.{rospec, immediate_rospec, reporting_rospec, first_sighting, first_report}

-- ---- the exchanges' events and messages

-- a client connects at moment 0, and then these events come
abbrev connected : List (ℕ × ReaderEvent) → List (ℕ × ReaderEvent)
connected events = (0, Connect) ∷ events

abbrev sent_by : List (ℕ × ReaderEvent) → List ReaderMessage
sent_by events = (history events (no_history 65536 1)).sent

abbrev after : List (ℕ × ReaderEvent) → Reader
after events = (history events (no_history 65536 1)).reader

abbrev message : ℕ → ℕ → ReaderContent → ReaderMessage
message version id word = record { version = version; id = id; word = word }

-- the message of the connection
abbrev accepted : ReaderMessage
accepted = message 1 1 (Accepted 0)

-- ADD_ROSPEC, with id 2
abbrev added : List (ℕ × ReaderEvent)
added = (0, Take 2 2 (AddRoSpec rospec)) ∷ []

-- a ROSpec is added, and starts once it is enabled at moment 5
abbrev running : List (ℕ × ReaderEvent)
running = (0, Take 2 2 (AddRoSpec immediate_rospec)) ∷ (5, Take 2 3 (EnableRoSpec 1)) ∷ []

abbrev started : List ReaderMessage
started = accepted ∷ message 2 2 (Response Adding 0) ∷ message 2 3 (Response Enabling 0) ∷ message 2 2 (Started 5 1) ∷ []

-- a keepalive each 1,000 milliseconds is asked for at moment 0
abbrev keeping : List (ℕ × ReaderEvent)
keeping = (0, Take 2 5 (SetReaderConfig (record { reset = false; keepalive = Some (record { trigger = 1; period = 1000 }); report = None }))) ∷ []

-- a ROSpec with ROReportTrigger 0 is active
abbrev silent : List (ℕ × ReaderEvent)
silent = (0, Take 2 2 (AddRoSpec (reporting_rospec 0 0))) ∷ (0, Take 2 3 (EnableRoSpec 1)) ∷ (5, Take 2 4 (StartRoSpec 1)) ∷ []

abbrev begun_silent : List ReaderMessage
begun_silent = accepted ∷ message 2 2 (Response Adding 0) ∷ message 2 3 (Response Enabling 0) ∷ message 2 4 (Response Starting 0) ∷ message 2 2 (Started 5 1) ∷ []

-- ---- the exchanges

-- the ROSpec of the exchanges has 52 octets
pub octets_of_rospec : (rospec_of rospec).octets ≡ 52
unfolding next serve end configured see tick change without enter state_of octets_of active first_immediate rospec_of report_spec_of tag_report number_of key_of set_of_kind rule_of param_rule fields_of tail_of is_tv body_octets
octets_of_rospec = refl

-- a client connects
pub connects : sent_by (connected []) ≡ accepted ∷ []
unfolding next serve end configured see tick change without enter state_of octets_of active first_immediate rospec_of report_spec_of tag_report number_of key_of set_of_kind rule_of param_rule fields_of tail_of is_tv body_octets
connects = refl

-- a second one is refused
pub already_up : next 1 Connect (after (connected [])) ≡ Err AlreadyUp
unfolding next serve end configured see tick change without enter state_of octets_of active first_immediate rospec_of report_spec_of tag_report number_of key_of set_of_kind rule_of param_rule fields_of tail_of is_tv body_octets
already_up = refl

-- nothing but a client is taken first
pub not_connected : next 0 (Take 2 2 GetReports) (new_reader 65536 1) ≡ Err NotConnected
unfolding next serve end configured see tick change without enter state_of octets_of active first_immediate rospec_of report_spec_of tag_report number_of key_of set_of_kind rule_of param_rule fields_of tail_of is_tv body_octets
not_connected = refl

-- ADD_ROSPEC
pub add_rospec : sent_by (connected added) ≡ accepted ∷ message 2 2 (Response Adding 0) ∷ []
unfolding next serve end configured see tick change without enter state_of octets_of active first_immediate rospec_of report_spec_of tag_report number_of key_of set_of_kind rule_of param_rule fields_of tail_of is_tv body_octets
add_rospec = refl

-- the same again is a field error, and the ROSpec stays Disabled
pub add_rospec_twice : (sent_by (connected (added ++ added)) ≡ accepted ∷ message 2 2 (Response Adding 0) ∷ message 2 2 (Response Adding 101) ∷ [])
    × (state_of 1 (after (connected (added ++ added))).table ≡ Some Disabled)
unfolding next serve end configured see tick change without enter state_of octets_of active first_immediate rospec_of report_spec_of tag_report number_of key_of set_of_kind rule_of param_rule fields_of tail_of is_tv body_octets
add_rospec_twice = (refl, refl)

-- START_ROSPEC before ENABLE_ROSPEC is one too
pub start_before_enable : (sent_by (connected (added ++ (0, Take 2 3 (StartRoSpec 1)) ∷ [])) ≡ accepted ∷ message 2 2 (Response Adding 0) ∷ message 2 3 (Response Starting 101) ∷ [])
    × (state_of 1 (after (connected (added ++ (0, Take 2 3 (StartRoSpec 1)) ∷ []))).table ≡ Some Disabled)
unfolding next serve end configured see tick change without enter state_of octets_of active first_immediate rospec_of report_spec_of tag_report number_of key_of set_of_kind rule_of param_rule fields_of tail_of is_tv body_octets
start_before_enable = (refl, refl)

-- ENABLE_ROSPEC, then START_ROSPEC at moment 5
pub enable_then_start : sent_by (connected (added ++ (0, Take 2 3 (EnableRoSpec 1)) ∷ (5, Take 2 4 (StartRoSpec 1)) ∷ []))
    ≡ accepted ∷ message 2 2 (Response Adding 0) ∷ message 2 3 (Response Enabling 0) ∷ message 2 4 (Response Starting 0) ∷ message 2 2 (Started 5 1) ∷ []
unfolding next serve end configured see tick change without enter state_of octets_of active first_immediate rospec_of report_spec_of tag_report number_of key_of set_of_kind rule_of param_rule fields_of tail_of is_tv body_octets
enable_then_start = refl

-- GET_ROSPECS lists the ROSpec with the state that it has: Disabled, and Inactive once it is enabled
pub get_rospecs : (sent_by (connected (added ++ (0, Take 2 3 GetRoSpecs) ∷ [])) ≡ accepted ∷ message 2 2 (Response Adding 0) ∷ message 2 3 (Listed (record { spec = rospec_of rospec; state = Disabled } ∷ [])) ∷ [])
    × (sent_by (connected (added ++ (0, Take 2 3 (EnableRoSpec 1)) ∷ (0, Take 2 4 GetRoSpecs) ∷ []))
    ≡ accepted ∷ message 2 2 (Response Adding 0) ∷ message 2 3 (Response Enabling 0) ∷ message 2 4 (Listed (record { spec = rospec_of rospec; state = Inactive } ∷ [])) ∷ [])
unfolding next serve end configured see tick change without enter state_of octets_of active first_immediate rospec_of report_spec_of tag_report number_of key_of set_of_kind rule_of param_rule fields_of tail_of is_tv body_octets
get_rospecs = (refl, refl)

-- a ROSpec with an immediate start trigger starts once it is enabled
pub enable_starts : sent_by (connected running) ≡ started
unfolding next serve end configured see tick change without enter state_of octets_of active first_immediate rospec_of report_spec_of tag_report number_of key_of set_of_kind rule_of param_rule fields_of tail_of is_tv body_octets
enable_starts = refl

-- a tag is seen and STOP_ROSPEC comes: report, end, response
pub stop_reports_and_ends : (sent_by (connected (running ++ (6, Seen first_sighting) ∷ (7, Take 2 5 (StopRoSpec 1)) ∷ []))
    ≡ started ++ message 2 3 (Report (first_report ∷ [])) ∷ message 2 4 (Ended 7 1) ∷ message 2 5 (Response Stopping 0) ∷ [])
    × (state_of 1 (after (connected (running ++ (6, Seen first_sighting) ∷ (7, Take 2 5 (StopRoSpec 1)) ∷ []))).table ≡ Some Inactive)
unfolding next serve end configured see tick change without enter state_of octets_of active first_immediate rospec_of report_spec_of tag_report number_of key_of set_of_kind rule_of param_rule fields_of tail_of is_tv body_octets
stop_reports_and_ends = (refl, refl)

-- DISABLE_ROSPEC in its place: the same two, then its response
pub disable_reports_and_ends : (sent_by (connected (running ++ (6, Seen first_sighting) ∷ (7, Take 2 5 (DisableRoSpec 1)) ∷ []))
    ≡ started ++ message 2 3 (Report (first_report ∷ [])) ∷ message 2 4 (Ended 7 1) ∷ message 2 5 (Response Disabling 0) ∷ [])
    × (state_of 1 (after (connected (running ++ (6, Seen first_sighting) ∷ (7, Take 2 5 (DisableRoSpec 1)) ∷ []))).table ≡ Some Disabled)
unfolding next serve end configured see tick change without enter state_of octets_of active first_immediate rospec_of report_spec_of tag_report number_of key_of set_of_kind rule_of param_rule fields_of tail_of is_tv body_octets
disable_reports_and_ends = (refl, refl)

-- one exchange from the connection to STOP_ROSPEC
pub whole_exchange : sent_by (connected (added ++ added ++ (0, Take 2 3 (StartRoSpec 1)) ∷ (0, Take 2 3 (EnableRoSpec 1)) ∷ (5, Take 2 4 (StartRoSpec 1)) ∷ (6, Seen first_sighting) ∷ (7, Take 2 5 (StopRoSpec 1)) ∷ []))
    ≡ accepted ∷ message 2 2 (Response Adding 0) ∷ message 2 2 (Response Adding 101) ∷ message 2 3 (Response Starting 101) ∷ message 2 3 (Response Enabling 0)
    ∷ message 2 4 (Response Starting 0) ∷ message 2 2 (Started 5 1) ∷ message 2 3 (Report (first_report ∷ [])) ∷ message 2 4 (Ended 7 1) ∷ message 2 5 (Response Stopping 0) ∷ []
unfolding next serve end configured see tick change without enter state_of octets_of active first_immediate rospec_of report_spec_of tag_report number_of key_of set_of_kind rule_of param_rule fields_of tail_of is_tv body_octets
whole_exchange = refl

-- a frame of a kind that is not known: the last version, 1 before any message, and the frame's id
pub capabilities_unsupported : sent_by (connected ((0, TakeBad 5 MessageType) ∷ [])) ≡ accepted ∷ message 1 5 (Error 109) ∷ []
unfolding next serve end configured see tick change without enter state_of octets_of active first_immediate rospec_of report_spec_of tag_report number_of key_of set_of_kind rule_of param_rule fields_of tail_of is_tv body_octets
capabilities_unsupported = refl

-- a frame of an unknown version
pub version_unsupported : sent_by (connected ((0, TakeBad 7 Version) ∷ [])) ≡ accepted ∷ message 1 7 (Error 110) ∷ []
unfolding next serve end configured see tick change without enter state_of octets_of active first_immediate rospec_of report_spec_of tag_report number_of key_of set_of_kind rule_of param_rule fields_of tail_of is_tv body_octets
version_unsupported = refl

-- a message that no reader takes
pub message_unsupported : sent_by (connected ((0, Take 2 9 Unsupported) ∷ [])) ≡ accepted ∷ message 2 9 (Error 109) ∷ []
unfolding next serve end configured see tick change without enter state_of octets_of active first_immediate rospec_of report_spec_of tag_report number_of key_of set_of_kind rule_of param_rule fields_of tail_of is_tv body_octets
message_unsupported = refl

-- a keepalive each second
pub keepalive_timer : (sent_by (connected (keeping ++ (999999, Tick) ∷ [])) ≡ accepted ∷ message 2 5 (Response Configuring 0) ∷ [])
    × (sent_by (connected (keeping ++ (999999, Tick) ∷ (1000000, Tick) ∷ [])) ≡ accepted ∷ message 2 5 (Response Configuring 0) ∷ message 2 2 KeepaliveSent ∷ [])
unfolding next serve end configured see tick change without enter state_of octets_of active first_immediate rospec_of report_spec_of tag_report number_of key_of set_of_kind rule_of param_rule fields_of tail_of is_tv body_octets
keepalive_timer = (refl, refl)

-- sixty-five sightings, with no report unasked: the last one is dropped, and an event says so
pub sixty_five_sightings : sent_by (connected (silent ++ replicate 65 (6, Seen first_sighting) ++ (7, Take 2 5 GetReports) ∷ (8, Take 2 6 GetReports) ∷ []))
    ≡ begun_silent ++ message 2 3 (Overflowed 6) ∷ message 2 4 (Report (replicate 64 first_report)) ∷ message 2 5 (Report []) ∷ []
unfolding next serve end configured see tick change without enter state_of octets_of active first_immediate rospec_of report_spec_of tag_report number_of key_of set_of_kind rule_of param_rule fields_of tail_of is_tv body_octets
sixty_five_sightings = refl

-- CLOSE_CONNECTION ends it, and what comes then is refused
pub closes : (sent_by (connected (running ++ (7, Take 2 5 CloseConnection) ∷ [])) ≡ started ++ message 2 5 (Response Closing 0) ∷ [])
    × (state_of 1 (after (connected (running ++ (7, Take 2 5 CloseConnection) ∷ []))).table ≡ Some Active)
    × (next 8 Tick (after (connected (running ++ (7, Take 2 5 CloseConnection) ∷ []))) ≡ Err Closed)
unfolding next serve end configured see tick change without enter state_of octets_of active first_immediate rospec_of report_spec_of tag_report number_of key_of set_of_kind rule_of param_rule fields_of tail_of is_tv body_octets
closes = (refl, refl, refl)
