-- The message of a lawful word is lawful, and short.
use Rattle.std.proofs.Common.{◌≡◌, ℕ, ◌+◌, ◌*◌, ◌<◌, ◌≤◌, ◌^◌, List, [], ◌∷◌, true, false, refl, arith, length, inl, lit≤}
use Rattle.std.specs.Prelude.{None, if◌then◌else◌, ◌==◌, ◌⊎◌}
use Rattle.std.specs.Str.{is_utf8}
use Rattle.std.proofs.lemmas.Bool.{le-leb}
use Rattle.std.proofs.lemmas.Str.{IsUtf8-nil, is_utf8-from_IsUtf8}
use Rattle.llrp_schema.specs.declared.kinds.MsgKind.{MsgKind}
use Rattle.llrp_schema.specs.declared.kinds.MsgKind.TheVariants.{GetRoSpecs, GetRoSpecsResponse, RoAccessReport, Keepalive, ReaderEventNotification, ErrorMessage, AddRoSpec, DeleteRoSpec, StartRoSpec, StopRoSpec, EnableRoSpec, DisableRoSpec, SetReaderConfig, GetReport as GetReportMessage, CloseConnection, KeepaliveAck}
use Rattle.llrp_schema.specs.declared.kinds.ParamKind.TheVariants.{LlrpStatus, ReaderEventNotificationData, UtcTimestamp, RoSpecEvent, ReportBufferOverflowErrorEvent, ConnectionAttemptEvent, KeepaliveSpec as KeepaliveSpecParameter}
use Rattle.llrp_schema.specs.declared.kinds.Kind.TheVariants.{Message}
use Rattle.llrp_schema.specs.declared.kinds.KindSet.TheVariants.{Profile}
use Rattle.llrp_schema.specs.Schema.{number_of, rule_of, message_rule, param_rule, fields_of, tail_of, groups_of, is_tv, key_of, set_of_kind}
use Rattle.llrp_tree.specs.declared.TheConstants.{MAX_LIMIT}
use Rattle.llrp_tree.specs.Tree.{Forest, none, Tree, add, add_all, forest}
use Rattle.llrp_tree.specs.Lawful.{octets, body_octets, message_octets, has_place, count, ArePlaced, NoneTooMany, NoneMissing, AreLawful, AllLawful}
use Rattle.llrp_tree.specs.Checks.{all_placed, none_too_many, none_missing, table_tests, first_fault, first_message_fault}
use Rattle.llrp_tree.proofs.LawLemmas.{lawful_from, message_from}
use Rattle.llrp_session.specs.Table.{Entry, listing}
use Rattle.llrp_session.specs.Contents.{Operation, Adding, Deleting, Starting, Stopping, Enabling, Disabling, Listing, Configuring, Closing, Add, Delete, Start, Stop, Enable, Disable, GetRospecs, SetKeepalive, GetReport, Close, ReaderContent, Response, Listed, Error, Report, KeepaliveSent, Accepted, Started, Ended, Overflowed, ReaderMessage, ClientContent, Asks, Acknowledges, ClientMessage, KeepaliveSpec, keepalive_each}
use Rattle.llrp_session.specs.ReaderMessages.{parameter, status_parameter, notification_data, rospec_event, response_kind, reader_message}
use Rattle.llrp_session.specs.ClientMessages.{client_message}
use Rattle.llrp_session.specs.Calls.LawfulWords.{IsSendable, AreReports, AreToldOf, FitsLimit, IsLawfulReaderWord, IsLawfulReaderMessage, IsLawfulRoSpec, IsLawfulClientWord, IsLawfulClientMessage}
use Rattle.llrp_session.proofs.ListedLemmas.{listing_placed, listing_lawful, listing_octets, statuses-listing}
use Rattle.llrp_session.proofs.AnswersLawful.{any_version}

-- ---- parameters

pub status_lawful : (status : ℕ) → status < 2 ^ 16 → AreLawful LlrpStatus (status ∷ []) [] none
unfolding first_fault table_tests all_placed none_too_many none_missing rule_of param_rule number_of key_of set_of_kind fields_of tail_of groups_of is_tv body_octets
status_lawful status h =
    let e = le-leb status 65535 (omega arith) in let u : is_utf8 [] ≡ true = is_utf8-from_IsUtf8 [] IsUtf8-nil in
    lawful_from LlrpStatus (status ∷ []) [] none tt (rw (e, u) refl)

pub time_lawful : (now : ℕ) → now < 2 ^ 64 → AreLawful UtcTimestamp (now ∷ []) [] none
unfolding first_fault table_tests all_placed none_too_many none_missing rule_of param_rule number_of key_of set_of_kind fields_of tail_of groups_of is_tv body_octets
time_lawful now h = let e = le-leb now 18446744073709551615 (omega arith) in lawful_from UtcTimestamp (now ∷ []) [] none tt (rw e refl)

pub attempt_lawful : AreLawful ConnectionAttemptEvent (0 ∷ []) [] none
unfolding first_fault table_tests all_placed none_too_many none_missing rule_of param_rule number_of key_of set_of_kind fields_of tail_of groups_of is_tv body_octets
attempt_lawful = lawful_from ConnectionAttemptEvent (0 ∷ []) [] none tt refl

pub overflow_lawful : AreLawful ReportBufferOverflowErrorEvent [] [] none
unfolding first_fault table_tests all_placed none_too_many none_missing rule_of param_rule number_of key_of set_of_kind fields_of tail_of groups_of is_tv body_octets
overflow_lawful = lawful_from ReportBufferOverflowErrorEvent [] [] none tt refl

pub change_lawful : (event id : ℕ) → event ≤ 2 → id < 2 ^ 32 → AreLawful RoSpecEvent (event ∷ id ∷ 0 ∷ []) [] none
unfolding first_fault table_tests all_placed none_too_many none_missing rule_of param_rule number_of key_of set_of_kind fields_of tail_of groups_of is_tv body_octets
change_lawful event id h g =
    let e = le-leb event 2 h in let i = le-leb id 4294967295 (omega arith) in
    lawful_from RoSpecEvent (event ∷ id ∷ 0 ∷ []) [] none tt (rw (e, i) refl)

pub keepalive_lawful : (trigger period : ℕ) → trigger ≤ 1 → period < 2 ^ 32 → AreLawful KeepaliveSpecParameter (trigger ∷ period ∷ []) [] none
unfolding first_fault table_tests all_placed none_too_many none_missing rule_of param_rule number_of key_of set_of_kind fields_of tail_of groups_of is_tv body_octets
keepalive_lawful trigger period h g =
    let e = le-leb trigger 1 h in let i = le-leb period 4294967295 (omega arith) in
    lawful_from KeepaliveSpecParameter (trigger ∷ period ∷ []) [] none tt (rw (e, i) refl)

attempt_data_lawful : (now : ℕ) → AreLawful ReaderEventNotificationData [] [] (notification_data now (parameter ConnectionAttemptEvent (0 ∷ []) [])).children
unfolding first_fault table_tests all_placed none_too_many none_missing rule_of param_rule number_of key_of set_of_kind fields_of tail_of groups_of is_tv body_octets
attempt_data_lawful now = lawful_from ReaderEventNotificationData [] [] _ tt refl

change_data_lawful : (now event id : ℕ) → AreLawful ReaderEventNotificationData [] [] (notification_data now (rospec_event event id)).children
unfolding first_fault table_tests all_placed none_too_many none_missing rule_of param_rule number_of key_of set_of_kind fields_of tail_of groups_of is_tv body_octets
change_data_lawful now event id = lawful_from ReaderEventNotificationData [] [] _ tt refl

overflow_data_lawful : (now : ℕ) → AreLawful ReaderEventNotificationData [] [] (notification_data now (parameter ReportBufferOverflowErrorEvent [] [])).children
unfolding first_fault table_tests all_placed none_too_many none_missing rule_of param_rule number_of key_of set_of_kind fields_of tail_of groups_of is_tv body_octets
overflow_data_lawful now = lawful_from ReaderEventNotificationData [] [] _ tt refl

-- ---- messages

pub sendable : (v id : ℕ) (kind : MsgKind) (values : List ℕ) (f : Forest) (limit : ℕ) → set_of_kind (Message kind) ≡ Profile → (v ≡ 1) ⊎ (v ≡ 2) → id < 2 ^ 32 → AllLawful f → first_message_fault 1 kind values [] f ≡ None
    → message_octets (record { version = v; id = id; kind = kind; fields = values; tail = []; children = f }) ≤ limit
    → IsSendable limit (record { version = v; id = id; kind = kind; fields = values; tail = []; children = f })
sendable v id kind values f limit own version small children passes short =
    record { own = own; lawful = message_from v id kind values [] f small tt children (any_version v version kind values f passes); within = short }

response_own : (operation : Operation) → set_of_kind (Message (response_kind operation)) ≡ Profile
unfolding set_of_kind rule_of message_rule
response_own Adding = refl
response_own Deleting = refl
response_own Starting = refl
response_own Stopping = refl
response_own Enabling = refl
response_own Disabling = refl
response_own Configuring = refl
response_own Closing = refl
response_own Listing = refl

response_passes : (operation : Operation) (status : ℕ) → first_message_fault 1 (response_kind operation) [] [] (forest (status_parameter status ∷ [])) ≡ None
unfolding first_message_fault table_tests all_placed none_too_many none_missing rule_of message_rule param_rule number_of key_of set_of_kind fields_of tail_of groups_of is_tv body_octets
response_passes Adding status = refl
response_passes Deleting status = refl
response_passes Starting status = refl
response_passes Stopping status = refl
response_passes Enabling status = refl
response_passes Disabling status = refl
response_passes Configuring status = refl
response_passes Closing status = refl
response_passes Listing status = refl

response_octets : (operation : Operation) (status : ℕ) → 10 + body_octets (Message (response_kind operation)) [] + octets (forest (status_parameter status ∷ [])) ≡ 18
unfolding rule_of message_rule param_rule number_of key_of set_of_kind fields_of tail_of groups_of is_tv body_octets
response_octets Adding status = refl
response_octets Deleting status = refl
response_octets Starting status = refl
response_octets Stopping status = refl
response_octets Enabling status = refl
response_octets Disabling status = refl
response_octets Configuring status = refl
response_octets Closing status = refl
response_octets Listing status = refl

-- ---- reports

reports_placed : (before : Forest) (ts : List Tree) → ArePlaced (groups_of (Message RoAccessReport)) before → AreReports ts → ArePlaced (groups_of (Message RoAccessReport)) (add_all before ts)
unfolding ArePlaced rule_of message_rule param_rule number_of key_of set_of_kind groups_of
reports_placed before [] p h = p
reports_placed before (t ∷ ts) p h =
    let here : has_place (groups_of (Message RoAccessReport)) t.kind ≡ true = rw h.0.kind refl in
    reports_placed (add before t) ts (p, here) h.1

reports_lawful : (before : Forest) (ts : List Tree) → AllLawful before → AreReports ts → AllLawful (add_all before ts)
reports_lawful before [] p h = p
reports_lawful before (t ∷ ts) p h = reports_lawful (add before t) ts (p, h.0.lawful.0, h.0.lawful.1) h.1

reports_octets : (before : Forest) (ts : List Tree) → AreReports ts → octets (add_all before ts) ≤ octets before + 57 * length ts
reports_octets before [] h = omega arith
reports_octets before (t ∷ ts) h = let ih = reports_octets (add before t) ts h.1 in let s = h.0.short in omega (arith, ih, s)

report_sendable : (v id : ℕ) (tags : List Tree) (limit : ℕ) → 4096 ≤ limit → (v ≡ 1) ⊎ (v ≡ 2) → id < 2 ^ 32 → AreReports tags → length tags ≤ 64
    → IsSendable limit (record { version = v; id = id; kind = RoAccessReport; fields = []; tail = []; children = forest tags })
unfolding ArePlaced NoneTooMany NoneMissing rule_of message_rule number_of key_of set_of_kind fields_of tail_of groups_of body_octets
report_sendable v id tags limit l version small h few =
    let long = reports_octets none tags h in
    record {
      own = refl;
      lawful = record {
        version = version;
        id = small;
        obeys = record { ranges = tt; form = refl; bytes = tt; placed = reports_placed none tags tt h; most = (tt, tt); least = (omega arith, tt) };
        children = reports_lawful none tags tt h;
        long = omega (arith, long);
      };
      within = omega (arith, long);
    }

-- ---- a table

table_sendable : (v id : ℕ) (table : List Entry) (limit : ℕ) → limit ≤ MAX_LIMIT → (v ≡ 1) ⊎ (v ≡ 2) → id < 2 ^ 32 → AreToldOf table → FitsLimit limit table
    → IsSendable limit (record { version = v; id = id; kind = GetRoSpecsResponse; fields = []; tail = []; children = forest (status_parameter 0 ∷ listing table) })
unfolding ArePlaced NoneTooMany NoneMissing count rule_of message_rule param_rule number_of key_of set_of_kind fields_of tail_of groups_of is_tv body_octets
table_sendable v id table limit m version small told fits =
    let status : Forest = forest (status_parameter 0 ∷ []) in
    let long = listing_octets status table told in
    let statuses = statuses-listing status table in
    record {
      own = refl;
      lawful = record {
        version = version;
        id = small;
        obeys = record { ranges = tt; form = refl; bytes = tt; placed = listing_placed status table (tt, refl); most = (omega (arith, statuses), (tt, tt)); least = (omega (arith, statuses), (omega arith, tt)) };
        children = listing_lawful status table (tt, status_lawful 0 (omega arith), tt) told;
        long = omega (arith, long);
      };
      within = omega (arith, long);
    }

-- ---- the words of a reader

word_sends : (v id : ℕ) (word : ReaderContent) (limit : ℕ) → 4096 ≤ limit → limit ≤ MAX_LIMIT → (v ≡ 1) ⊎ (v ≡ 2) → id < 2 ^ 32 → IsLawfulReaderWord limit word → IsSendable limit (reader_message (record { version = v; id = id; word = word }))
unfolding reader_message first_message_fault table_tests all_placed none_too_many none_missing rule_of message_rule param_rule number_of key_of set_of_kind fields_of tail_of groups_of is_tv body_octets
word_sends v id (Response operation status) limit l m version small h =
    sendable v id (response_kind operation) [] (forest (status_parameter status ∷ [])) limit (response_own operation) version small (tt, status_lawful status h, tt) (response_passes operation status) (let e = response_octets operation status in omega (arith, e))
word_sends v id (Listed table) limit l m version small h = table_sendable v id table limit m version small h.0 h.1
word_sends v id (Error status) limit l m version small h =
    sendable v id ErrorMessage [] (forest (status_parameter status ∷ [])) limit refl version small (tt, status_lawful status h, tt) refl (omega arith)
word_sends v id (Report tags) limit l m version small h = report_sendable v id tags limit l version small h.0 h.1
word_sends v id KeepaliveSent limit l m version small h = sendable v id Keepalive [] none limit refl version small tt refl (omega arith)
word_sends v id (Accepted now) limit l m version small h =
    sendable v id ReaderEventNotification [] (forest (notification_data now (parameter ConnectionAttemptEvent (0 ∷ []) []) ∷ [])) limit refl version small
    (tt, attempt_data_lawful now, ((tt, time_lawful now h, tt), attempt_lawful, tt)) refl (omega arith)
word_sends v id (Started now k) limit l m version small h =
    sendable v id ReaderEventNotification [] (forest (notification_data now (rospec_event 0 k) ∷ [])) limit refl version small
    (tt, change_data_lawful now 0 k, ((tt, time_lawful now h.0, tt), change_lawful 0 k (omega arith) h.1, tt)) refl (omega arith)
word_sends v id (Ended now k) limit l m version small h =
    sendable v id ReaderEventNotification [] (forest (notification_data now (rospec_event 1 k) ∷ [])) limit refl version small
    (tt, change_data_lawful now 1 k, ((tt, time_lawful now h.0, tt), change_lawful 1 k (omega arith) h.1, tt)) refl (omega arith)
word_sends v id (Overflowed now) limit l m version small h =
    sendable v id ReaderEventNotification [] (forest (notification_data now (parameter ReportBufferOverflowErrorEvent [] []) ∷ [])) limit refl version small
    (tt, overflow_data_lawful now, ((tt, time_lawful now h, tt), overflow_lawful, tt)) refl (omega arith)

pub reader_sends : (limit : ℕ) (m : ReaderMessage) → 4096 ≤ limit → limit ≤ MAX_LIMIT → IsLawfulReaderMessage limit m → IsSendable limit (reader_message m)
reader_sends limit m l g h = word_sends m.version m.id m.word limit l g h.version h.id h.word

-- ---- the words of a client

pub keepalive_fits : (ms : ℕ) → ms < 2 ^ 32 → ((keepalive_each ms).trigger ≤ 1) × ((keepalive_each ms).period < 2 ^ 32)
keepalive_fits ms h =
    let off : KeepaliveSpec = record { trigger = 0; period = 0 } in
    let on : KeepaliveSpec = record { trigger = 1; period = ms } in
    elim (ms == 0) as (λ b. ((if b then off else on).trigger ≤ 1) × ((if b then off else on).period < 2 ^ 32)) [ true ↦ (omega arith, omega arith) | false ↦ (omega arith, h) ]

add_sendable : (id limit : ℕ) (spec : Tree) → limit ≤ MAX_LIMIT → id < 2 ^ 32 → IsLawfulRoSpec limit spec
    → IsSendable limit (record { version = 1; id = id; kind = AddRoSpec; fields = []; tail = []; children = forest (spec ∷ []) })
unfolding ArePlaced NoneTooMany NoneMissing count rule_of message_rule param_rule number_of key_of set_of_kind fields_of tail_of groups_of body_octets
add_sendable id limit spec l small h =
    let placed : has_place (groups_of (Message AddRoSpec)) spec.kind ≡ true = rw h.kind refl in
    let long = h.within in
    record {
      own = refl;
      lawful = record {
        version = inl refl;
        id = small;
        obeys = record { ranges = tt; form = refl; bytes = tt; placed = (tt, placed); most = rw h.kind (lit≤ tt, tt); least = rw h.kind (lit≤ tt, tt) };
        children = (tt, h.lawful.0, h.lawful.1);
        long = omega (arith, long);
      };
      within = omega (arith, long);
    }

-- a message of one field of 32 bits
named_sendable : (id limit rospec : ℕ) (kind : MsgKind) → set_of_kind (Message kind) ≡ Profile → 4096 ≤ limit → id < 2 ^ 32 → first_message_fault 1 kind (rospec ∷ []) [] none ≡ None → body_octets (Message kind) [] ≡ 4
    → IsSendable limit (record { version = 1; id = id; kind = kind; fields = rospec ∷ []; tail = []; children = none })
named_sendable id limit rospec kind own l small passes long = sendable 1 id kind (rospec ∷ []) none limit own (inl refl) small tt passes (omega (arith, long))

client_word_sends : (id limit : ℕ) (word : ClientContent) → 4096 ≤ limit → limit ≤ MAX_LIMIT → id < 2 ^ 32 → IsLawfulClientWord limit word → IsSendable limit (client_message (record { id = id; word = word }))
unfolding client_message first_message_fault table_tests all_placed none_too_many none_missing rule_of message_rule param_rule number_of key_of set_of_kind fields_of tail_of groups_of is_tv body_octets
client_word_sends id limit (Asks (Add spec)) l m small h = add_sendable id limit spec m small h
client_word_sends id limit (Asks (Delete n)) l m small h = let e = le-leb n 4294967295 (omega arith) in named_sendable id limit n DeleteRoSpec refl l small (rw e refl) refl
client_word_sends id limit (Asks (Start n)) l m small h = let e = le-leb n 4294967295 (omega arith) in named_sendable id limit n StartRoSpec refl l small (rw e refl) refl
client_word_sends id limit (Asks (Stop n)) l m small h = let e = le-leb n 4294967295 (omega arith) in named_sendable id limit n StopRoSpec refl l small (rw e refl) refl
client_word_sends id limit (Asks (Enable n)) l m small h = let e = le-leb n 4294967295 (omega arith) in named_sendable id limit n EnableRoSpec refl l small (rw e refl) refl
client_word_sends id limit (Asks (Disable n)) l m small h = let e = le-leb n 4294967295 (omega arith) in named_sendable id limit n DisableRoSpec refl l small (rw e refl) refl
client_word_sends id limit (Asks GetRospecs) l m small h = sendable 1 id GetRoSpecs [] none limit refl (inl refl) small tt refl (omega arith)
client_word_sends id limit (Asks (SetKeepalive ms)) l m small h =
    let k = keepalive_fits ms h in
    sendable 1 id SetReaderConfig (0 ∷ []) (forest (parameter KeepaliveSpecParameter ((keepalive_each ms).trigger ∷ (keepalive_each ms).period ∷ []) [] ∷ [])) limit refl (inl refl) small
    (tt, keepalive_lawful (keepalive_each ms).trigger (keepalive_each ms).period k.0 k.1, tt) refl (omega arith)
client_word_sends id limit (Asks GetReport) l m small h = sendable 1 id GetReportMessage [] none limit refl (inl refl) small tt refl (omega arith)
client_word_sends id limit (Asks Close) l m small h = sendable 1 id CloseConnection [] none limit refl (inl refl) small tt refl (omega arith)
client_word_sends id limit Acknowledges l m small h = sendable 1 id KeepaliveAck [] none limit refl (inl refl) small tt refl (omega arith)

pub client_sends : (limit : ℕ) (m : ClientMessage) → 4096 ≤ limit → limit ≤ MAX_LIMIT → IsLawfulClientMessage limit m → IsSendable limit (client_message m)
client_sends limit m l g h = client_word_sends m.id limit m.word l g h.id h.word
