-- The field that is named of a request that the reader's machine refuses has a value that is refused.
use Rattle.std.proofs.Common.{◌≡◌, ◌∙◌, ℕ, ◌==◌, ◌||◌, ◌&&◌, not, Bool, true, false, if◌then◌else◌, List, [], ◌∷◌, ◌++◌, length, Option, Some, None, refl, ap, arith, length-append}
use Rattle.std.specs.Prelude.{MatchOption, is_none, is_some}
use Rattle.llrp_session.specs.Contents.{Request, AddRoSpec, DeleteRoSpec, StartRoSpec, StopRoSpec, EnableRoSpec, DisableRoSpec, GetRoSpecs, SetReaderConfig, GetReports, CloseConnection, NoRequest, Unsupported, ReaderContent, Response, Listed, Error, Report, ReaderMessage}
use Rattle.llrp_session.specs.declared.reader.table.Entry.{Entry}
use Rattle.llrp_session.specs.declared.types.Operation.{Operation}
use Rattle.llrp_session.specs.declared.types.Operation.TheVariants.{Adding, Deleting, Starting, Stopping, Enabling, Disabling, Configuring, Closing}
use Rattle.llrp_session.specs.RoSpec.{RoSpec, rospec_of}
use Rattle.llrp_session.specs.Table.{active, change, enabling, disabling, enter, first_immediate, is_active, is_inactive, state_of, without}
use Rattle.llrp_session.specs.ReaderMachine.{Reader, Turn, configured, end_if, end_named, field_error, has_bad_field, has_state, is_bad_keepalive, is_bad_report, is_known, is_too_long, parameter_error, reply, serve, start, start_if_idle, success, turn_begun, unsupported_message, with_reader, with_table}
use Rattle.llrp_live.specs.declared.refused_requests.RefusedField.{RefusedField}
use Rattle.llrp_live.specs.declared.refused_requests.RefusedField.TheVariants.{RoSpecId, CurrentState, StartTrigger, StopTrigger, AiStopTrigger, ReportTrigger, DefaultReportTrigger, KeepalivePeriod}
use Rattle.llrp_live.specs.Calls.RefusedRequests.{IsRefusedFor, is_refused_in_rospec, is_refused_in_settings, refused_field, rospec_field}

-- ---- one message was sent

-- the status of a response, else 0
abbrev status_of : ReaderContent → ℕ
status_of (Response operation status) = status
status_of _ = 0

first_or : ReaderMessage → List ReaderMessage → ReaderMessage
first_or m [] = m
first_or m (x ∷ xs) = x

last_is : (xs : List ReaderMessage) (a b : ReaderMessage) → xs ++ a ∷ [] ≡ b ∷ [] → a ≡ b
unfolding first_or
last_is [] a b e = ap (first_or b) e
last_is (x ∷ xs) a b e = let size = ap length e in absurd (omega (arith, size, length-append xs (a ∷ [])))

abbrev message : ℕ → ℕ → ReaderContent → ReaderMessage
message version id word = record { version = version; id = id; word = word }

abbrev refusal : ℕ → ℕ → Operation → List ReaderMessage
refusal version id operation = message version id (Response operation field_error) ∷ []

-- the status of what was sent last is that of the refusal
same_status : (xs : List ReaderMessage) (a : ReaderMessage) (version id : ℕ) (operation : Operation) → xs ++ a ∷ [] ≡ refusal version id operation → status_of a.word ≡ 101
same_status xs a version id operation e = ap (λ (m : ReaderMessage). status_of m.word) (last_is xs a (message version id (Response operation field_error)) e)

-- ---- ROSpecs that are named

unnamed : (known : Bool) (version id : ℕ) (by operation : Operation) (on off : Turn) → (if known then reply version id (Response by success) on else reply version id (Response by field_error) off).sent ≡ refusal version id operation → not known ≡ true
unnamed false version id by operation on off e = refl
unnamed true version id by operation on off e = let n = same_status on.sent (message version id (Response by success)) version id operation e in absurd (omega (arith, n))

started : (now version id n : ℕ) (by operation : Operation) (t : Turn) → (start now n (reply version id (Response by success) t)).sent ≡ refusal version id operation → ⊥
started now version id n by operation t e = let n = same_status _ _ version id operation e in absurd (omega (arith, n))

unnamed_to_enable : (known idle : Bool) (now version id : ℕ) (o : Option RoSpec) (operation : Operation) (on off : Turn)
    → (if known then start_if_idle now o idle (reply version id (Response Enabling success) on) else reply version id (Response Enabling field_error) off).sent ≡ refusal version id operation → not known ≡ true
unnamed_to_enable false idle now version id o operation on off e = refl
unnamed_to_enable true idle now version id None operation on off e = let n = same_status _ _ version id operation e in absurd (omega (arith, n))
unnamed_to_enable true false now version id (Some s) operation on off e = let n = same_status _ _ version id operation e in absurd (omega (arith, n))
unnamed_to_enable true true now version id (Some s) operation on off e = absurd (started now version id s.id Enabling operation on e)

unnamed_to_start : (may : Bool) (now version id n : ℕ) (operation : Operation) (t : Turn) → (if may then start now n (reply version id (Response Starting success) t) else reply version id (Response Starting field_error) t).sent ≡ refusal version id operation → not may ≡ true
unnamed_to_start false now version id n operation t e = refl
unnamed_to_start true now version id n operation t e = absurd (started now version id n Starting operation t e)

-- ---- settings

refused_setting : (f : RefusedField → Bool) (report period : Bool) (version id : ℕ) (operation : Operation) (on off : Turn) → f DefaultReportTrigger ≡ report → f KeepalivePeriod ≡ period
    → (if report || period then reply version id (Response Configuring field_error) off else reply version id (Response Configuring success) on).sent ≡ refusal version id operation → f (if report then DefaultReportTrigger else KeepalivePeriod) ≡ true
refused_setting f true period version id operation on off a b e = a
refused_setting f false true version id operation on off a b e = b
refused_setting f false false version id operation on off a b e = let n = same_status _ _ version id operation e in absurd (omega (arith, n))

-- ---- a new ROSpec

abbrev status : Bool → Bool → ℕ
status bad long = if bad then field_error else (if long then parameter_error else success)

is_bad : (bad long : Bool) (version id : ℕ) (operation : Operation) (on off : Turn) → (reply version id (Response Adding (status bad long)) (if status bad long == success then on else off)).sent ≡ refusal version id operation → bad ≡ true
is_bad true long version id operation on off e = refl
is_bad false true version id operation on off e = let n = same_status _ _ version id operation e in absurd (omega (arith, n))
is_bad false false version id operation on off e = let n = same_status _ _ version id operation e in absurd (omega (arith, n))

-- of the id's two tests one fails, if none of the others does
of_id : (zero_id there : Bool) → (zero_id || there || false || false || false || false || false || false) ≡ true → (zero_id || there) ≡ true
of_id true there e = refl
of_id false true e = refl
of_id false false e = e

picked : (f : RefusedField → Bool) (zero_id there state periodic by_input stop ai report : Bool) → f RoSpecId ≡ (zero_id || there) → f CurrentState ≡ state → f StartTrigger ≡ (periodic || by_input) → f StopTrigger ≡ stop → f AiStopTrigger ≡ ai → f ReportTrigger ≡ report
    → (zero_id || there || state || periodic || by_input || stop || ai || report) ≡ true
    → f (if state then CurrentState else (if periodic || by_input then StartTrigger else (if stop then StopTrigger else (if ai then AiStopTrigger else (if report then ReportTrigger else RoSpecId))))) ≡ true
picked f z t true p g s a r e0 e1 e2 e3 e4 e5 h = e1
picked f z t false true g s a r e0 e1 e2 e3 e4 e5 h = e2
picked f z t false false true s a r e0 e1 e2 e3 e4 e5 h = e2
picked f z t false false false true a r e0 e1 e2 e3 e4 e5 h = e3
picked f z t false false false false true r e0 e1 e2 e3 e4 e5 h = e4
picked f z t false false false false false true e0 e1 e2 e3 e4 e5 h = e5
picked f z t false false false false false false e0 e1 e2 e3 e4 e5 h = e0 ∙ of_id z t h

refused_rospec : (table : List Entry) (s : RoSpec) → has_bad_field table s ≡ true → is_refused_in_rospec table s (rospec_field s) ≡ true
refused_rospec table s h =
    picked (is_refused_in_rospec table s) (s.id == 0) (is_some (state_of s.id table)) (not (s.current_state == 0)) (s.start_trigger == 2) (s.start_trigger == 3) (s.stop_trigger == 2) s.has_ai_stop (is_bad_report s.report)
    refl refl refl refl refl refl h

-- ---- each request

pub named_is_refused : (now version id : ℕ) (request : Request) (reader : Reader) (operation : Operation) → (serve now version id request (turn_begun reader)).sent ≡ refusal version id operation
    → MatchOption (refused_field request) ⊥ (IsRefusedFor reader.table request)
unfolding serve
named_is_refused now version id (AddRoSpec rospec) r operation e =
    let s = rospec_of rospec in
    let t = turn_begun r in
    refused_rospec r.table s (is_bad (has_bad_field r.table s) (is_too_long r.limit r.table s) version id operation (with_table (enter s r.table) t) t e)
named_is_refused now version id (DeleteRoSpec n) r operation e =
    let ended = end_named now n (turn_begun r) in
    (refl, unnamed (is_known n r.table) version id Deleting operation (with_table (without n ended.reader.table) ended) (turn_begun r) e)
named_is_refused now version id (EnableRoSpec n) r operation e =
    (refl, unnamed_to_enable (is_known n r.table) (is_none (active r.table)) now version id (first_immediate n r.table) operation (with_table (change (enabling n) r.table) (turn_begun r)) (turn_begun r) e)
named_is_refused now version id (DisableRoSpec n) r operation e =
    let ended = end_named now n (turn_begun r) in
    (refl, unnamed (is_known n r.table) version id Disabling operation (with_table (change (disabling n) ended.reader.table) ended) (turn_begun r) e)
named_is_refused now version id (StartRoSpec n) r operation e =
    (refl, unnamed_to_start (has_state is_inactive (state_of n r.table) && is_none (active r.table)) now version id n operation (turn_begun r) e)
named_is_refused now version id (StopRoSpec n) r operation e =
    let ended = end_if (λ s. s.id == n) now (active r.table) (turn_begun r) in
    (refl, unnamed (has_state is_active (state_of n r.table)) version id Stopping operation ended (turn_begun r) e)
named_is_refused now version id GetRoSpecs r operation e = let n = same_status [] (message version id (Listed r.table)) version id operation e in absurd (omega (arith, n))
named_is_refused now version id (SetReaderConfig k) r operation e =
    refused_setting (is_refused_in_settings k) (is_bad_report k.report) (is_bad_keepalive k.keepalive) version id operation (with_reader (configured now k r) (turn_begun r)) (turn_begun r) refl refl e
named_is_refused now version id GetReports r operation e = let n = same_status [] (message r.version r.next_id (Report r.held)) version id operation e in absurd (omega (arith, n))
named_is_refused now version id CloseConnection r operation e = let n = same_status [] (message version id (Response Closing success)) version id operation e in absurd (omega (arith, n))
named_is_refused now version id NoRequest r operation e = let n = ap length e in absurd (omega (arith, n))
named_is_refused now version id Unsupported r operation e = let n = same_status [] (message version id (Error unsupported_message)) version id operation e in absurd (omega (arith, n))
