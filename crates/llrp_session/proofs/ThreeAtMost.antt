-- A step sends at most three messages.
use Rattle.std.proofs.Common.{ℕ, ◌+◌, ◌≤◌, Bool, true, false, cond, List, [], ◌∷◌, ◌++◌, length, arith, length-append}
use Rattle.std.specs.Prelude.{◌&&◌, ◌||◌, ◌==◌, nat_le, Option, None, Some, is_none, IfOk}
use Rattle.llrp_session.specs.RoSpec.{RoSpec, rospec_of}
use Rattle.llrp_session.specs.Table.{Inactive, change, without, enter, names, enabling, disabling, active, first_immediate, is_active, is_inactive, state_of}
use Rattle.llrp_session.specs.TagReport.{Sighting, tag_report}
use Rattle.llrp_session.specs.Contents.{Response, KeepaliveSent, Overflowed, Ended, ReaderMessage, Adding, Deleting, Starting, Stopping, Enabling, Disabling, Configuring, Request, AddRoSpec, DeleteRoSpec, StartRoSpec, StopRoSpec, EnableRoSpec, DisableRoSpec, GetRoSpecs, SetReaderConfig, GetReports, CloseConnection, NoRequest, Unsupported}
use Rattle.llrp_session.specs.ReaderMachine.{Reader, Turn, Keepalive, ReaderPhase, Waiting, Up, Down, tell, reply, with_reader, with_table, send_held, set_state, start, end, end_if, start_if_idle, serve, see, tick, keep_alive, keepalive_from, configured, turn_begun, is_known, add_status, effective_report, sends_at_end, has_state, is_bad_report, is_bad_keepalive, hold, send_if_enough, is_report_due, has_run_out, is_full, counting, ReaderEvent, Connect, Take, TakeBad, Seen, Tick, next, next_in}

-- at most this many messages were sent
abbrev SendsUpTo : ℕ → Turn → Type 0
SendsUpTo n t = length t.sent ≤ n

one_more : (n : ℕ) (sent : List ReaderMessage) (m : ReaderMessage) → length sent ≤ n → length (sent ++ m ∷ []) ≤ n + 1
one_more n sent m h = omega (arith, length-append sent (m ∷ []))

up_to-end : (n now : ℕ) (s : RoSpec) (t : Turn) → SendsUpTo n t → SendsUpTo (n + 2) (end now s t)
unfolding end
up_to-end n now s t h =
    elim (sends_at_end t.reader s) as (λ b. SendsUpTo (n + 2) (tell (Ended now s.id) (set_state s.id Inactive (cond b (send_held t) t)))) [
      | true ↦ let two : length (tell (Ended now s.id) (set_state s.id Inactive (send_held t))).sent ≤ n + 1 + 1 = one_more (n + 1) _ _ (one_more n t.sent _ h) in omega arith
      | false ↦ let one : length (tell (Ended now s.id) (set_state s.id Inactive t)).sent ≤ n + 1 = one_more n t.sent _ h in omega arith
    ]

up_to-end_if : (n now : ℕ) (test : RoSpec → Bool) (o : Option RoSpec) (t : Turn) → SendsUpTo n t → SendsUpTo (n + 2) (end_if test now o t)
up_to-end_if n now test None t h = omega arith
up_to-end_if n now test (Some s) t h = elim (test s) as (λ b. SendsUpTo (n + 2) (cond b (end now s t) t)) [ true ↦ up_to-end n now s t h | false ↦ omega arith ]

up_to-start_if_idle : (n now : ℕ) (o : Option RoSpec) (idle : Bool) (t : Turn) → SendsUpTo n t → SendsUpTo (n + 1) (start_if_idle now o idle t)
up_to-start_if_idle n now None idle t h = omega arith
up_to-start_if_idle n now (Some s) true t h = one_more n t.sent _ h
up_to-start_if_idle n now (Some s) false t h = omega arith

-- a message alone
alone : (sent : List ReaderMessage) (m : ReaderMessage) → length sent ≤ 0 → length (sent ++ m ∷ []) ≤ 3
alone sent m h = omega (arith, length-append sent (m ∷ []))

up_to-serve : (now v id : ℕ) (q : Request) (t : Turn) → SendsUpTo 0 t → SendsUpTo 3 (serve now v id q t)
unfolding serve
up_to-serve now v id (AddRoSpec spec) t h =
    let p = rospec_of spec in
    let status = add_status t.reader.limit t.reader.table p in
    elim (status == 0) as (λ b. SendsUpTo 3 (reply v id (Response Adding status) (cond b (with_table (enter p t.reader.table) t) t))) [
      | true ↦ alone t.sent _ h
      | false ↦ alone t.sent _ h
    ]
up_to-serve now v id (DeleteRoSpec n) t h =
    let ended = end_if (λ s. names n s.id) now (active t.reader.table) t in
    elim (is_known n t.reader.table) as (λ b. SendsUpTo 3 (cond b (reply v id (Response Deleting 0) (with_table (without n ended.reader.table) ended)) (reply v id (Response Deleting 101) t))) [
      | true ↦ one_more 2 ended.sent _ (up_to-end_if 0 now (λ s. names n s.id) (active t.reader.table) t h)
      | false ↦ alone t.sent _ h
    ]
up_to-serve now v id (DisableRoSpec n) t h =
    let ended = end_if (λ s. names n s.id) now (active t.reader.table) t in
    elim (is_known n t.reader.table) as (λ b. SendsUpTo 3 (cond b (reply v id (Response Disabling 0) (with_table (change (disabling n) ended.reader.table) ended)) (reply v id (Response Disabling 101) t))) [
      | true ↦ one_more 2 ended.sent _ (up_to-end_if 0 now (λ s. names n s.id) (active t.reader.table) t h)
      | false ↦ alone t.sent _ h
    ]
up_to-serve now v id (EnableRoSpec n) t h =
    let enabled = reply v id (Response Enabling 0) (with_table (change (enabling n) t.reader.table) t) in
    elim (is_known n t.reader.table) as (λ b. SendsUpTo 3 (cond b (start_if_idle now (first_immediate n t.reader.table) (is_none (active t.reader.table)) enabled) (reply v id (Response Enabling 101) t))) [
      | true ↦
          let two : SendsUpTo 2 (start_if_idle now (first_immediate n t.reader.table) (is_none (active t.reader.table)) enabled) =
          up_to-start_if_idle 1 now (first_immediate n t.reader.table) (is_none (active t.reader.table)) enabled (one_more 0 t.sent _ h) in
          omega arith
      | false ↦ alone t.sent _ h
    ]
up_to-serve now v id (StartRoSpec n) t h =
    elim (has_state is_inactive (state_of n t.reader.table) && is_none (active t.reader.table)) as (λ b. SendsUpTo 3 (cond b (start now n (reply v id (Response Starting 0) t)) (reply v id (Response Starting 101) t))) [
      | true ↦ let two : SendsUpTo 2 (start now n (reply v id (Response Starting 0) t)) = one_more 1 _ _ (one_more 0 t.sent _ h) in omega arith
      | false ↦ alone t.sent _ h
    ]
up_to-serve now v id (StopRoSpec n) t h =
    let ended = end_if (λ s. s.id == n) now (active t.reader.table) t in
    elim (has_state is_active (state_of n t.reader.table)) as (λ b. SendsUpTo 3 (cond b (reply v id (Response Stopping 0) ended) (reply v id (Response Stopping 101) t))) [
      | true ↦ one_more 2 ended.sent _ (up_to-end_if 0 now (λ s. s.id == n) (active t.reader.table) t h)
      | false ↦ alone t.sent _ h
    ]
up_to-serve now v id GetRoSpecs t h = alone t.sent _ h
up_to-serve now v id (SetReaderConfig k) t h =
    elim (is_bad_report k.report || is_bad_keepalive k.keepalive) as (λ b. SendsUpTo 3 (cond b (reply v id (Response Configuring 101) t) (reply v id (Response Configuring 0) (with_reader (configured now k t.reader) t)))) [
      | true ↦ alone t.sent _ h
      | false ↦ alone t.sent _ h
    ]
up_to-serve now v id GetReports t h = alone t.sent _ h
up_to-serve now v id CloseConnection t h = alone t.sent _ h
up_to-serve now v id NoRequest t h = omega arith
up_to-serve now v id Unsupported t h = alone t.sent _ h

up_to-see : (now : ℕ) (g : Sighting) (o : Option RoSpec) (t : Turn) → SendsUpTo 0 t → SendsUpTo 3 (see now g o t)
unfolding see
up_to-see now g None t h = omega arith
up_to-see now g (Some s) t h =
    let report_spec = effective_report t.reader s in
    let more = hold (tag_report now s report_spec.selector g) t in
    elim (is_full t.reader) as (λ b. SendsUpTo 3 (cond b (tell (Overflowed now) t) (send_if_enough report_spec more))) [
      | true ↦ alone t.sent _ h
      | false ↦ elim (is_report_due report_spec (length more.reader.held)) as (λ b. SendsUpTo 3 (cond b (send_held more) more)) [ true ↦ alone t.sent _ h | false ↦ omega arith ]
    ]

up_to-keep_alive : (now : ℕ) (o : Option Keepalive) (t : Turn) → SendsUpTo 2 t → SendsUpTo 3 (keep_alive now o t)
up_to-keep_alive now None t h = omega arith
up_to-keep_alive now (Some k) t h =
    let told = tell KeepaliveSent t in
    elim (nat_le k.due now) as (λ b. SendsUpTo 3 (cond b (with_reader (record told.reader { keepalive = Some (keepalive_from now k.period) }) told) t)) [
      | true ↦ one_more 2 t.sent _ h
      | false ↦ omega arith
    ]

up_to-tick : (now : ℕ) (t : Turn) → SendsUpTo 0 t → SendsUpTo 3 (tick now t)
unfolding tick
up_to-tick now t h =
    let ended = end_if (has_run_out now t.reader.started) now (active t.reader.table) t in
    up_to-keep_alive now ended.reader.keepalive ended (up_to-end_if 0 now (has_run_out now t.reader.started) (active t.reader.table) t h)

up_to-next_in : (ph : ReaderPhase) (now : ℕ) (e : ReaderEvent) (r : Reader) → IfOk (next_in ph now e r) (λ t. length t.sent ≤ 3)
up_to-next_in Down now e r = tt
up_to-next_in Waiting now Connect r = omega arith
up_to-next_in Waiting now (Take v id q) r = tt
up_to-next_in Waiting now (TakeBad id reason) r = tt
up_to-next_in Waiting now (Seen g) r = tt
up_to-next_in Waiting now Tick r = tt
up_to-next_in Up now Connect r = tt
up_to-next_in Up now (Take v id q) r = up_to-serve now v id q (turn_begun (record r { version = v })) (omega arith)
up_to-next_in Up now (TakeBad id reason) r = omega arith
up_to-next_in Up now (Seen g) r = up_to-see now g (counting g (active r.table)) (turn_begun r) (omega arith)
up_to-next_in Up now Tick r = up_to-tick now (turn_begun r) (omega arith)

pub three_at_most : (now : ℕ) (e : ReaderEvent) (r : Reader) → IfOk (next now e r) (λ t. length t.sent ≤ 3)
unfolding next
three_at_most now e r = up_to-next_in r.phase now e r
