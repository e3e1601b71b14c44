-- No report is lost unsaid, and none is sent twice.
use Rattle.std.proofs.Common.{◌≡◌, ℕ, suc, ◌<◌, ◌≤◌, refl, sym, ◌∙◌, ap, subst, Bool, true, false, cond, List, [], ◌∷◌, ◌++◌, length, ◌+◌, arith, append_assoc, append-nil, length-append}
use Rattle.std.specs.Prelude.{◌==◌, ◌&&◌, ◌||◌, not, nat_le, Option, None, Some, is_none, is_some, Result, Ok, Err}
use Rattle.std.proofs.lemmas.Bool.Decides.{nat_tests}
use Rattle.llrp_tree.specs.Tree.{Tree}
use Rattle.llrp_session.specs.RoSpec.{RoSpec, rospec_of}
use Rattle.llrp_session.specs.Table.{RoState, Entry, Inactive, Active, change, without, enter, names, setting, enabling, disabling, active, first_immediate, is_active, is_inactive, state_of, listing, active_count}
use Rattle.llrp_session.specs.Calls.Table.{IsRising, AllAbove}
use Rattle.llrp_session.specs.TagReport.{Sighting, tag_report}
use Rattle.llrp_session.specs.Contents.{Response, KeepaliveSent, Overflowed, Ended, ReaderMessage, Adding, Deleting, Starting, Stopping, Enabling, Disabling, Configuring, Request, AddRoSpec, DeleteRoSpec, StartRoSpec, StopRoSpec, EnableRoSpec, DisableRoSpec, GetRoSpecs, SetReaderConfig, GetReports, CloseConnection, NoRequest, Unsupported}
use Rattle.llrp_session.specs.Calls.Contents.{heard}
use Rattle.llrp_session.specs.Refusal.{Refusal}
use Rattle.llrp_session.specs.ReaderMachine.{Reader, Turn, Keepalive, ReaderPhase, Waiting, Up, Down, tell, reply, with_reader, with_table, send_held, set_state, start, end, end_if, start_if_idle, serve, see, tick, keep_alive, keepalive_from, configured, turn_begun, is_known, add_status, is_too_long, effective_report, sends_at_end, has_state, is_bad_report, is_bad_keepalive, hold, send_if_enough, is_report_due, has_run_out, is_full, counting, ReaderEvent, Connect, Take, TakeBad, Seen, Tick, next, next_in, connect}
use Rattle.llrp_session.specs.Sightings.{tags_in, tags_of, report_by, counted_in, kept_by, dropped_by, History, history, after_event, extended, no_history}
use Rattle.llrp_session.specs.Calls.Sightings.{is_overflow, overflows, AfterAllEvents, ReportsInOrder, OverflowsTold, HoldsFewEnough, OneActive}
use Rattle.llrp_session.specs.World.{table_heard, listed_for, listed_in, listed_by}
use Rattle.llrp_session.specs.Calls.Agreement.{tables_of}
use Rattle.llrp_session.specs.Calls.TableLaws.{EachOnce}
use Rattle.llrp_session.proofs.Following.{same-configured}
use Rattle.llrp_session.proofs.StandingTogether.{tags_of-append}
use Rattle.llrp_session.proofs.Orderly.{IsOrderly, AllAbove-change, AllAbove-without, AllAbove-enter, IsRising-change, IsRising-without, IsRising-enter, active_count-change, active_count-without, active_count-enter, Calms, calms-off, calms-enabling, calms-disabling, no_active, active_count-start}

-- The reports sent, followed by those held, are these; this many overflows were reported, and these tables listed; at most 64 are held, and the table is
-- in order.
pub record IsKept (kept : List Tree) (drops : ℕ) (ls : List (List Tree)) (t : Turn) : Type 0 where
  pub reports : tags_of t.sent ++ t.reader.held ≡ kept
  pub dropped : overflows t.sent ≡ drops
  pub tables : tables_of t.sent ≡ ls
  pub most : length t.reader.held ≤ 64
  pub table : IsOrderly t.reader.table

overflows-append : (xs ys : List ReaderMessage) → overflows (xs ++ ys) ≡ overflows xs + overflows ys
unfolding overflows
overflows-append [] ys = omega arith
overflows-append (m ∷ ms) ys =
    elim (is_overflow m.word) as (λ b. cond b (suc (overflows (ms ++ ys))) (overflows (ms ++ ys)) ≡ cond b (suc (overflows ms)) (overflows ms) + overflows ys) [
      | true ↦ omega (arith, overflows-append ms ys)
      | false ↦ overflows-append ms ys
    ]

tags_of-one_more : (xs : List ReaderMessage) (m : ReaderMessage) → tags_of (xs ++ m ∷ []) ≡ tags_of xs ++ tags_in m.word
unfolding tags_of
tags_of-one_more xs m = tags_of-append xs (m ∷ []) ∙ ap (λ ts. tags_of xs ++ ts) (append-nil (tags_in m.word))

overflows-quiet : (xs : List ReaderMessage) (m : ReaderMessage) → is_overflow m.word ≡ false → overflows (xs ++ m ∷ []) ≡ overflows xs
unfolding overflows
overflows-quiet xs m h = overflows-append xs (m ∷ []) ∙ ap (λ b. overflows xs + cond b 1 0) h ∙ omega arith

pub tables_of-append : (xs ys : List ReaderMessage) → tables_of (xs ++ ys) ≡ tables_of xs ++ tables_of ys
unfolding tables_of
tables_of-append [] ys = refl
tables_of-append (m ∷ ms) ys = ap (λ ts. table_heard (heard m.word) ++ ts) (tables_of-append ms ys) ∙ sym (append_assoc (table_heard (heard m.word)) (tables_of ms) (tables_of ys))

tables-one_more : (xs : List ReaderMessage) (m : ReaderMessage) → tables_of (xs ++ m ∷ []) ≡ tables_of xs ++ table_heard (heard m.word)
unfolding tables_of
tables-one_more xs m = tables_of-append xs (m ∷ []) ∙ ap (λ ts. tables_of xs ++ ts) (append-nil (table_heard (heard m.word)))

tables-quiet : (xs : List ReaderMessage) (m : ReaderMessage) → table_heard (heard m.word) ≡ [] → tables_of (xs ++ m ∷ []) ≡ tables_of xs
tables-quiet xs m h = tables-one_more xs m ∙ ap (λ ts. tables_of xs ++ ts) h ∙ append-nil (tables_of xs)

-- a message without reports, and a change that leaves those held
kept-say : (reports : List Tree) (d : ℕ) (ls : List (List Tree)) (t : Turn) (m : ReaderMessage) (r : Reader) → tags_in m.word ≡ [] → is_overflow m.word ≡ false → table_heard (heard m.word) ≡ [] → r.held ≡ t.reader.held → IsOrderly r.table
    → IsKept reports d ls t → IsKept reports d ls (record { sent = t.sent ++ m ∷ []; reader = r })
kept-say reports d ls t m r none quiet unlisted same orderly s =
    record {
      reports = ap (λ ts. ts ++ r.held) (tags_of-one_more t.sent m ∙ ap (λ ts. tags_of t.sent ++ ts) none ∙ append-nil (tags_of t.sent)) ∙ ap (λ h. tags_of t.sent ++ h) same ∙ s.reports;
      dropped = overflows-quiet t.sent m quiet ∙ s.dropped;
      tables = tables-quiet t.sent m unlisted ∙ s.tables;
      most = subst (λ (h : List Tree). length h ≤ 64) (sym same) s.most;
      table = orderly;
    }

kept-send_held : (reports : List Tree) (d : ℕ) (ls : List (List Tree)) (t : Turn) → IsKept reports d ls t → IsKept reports d ls (send_held t)
kept-send_held reports d ls t s =
    record {
      reports = append-nil _ ∙ tags_of-one_more t.sent _ ∙ s.reports;
      dropped = overflows-quiet t.sent _ refl ∙ s.dropped;
      tables = tables-quiet t.sent _ refl ∙ s.tables;
      most = omega arith;
      table = s.table;
    }

-- ---- tables

orderly-calm : (f : ℕ → RoState → RoState) (t : List Entry) → Calms f → IsOrderly t → IsOrderly (change f t)
orderly-calm f t calm o = record { rising = IsRising-change f t o.rising; no_zero = AllAbove-change f 0 t o.no_zero; one_active = let le = active_count-change f t calm in let one = o.one_active in omega arith }

orderly-without : (n : ℕ) (t : List Entry) → IsOrderly t → IsOrderly (without n t)
orderly-without n t o = record { rising = IsRising-without n t o.rising; no_zero = AllAbove-without n 0 t o.no_zero; one_active = let le = active_count-without n t in let one = o.one_active in omega arith }

above_zero : (n : ℕ) → (n == 0) ≡ false → 0 < n
above_zero n h = grind (arith, nat_tests)

orderly-enter : (s : RoSpec) (t : List Entry) → (s.id == 0) ≡ false → IsOrderly t → IsOrderly (enter s t)
orderly-enter s t some o = record { rising = IsRising-enter s t o.rising; no_zero = AllAbove-enter s 0 t (above_zero s.id some) o.no_zero; one_active = let le = active_count-enter s t in let one = o.one_active in omega arith }

none_where : (o : Option RoSpec) → is_none o ≡ true → o ≡ None
none_where None h = refl
none_where (Some s) h = cc

and-right : (a b : Bool) → (a && b) ≡ true → b ≡ true
and-right true b h = h
and-right false b h = cc

-- ---- turns

kept-start : (reports : List Tree) (d : ℕ) (ls : List (List Tree)) (now id : ℕ) (t : Turn) → active_count t.reader.table ≡ 0 → IsKept reports d ls t → IsKept reports d ls (start now id t)
kept-start reports d ls now id t idle s =
    kept-say reports d ls t _ _ refl refl refl refl (record { rising = IsRising-change (setting id Active) t.reader.table s.table.rising; no_zero = AllAbove-change (setting id Active) 0 t.reader.table s.table.no_zero; one_active = active_count-start id t.reader.table s.table.rising idle }) s

kept-ended : (reports : List Tree) (d : ℕ) (ls : List (List Tree)) (now id : ℕ) (t : Turn) → IsKept reports d ls t → IsKept reports d ls (tell (Ended now id) (set_state id Inactive t))
kept-ended reports d ls now id t s = kept-say reports d ls t _ _ refl refl refl refl (orderly-calm (setting id Inactive) t.reader.table (calms-off Inactive id refl) s.table) s

kept-end : (reports : List Tree) (d : ℕ) (ls : List (List Tree)) (now : ℕ) (p : RoSpec) (t : Turn) → IsKept reports d ls t → IsKept reports d ls (end now p t)
unfolding end
kept-end reports d ls now p t s =
    elim (sends_at_end t.reader p) as (λ b. IsKept reports d ls (tell (Ended now p.id) (set_state p.id Inactive (cond b (send_held t) t)))) [
      | true ↦ kept-ended reports d ls now p.id (send_held t) (kept-send_held reports d ls t s)
      | false ↦ kept-ended reports d ls now p.id t s
    ]

kept-end_if : (reports : List Tree) (d : ℕ) (ls : List (List Tree)) (test : RoSpec → Bool) (now : ℕ) (o : Option RoSpec) (t : Turn) → IsKept reports d ls t → IsKept reports d ls (end_if test now o t)
kept-end_if reports d ls test now None t s = s
kept-end_if reports d ls test now (Some p) t s = elim (test p) as (λ b. IsKept reports d ls (cond b (end now p t) t)) [ true ↦ kept-end reports d ls now p t s | false ↦ s ]

kept-start_if_idle : (reports : List Tree) (d : ℕ) (ls : List (List Tree)) (now : ℕ) (o : Option RoSpec) (idle : Bool) (t : Turn) → (idle ≡ true → active_count t.reader.table ≡ 0) → IsKept reports d ls t → IsKept reports d ls (start_if_idle now o idle t)
kept-start_if_idle reports d ls now None idle t h s = s
kept-start_if_idle reports d ls now (Some p) true t h s = kept-start reports d ls now p.id t (h refl) s
kept-start_if_idle reports d ls now (Some p) false t h s = s

-- the test of the fields, by whether the id is 0
abbrev bad_where : List Entry → RoSpec → Bool → Bool
bad_where table p zero =
    zero || is_some (state_of p.id table) || not (p.current_state == 0)
    || (p.start_trigger == 2) || (p.start_trigger == 3) || (p.stop_trigger == 2) || p.has_ai_stop || is_bad_report p.report

-- a ROSpec that is added has an id other than 0
added_id : (limit : ℕ) (table : List Entry) (p : RoSpec) → (add_status limit table p == 0) ≡ true → (p.id == 0) ≡ false
added_id limit table p h =
    elim (p.id == 0) as (λ b. (cond (bad_where table p b) 101 (cond (is_too_long limit table p) 100 0) == 0) ≡ true → b ≡ false) [
      | true ↦ λ g. cc
      | false ↦ λ g. refl
    ] h

-- each request
pub kept-serve : (reports : List Tree) (d now v id : ℕ) (q : Request) (t : Turn) → IsKept reports d [] t → IsKept reports d (listed_for q t.reader) (serve now v id q t)
unfolding serve
kept-serve reports d now v id (AddRoSpec spec) t s =
    let p = rospec_of spec in
    let status = add_status t.reader.limit t.reader.table p in
    elim (status == 0) as (λ b. (status == 0) ≡ b → IsKept reports d [] (reply v id (Response Adding status) (cond b (with_table (enter p t.reader.table) t) t))) [
      | true ↦ λ e. kept-say reports d [] t _ _ refl refl refl refl (orderly-enter p t.reader.table (added_id t.reader.limit t.reader.table p e) s.table) s
      | false ↦ λ e. kept-say reports d [] t _ _ refl refl refl refl s.table s
    ] refl
kept-serve reports d now v id (DeleteRoSpec n) t s =
    let ended = end_if (λ p. names n p.id) now (active t.reader.table) t in
    let g : IsKept reports d [] ended = kept-end_if reports d [] (λ p. names n p.id) now (active t.reader.table) t s in
    elim (is_known n t.reader.table) as (λ b. IsKept reports d [] (cond b (reply v id (Response Deleting 0) (with_table (without n ended.reader.table) ended)) (reply v id (Response Deleting 101) t))) [
      | true ↦ kept-say reports d [] ended _ _ refl refl refl refl (orderly-without n ended.reader.table g.table) g
      | false ↦ kept-say reports d [] t _ _ refl refl refl refl s.table s
    ]
kept-serve reports d now v id (EnableRoSpec n) t s =
    let enabled = reply v id (Response Enabling 0) (with_table (change (enabling n) t.reader.table) t) in
    let none : is_none (active t.reader.table) ≡ true → active_count (change (enabling n) t.reader.table) ≡ 0 =
    λ h. let zero : active_count t.reader.table ≡ 0 = no_active t.reader.table (none_where (active t.reader.table) h) in let le = active_count-change (enabling n) t.reader.table (calms-enabling n) in omega arith in
    elim (is_known n t.reader.table) as (λ b. IsKept reports d [] (cond b (start_if_idle now (first_immediate n t.reader.table) (is_none (active t.reader.table)) enabled) (reply v id (Response Enabling 101) t))) [
      | true ↦ kept-start_if_idle reports d [] now (first_immediate n t.reader.table) (is_none (active t.reader.table)) enabled none
          (kept-say reports d [] t _ _ refl refl refl refl (orderly-calm (enabling n) t.reader.table (calms-enabling n) s.table) s)
      | false ↦ kept-say reports d [] t _ _ refl refl refl refl s.table s
    ]
kept-serve reports d now v id (DisableRoSpec n) t s =
    let ended = end_if (λ p. names n p.id) now (active t.reader.table) t in
    let g : IsKept reports d [] ended = kept-end_if reports d [] (λ p. names n p.id) now (active t.reader.table) t s in
    elim (is_known n t.reader.table) as (λ b. IsKept reports d [] (cond b (reply v id (Response Disabling 0) (with_table (change (disabling n) ended.reader.table) ended)) (reply v id (Response Disabling 101) t))) [
      | true ↦ kept-say reports d [] ended _ _ refl refl refl refl (orderly-calm (disabling n) ended.reader.table (calms-disabling n) g.table) g
      | false ↦ kept-say reports d [] t _ _ refl refl refl refl s.table s
    ]
kept-serve reports d now v id (StartRoSpec n) t s =
    let can = has_state is_inactive (state_of n t.reader.table) && is_none (active t.reader.table) in
    elim can as (λ b. can ≡ b → IsKept reports d [] (cond b (start now n (reply v id (Response Starting 0) t)) (reply v id (Response Starting 101) t))) [
      | true ↦ λ e. kept-start reports d [] now n (reply v id (Response Starting 0) t) (no_active t.reader.table (none_where (active t.reader.table) (and-right (has_state is_inactive (state_of n t.reader.table)) _ e)))
          (kept-say reports d [] t _ _ refl refl refl refl s.table s)
      | false ↦ λ e. kept-say reports d [] t _ _ refl refl refl refl s.table s
    ] refl
kept-serve reports d now v id (StopRoSpec n) t s =
    let ended = end_if (λ p. p.id == n) now (active t.reader.table) t in
    let g : IsKept reports d [] ended = kept-end_if reports d [] (λ p. p.id == n) now (active t.reader.table) t s in
    elim (has_state is_active (state_of n t.reader.table)) as (λ b. IsKept reports d [] (cond b (reply v id (Response Stopping 0) ended) (reply v id (Response Stopping 101) t))) [
      | true ↦ kept-say reports d [] ended _ _ refl refl refl refl g.table g
      | false ↦ kept-say reports d [] t _ _ refl refl refl refl s.table s
    ]
kept-serve reports d now v id GetRoSpecs t s =
    record {
      reports = ap (λ ts. ts ++ t.reader.held) (tags_of-one_more t.sent _ ∙ append-nil (tags_of t.sent)) ∙ s.reports;
      dropped = overflows-quiet t.sent _ refl ∙ s.dropped;
      tables = tables-one_more t.sent _ ∙ ap (λ ts. ts ++ listing t.reader.table ∷ []) s.tables;
      most = s.most;
      table = s.table;
    }
kept-serve reports d now v id (SetReaderConfig k) t s =
    let same = same-configured now k t.reader in
    elim (is_bad_report k.report || is_bad_keepalive k.keepalive) as (λ b. IsKept reports d [] (cond b (reply v id (Response Configuring 101) t) (reply v id (Response Configuring 0) (with_reader (configured now k t.reader) t)))) [
      | true ↦ kept-say reports d [] t _ _ refl refl refl refl s.table s
      | false ↦ kept-say reports d [] t _ _ refl refl refl same.held (subst IsOrderly (sym same.table) s.table) s
    ]
kept-serve reports d now v id GetReports t s = kept-send_held reports d [] t s
kept-serve reports d now v id CloseConnection t s = kept-say reports d [] t _ _ refl refl refl refl s.table s
kept-serve reports d now v id NoRequest t s = s
kept-serve reports d now v id Unsupported t s = kept-say reports d [] t _ _ refl refl refl refl s.table s

kept-keep_alive : (reports : List Tree) (d : ℕ) (ls : List (List Tree)) (now : ℕ) (o : Option Keepalive) (t : Turn) → IsKept reports d ls t → IsKept reports d ls (keep_alive now o t)
kept-keep_alive reports d ls now None t s = s
kept-keep_alive reports d ls now (Some k) t s =
    let told = tell KeepaliveSent t in
    elim (nat_le k.due now) as (λ b. IsKept reports d ls (cond b (with_reader (record told.reader { keepalive = Some (keepalive_from now k.period) }) told) t)) [
      | true ↦ kept-say reports d ls t _ _ refl refl refl refl s.table s
      | false ↦ s
    ]

kept-tick : (reports : List Tree) (d : ℕ) (ls : List (List Tree)) (now : ℕ) (t : Turn) → IsKept reports d ls t → IsKept reports d ls (tick now t)
unfolding tick
kept-tick reports d ls now t s =
    let ended = end_if (has_run_out now t.reader.started) now (active t.reader.table) t in
    kept-keep_alive reports d ls now ended.reader.keepalive ended (kept-end_if reports d ls (has_run_out now t.reader.started) now (active t.reader.table) t s)

-- ---- a sighting

room : (n : ℕ) → nat_le 64 n ≡ false → n < 64
room n h = grind (arith, nat_tests)

overflows-told : (xs : List ReaderMessage) (v id now : ℕ) → overflows (xs ++ record { version = v; id = id; word = Overflowed now } ∷ []) ≡ overflows xs + 1
unfolding overflows
overflows-told xs v id now = overflows-append xs (record { version = v; id = id; word = Overflowed now } ∷ [])

-- the same reports, with none more
none_more : (reports : List Tree) (full : Bool) (d : ℕ) (ls : List (List Tree)) (t : Turn) → IsKept reports d ls t → IsKept (reports ++ cond full [] []) (d + cond full 0 0) ls t
none_more reports true d ls t s = record { tables = s.tables; reports = s.reports ∙ sym (append-nil reports); dropped = s.dropped ∙ omega arith; most = s.most; table = s.table }
none_more reports false d ls t s = record { tables = s.tables; reports = s.reports ∙ sym (append-nil reports); dropped = s.dropped ∙ omega arith; most = s.most; table = s.table }

kept-see : (reports : List Tree) (d : ℕ) (ls : List (List Tree)) (now : ℕ) (g : Sighting) (o : Option RoSpec) (t : Turn) → IsKept reports d ls t
    → IsKept (reports ++ cond (is_full t.reader) [] (report_by now g t.reader o)) (d + cond (is_full t.reader) (length (report_by now g t.reader o)) 0) ls (see now g o t)
unfolding see
kept-see reports d ls now g None t s = none_more reports (is_full t.reader) d ls t s
kept-see reports d ls now g (Some p) t s =
    let report_spec = effective_report t.reader p in
    let tag = tag_report now p report_spec.selector g in
    let more = hold tag t in
    elim (is_full t.reader) as (λ b. is_full t.reader ≡ b → IsKept (reports ++ cond b [] (tag ∷ [])) (d + cond b 1 0) ls (cond b (tell (Overflowed now) t) (send_if_enough report_spec more))) [
      | true ↦ λ e.
          record {
            reports = ap (λ ts. ts ++ t.reader.held) (tags_of-one_more t.sent _ ∙ append-nil (tags_of t.sent)) ∙ s.reports ∙ sym (append-nil reports);
            tables = tables-quiet t.sent _ refl ∙ s.tables;
            dropped = overflows-told t.sent t.reader.version t.reader.next_id now ∙ ap (λ n. n + 1) s.dropped;
            most = s.most;
            table = s.table;
          }
      | false ↦ λ e.
          let m : IsKept (reports ++ tag ∷ []) (d + 0) ls more =
          record {
            reports = sym (append_assoc (tags_of t.sent) t.reader.held (tag ∷ [])) ∙ ap (λ ts. ts ++ tag ∷ []) s.reports;
            dropped = s.dropped ∙ omega arith;
            tables = s.tables;
            most = let lt = room (length t.reader.held) e in omega (arith, length-append t.reader.held (tag ∷ []));
            table = s.table;
          } in
          elim (is_report_due report_spec (length more.reader.held)) as (λ b. IsKept (reports ++ tag ∷ []) (d + 0) ls (cond b (send_held more) more)) [ true ↦ kept-send_held _ _ _ more m | false ↦ m ]
    ] refl

-- ---- a step

abbrev pub KeptNext : List Tree → ℕ → List (List Tree) → Result Turn Refusal → Type 0
KeptNext reports d ls (Err refusal) = Unit {0}
KeptNext reports d ls (Ok t) = IsKept reports d ls t

quietly : (reports : List Tree) (full : Bool) (ls : List (List Tree)) (t : Turn) → IsKept reports 0 ls t → IsKept (reports ++ cond full [] []) (cond full 0 0) ls t
quietly reports true ls t s = record { tables = s.tables; reports = s.reports ∙ sym (append-nil reports); dropped = s.dropped; most = s.most; table = s.table }
quietly reports false ls t s = record { tables = s.tables; reports = s.reports ∙ sym (append-nil reports); dropped = s.dropped; most = s.most; table = s.table }

kept-begun : (r : Reader) → length r.held ≤ 64 → IsOrderly r.table → IsKept r.held 0 [] (turn_begun r)
unfolding tags_of overflows tables_of
kept-begun r most orderly = record { reports = refl; dropped = refl; tables = refl; most = most; table = orderly }

-- the version of a reader is not listed
same-listed : (q : Request) (r : Reader) (v : ℕ) → listed_for q (record r { version = v }) ≡ listed_for q r
same-listed GetRoSpecs r v = refl
same-listed _ r v = refl

kept-next_in : (ph : ReaderPhase) (now : ℕ) (e : ReaderEvent) (r : Reader) → length r.held ≤ 64 → IsOrderly r.table
    → KeptNext (r.held ++ cond (is_full r) [] (counted_in ph now e r)) (cond (is_full r) (length (counted_in ph now e r)) 0) (listed_in ph e r) (next_in ph now e r)
kept-next_in Down now e r most orderly = tt
kept-next_in Waiting now Connect r most orderly = quietly r.held (is_full r) _ (connect now r) (kept-say r.held 0 [] (turn_begun r) _ _ refl refl refl refl orderly (kept-begun r most orderly))
kept-next_in Waiting now (Take v id q) r most orderly = tt
kept-next_in Waiting now (TakeBad id reason) r most orderly = tt
kept-next_in Waiting now (Seen g) r most orderly = tt
kept-next_in Waiting now Tick r most orderly = tt
kept-next_in Up now Connect r most orderly = tt
kept-next_in Up now (Take v id q) r most orderly =
    let taken : Reader = record r { version = v } in
    quietly r.held (is_full r) _ _ (subst (λ (ls : List (List Tree)). IsKept r.held 0 ls (serve now v id q (turn_begun taken))) (same-listed q r v) (kept-serve r.held 0 now v id q (turn_begun taken) (kept-begun taken most orderly)))
kept-next_in Up now (TakeBad id reason) r most orderly = quietly r.held (is_full r) _ _ (kept-say r.held 0 [] (turn_begun r) _ _ refl refl refl refl orderly (kept-begun r most orderly))
kept-next_in Up now (Seen g) r most orderly =
    let s = kept-see r.held 0 [] now g (counting g (active r.table)) (turn_begun r) (kept-begun r most orderly) in
    record { reports = s.reports; dropped = s.dropped ∙ omega arith; tables = s.tables; most = s.most; table = s.table }
kept-next_in Up now Tick r most orderly = quietly r.held (is_full r) _ _ (kept-tick r.held 0 [] now (turn_begun r) (kept-begun r most orderly))

pub kept-next : (now : ℕ) (e : ReaderEvent) (r : Reader) → length r.held ≤ 64 → IsOrderly r.table → KeptNext (r.held ++ kept_by now e r) (dropped_by now e r) (listed_by e r) (next now e r)
unfolding next
kept-next now e r most orderly = kept-next_in r.phase now e r most orderly

-- ---- whole histories

pub record IsKeptHistory (h : History) : Type 0 where
  pub reports : tags_of h.sent ++ h.reader.held ≡ h.kept
  pub dropped : overflows h.sent ≡ h.dropped
  pub most : length h.reader.held ≤ 64
  pub table : IsOrderly h.reader.table

kept-extended : (h : History) (n : Result Turn Refusal) (tags : List Tree) (d : ℕ) (ls : List (List Tree)) → KeptNext (h.reader.held ++ tags) d ls n → IsKeptHistory h → IsKeptHistory (extended n tags d h)
kept-extended h (Err refusal) tags d ls s k = k
kept-extended h (Ok t) tags d ls s k =
    record {
      reports = ap (λ ts. ts ++ t.reader.held) (tags_of-append h.sent t.sent) ∙ append_assoc (tags_of h.sent) (tags_of t.sent) t.reader.held ∙ ap (λ ts. tags_of h.sent ++ ts) s.reports
          ∙ sym (append_assoc (tags_of h.sent) h.reader.held tags) ∙ ap (λ ts. ts ++ tags) k.reports;
      dropped = let e = s.dropped in let f = k.dropped in omega (arith, overflows-append h.sent t.sent);
      most = s.most;
      table = s.table;
    }

kept-history : (es : List (ℕ × ReaderEvent)) (h : History) → IsKeptHistory h → IsKeptHistory (history es h)
kept-history [] h k = k
kept-history (e ∷ es) h k =
    kept-history es (after_event h e) (kept-extended h (next e.0 e.1 h.reader) (kept_by e.0 e.1 h.reader) (dropped_by e.0 e.1 h.reader) (listed_by e.1 h.reader) (kept-next e.0 e.1 h.reader k.most k.table) k)

kept_always : (limit first_id : ℕ) (es : List (ℕ × ReaderEvent)) → IsKeptHistory (history es (no_history limit first_id))
unfolding tags_of overflows active_count IsRising AllAbove
kept_always limit first_id es =
    kept-history es (no_history limit first_id) (record { reports = refl; dropped = refl; most = omega arith; table = record { rising = tt; one_active = omega arith; no_zero = tt } })

-- ---- the clauses

pub reports_in_order : AfterAllEvents ReportsInOrder
reports_in_order limit first_id es = (kept_always limit first_id es).reports

pub overflows_told : AfterAllEvents OverflowsTold
overflows_told limit first_id es = (kept_always limit first_id es).dropped

pub holds_few_enough : AfterAllEvents HoldsFewEnough
holds_few_enough limit first_id es = (kept_always limit first_id es).most

pub each_once : AfterAllEvents EachOnce
each_once limit first_id es = let table = (kept_always limit first_id es).table in (table.rising, table.no_zero)

pub one_is_active : AfterAllEvents OneActive
one_is_active limit first_id es = (kept_always limit first_id es).table.one_active
