-- The two ends agree after every list of events.
use Rattle.std.proofs.Common.{◌≡◌, ℕ, ◌≤◌, refl, sym, ◌∙◌, ap, subst, List, [], ◌∷◌, ◌++◌, length, inl, inr, arith, append_assoc}
use Rattle.std.specs.Prelude.{Option, None, Some, Result, Ok, Err}
use Rattle.llrp_tree.specs.Tree.{Tree}
use Rattle.llrp_session.specs.Calls.Table.{IsRising, AllAbove}
use Rattle.llrp_session.specs.Table.{active_count}
use Rattle.llrp_session.specs.Contents.{ReaderMessage, ClientMessage, request}
use Rattle.llrp_session.specs.Calls.Contents.{heard}
use Rattle.llrp_session.specs.Refusal.{Refusal}
use Rattle.llrp_session.specs.ReaderMachine.{Reader, Turn, ReaderEvent, Connect, Take, Seen, Tick, next}
use Rattle.llrp_session.specs.Sightings.{tags_of, kept_by, dropped_by, History, history, after_event, extended, no_history}
use Rattle.llrp_session.specs.ClientMachine.{Client, Pending, Sending, Taking, take, command}
use Rattle.llrp_session.specs.Calls.World.{World, happens, run, opening, stepped, commanded, word_took, delivered_up, delivered_down, reader_does}
use Rattle.llrp_session.specs.World.{WorldEvent, Connects, Commands, DeliversUp, DeliversDown, Sees, Ticks, listed_by}
use Rattle.llrp_session.specs.Calls.Agreement.{AfterAll, ViewCatchesUp, ViewIsTable, ReportsArrive, ReportsAreKept, ReaderHasHistory, OneActive, NothingIsUnexpected, PendingIsOnTheWay, NothingIsPending, TablesArrive, NoneDiffers, AreTaken, taken_in, and_then, requests, responses, IsOnTheWay}
use Rattle.llrp_session.specs.MessageAgreement.{IsTaken}
use Rattle.llrp_session.proofs.StandingTogether.{StandsTogether, together-happens, together-run, together-opening, on_the_way, tags_of-append}
use Rattle.llrp_session.proofs.Orderly.{IsOrderly}
use Rattle.llrp_session.proofs.Keeping.{KeptNext, kept-next}
use Rattle.llrp_session.proofs.TablesAgree.{TablesAgree, agree-happens, agree-opening}
use Rattle.llrp_session.proofs.TakingIn.{same_client}

-- ---- the reader's side

record KeepsReports (w : World) : Type 0 where
  pub reports : w.reported ++ w.reader.held ≡ w.kept
  pub most : length w.reader.held ≤ 64
  pub table : IsOrderly w.reader.table

keeps-stepped : (w : World) (n : Result Turn Refusal) (tags : List Tree) (d : ℕ) (ls : List (List Tree)) → KeptNext (w.reader.held ++ tags) d ls n → KeepsReports w → KeepsReports (stepped n tags ls w)
keeps-stepped w (Err refusal) tags d ls s h = h
keeps-stepped w (Ok t) tags d ls s h =
    record {
      reports = append_assoc w.reported (tags_of t.sent) t.reader.held ∙ ap (λ ts. w.reported ++ ts) s.reports ∙ sym (append_assoc w.reported w.reader.held tags) ∙ ap (λ ts. ts ++ tags) h.reports;
      most = s.most;
      table = s.table;
    }

keeps-reader : (w : World) (now : ℕ) (e : ReaderEvent) → KeepsReports w → KeepsReports (reader_does now e w)
keeps-reader w now e h = keeps-stepped w (next now e w.reader) (kept_by now e w.reader) (dropped_by now e w.reader) (listed_by e w.reader) (kept-next now e w.reader h.most h.table) h

keeps-commanded : (w : World) (r : Result Sending Refusal) → KeepsReports w → KeepsReports (commanded r w)
keeps-commanded w (Ok s) h = record { reports = h.reports; most = h.most; table = h.table }
keeps-commanded w (Err refusal) h = h

keeps-took : (w : World) (r : Result Taking Refusal) → KeepsReports w → KeepsReports (word_took r w)
keeps-took w (Err refusal) h = h
keeps-took w (Ok k) h = record { reports = h.reports; most = h.most; table = h.table }

keeps-down : (w : World) (ms : List ReaderMessage) → KeepsReports w → KeepsReports (delivered_down ms w)
keeps-down w [] h = h
keeps-down w (m ∷ ms) h = keeps-took (record w { down = ms }) (take w.client m.id (heard m.word)) (record { reports = h.reports; most = h.most; table = h.table })

keeps-up : (w : World) (now : ℕ) (ms : List ClientMessage) → KeepsReports w → KeepsReports (delivered_up now ms w)
keeps-up w now [] h = h
keeps-up w now (m ∷ ms) h = keeps-reader (record w { up = ms }) now (Take 1 m.id (request m.word)) (record { reports = h.reports; most = h.most; table = h.table })

keeps-happens : (w : World) (e : WorldEvent) → KeepsReports w → KeepsReports (happens w e)
keeps-happens w (Connects now) h = keeps-reader w now Connect h
keeps-happens w (Commands k) h = keeps-commanded w (command w.client k) h
keeps-happens w (DeliversUp now) h = keeps-up w now w.up h
keeps-happens w DeliversDown h = keeps-down w w.down h
keeps-happens w (Sees now g) h = keeps-reader w now (Seen g) h
keeps-happens w (Ticks now) h = keeps-reader w now Tick h

keeps-run : (es : List WorldEvent) (w : World) → KeepsReports w → KeepsReports (run es w)
keeps-run [] w h = h
keeps-run (e ∷ es) w h = keeps-run es (happens w e) (keeps-happens w e h)

keeps_always : (limit reader_first client_first : ℕ) (es : List WorldEvent) → KeepsReports (run es (opening limit reader_first client_first))
unfolding active_count IsRising AllAbove
keeps_always limit r c es = keeps-run es (opening limit r c) (record { reports = refl; most = omega arith; table = record { rising = tt; one_active = omega arith; no_zero = tt } })

together : (limit reader_first client_first : ℕ) (es : List WorldEvent) → StandsTogether (run es (opening limit reader_first client_first))
together limit r c es = together-run es (opening limit r c) (together-opening limit r c)

-- ---- the reader's history

history-one_more : (es : List (ℕ × ReaderEvent)) (e : ℕ × ReaderEvent) (h : History) → history (es ++ e ∷ []) h ≡ after_event (history es h) e
history-one_more [] e h = refl
history-one_more (x ∷ es) e h = history-one_more es e (after_event h x)

-- this history ends with the reader of the world, and with its reports
record IsHistoryOf (w : World) (h : History) : Type 0 where
  pub reader : h.reader ≡ w.reader
  pub reported : tags_of h.sent ≡ w.reported
  pub kept : h.kept ≡ w.kept

history-stepped : (w : World) (h : History) (n : Result Turn Refusal) (tags : List Tree) (d : ℕ) (ls : List (List Tree)) → IsHistoryOf w h → IsHistoryOf (stepped n tags ls w) (extended n tags d h)
history-stepped w h (Err refusal) tags d ls a = a
history-stepped w h (Ok t) tags d ls a =
    record {
      reader = refl;
      reported = tags_of-append h.sent t.sent ∙ ap (λ ts. ts ++ tags_of t.sent) a.reported;
      kept = ap (λ ts. ts ++ tags) a.kept;
    }

history-reader : (w : World) (now : ℕ) (e : ReaderEvent) → ReaderHasHistory w → ReaderHasHistory (reader_does now e w)
history-reader w now e a =
    let h : History = history a.events (no_history a.limit a.first_id) in
    let more : IsHistoryOf (reader_does now e w) (after_event h (now, e)) =
    subst (λ (r : Reader). IsHistoryOf (stepped (next now e r) (kept_by now e r) (listed_by e r) w) (after_event h (now, e))) a.reader
    (history-stepped w h (next now e h.reader) (kept_by now e h.reader) (dropped_by now e h.reader) (listed_by e h.reader) (record { reader = a.reader; reported = a.reported; kept = a.kept })) in
    let same = history-one_more a.events (now, e) (no_history a.limit a.first_id) in
    record {
      limit = a.limit;
      first_id = a.first_id;
      events = a.events ++ (now, e) ∷ [];
      reader = ap (λ (x : History). x.reader) same ∙ more.reader;
      reported = ap (λ (x : History). tags_of x.sent) same ∙ more.reported;
      kept = ap (λ (x : History). x.kept) same ∙ more.kept;
    }

-- a world with the same reader and the same reports
history-same : (w v : World) → v.reader ≡ w.reader → v.reported ≡ w.reported → v.kept ≡ w.kept → ReaderHasHistory w → ReaderHasHistory v
history-same w v r s k a =
    record { limit = a.limit; first_id = a.first_id; events = a.events; reader = a.reader ∙ sym r; reported = a.reported ∙ sym s; kept = a.kept ∙ sym k }

history-commanded : (w : World) (r : Result Sending Refusal) → ReaderHasHistory w → ReaderHasHistory (commanded r w)
history-commanded w (Ok s) a = history-same w (commanded (Ok s) w) refl refl refl a
history-commanded w (Err refusal) a = a

history-took : (w : World) (r : Result Taking Refusal) → ReaderHasHistory w → ReaderHasHistory (word_took r w)
history-took w (Ok k) a = history-same w (word_took (Ok k) w) refl refl refl a
history-took w (Err refusal) a = a

history-down : (w : World) (ms : List ReaderMessage) → ReaderHasHistory w → ReaderHasHistory (delivered_down ms w)
history-down w [] a = a
history-down w (m ∷ ms) a = history-took (record w { down = ms }) (take w.client m.id (heard m.word)) (history-same w (record w { down = ms }) refl refl refl a)

history-up : (w : World) (now : ℕ) (ms : List ClientMessage) → ReaderHasHistory w → ReaderHasHistory (delivered_up now ms w)
history-up w now [] a = a
history-up w now (m ∷ ms) a = history-reader (record w { up = ms }) now (Take 1 m.id (request m.word)) (history-same w (record w { up = ms }) refl refl refl a)

history-happens : (w : World) (e : WorldEvent) → ReaderHasHistory w → ReaderHasHistory (happens w e)
history-happens w (Connects now) a = history-reader w now Connect a
history-happens w (Commands k) a = history-commanded w (command w.client k) a
history-happens w (DeliversUp now) a = history-up w now w.up a
history-happens w DeliversDown a = history-down w w.down a
history-happens w (Sees now g) a = history-reader w now (Seen g) a
history-happens w (Ticks now) a = history-reader w now Tick a

history-run : (es : List WorldEvent) (w : World) → ReaderHasHistory w → ReaderHasHistory (run es w)
history-run [] w a = a
history-run (e ∷ es) w a = history-run es (happens w e) (history-happens w e a)

-- ---- the clauses

pub view_catches_up : AfterAll ViewCatchesUp
view_catches_up limit r c es = let a = together limit r c es in (a.c, a.caught_up, a.view)

pub view_is_table : AfterAll ViewIsTable
view_is_table limit r c es none =
    let w = run es (opening limit r c) in
    let a = together limit r c es in
    let same = same_client w.client a.c (sym (ap (λ d. taken_in d w.client) none) ∙ a.caught_up) in
    ap (λ (x : Client). x.view) same ∙ a.view

pub reports_arrive : AfterAll ReportsArrive
reports_arrive limit r c es = (together limit r c es).reports

pub reports_are_kept : AfterAll ReportsAreKept
reports_are_kept limit r c es =
    let w = run es (opening limit r c) in
    ap (λ ts. ts ++ w.reader.held) (reports_arrive limit r c es) ∙ (keeps_always limit r c es).reports

pub reader_has_history : AfterAll ReaderHasHistory
unfolding tags_of
reader_has_history limit r c es =
    history-run es (opening limit r c) (record { limit = limit; first_id = r; events = []; reader = refl; reported = refl; kept = refl })

pub one_active : AfterAll OneActive
one_active limit r c es = (keeps_always limit r c es).table.one_active

are_taken : (ms : List ReaderMessage) (c d : Client) → taken_in ms c ≡ Some d → AreTaken ms c
are_taken [] c d h = tt
are_taken (m ∷ ms) c d h =
    elim (take c m.id (heard m.word)) as (λ r. and_then r (taken_in ms) ≡ Some d → IsTaken r (AreTaken ms)) [
      | Err refusal ↦ λ g. cc
      | Ok k ↦ λ g. are_taken ms k.client d g
    ] h

pub nothing_is_unexpected : AfterAll NothingIsUnexpected
nothing_is_unexpected limit r c es = let a = together limit r c es in are_taken _ _ a.c a.caught_up

pub pending_is_on_the_way : AfterAll PendingIsOnTheWay
pending_is_on_the_way limit r c es = on_the_way (run es (opening limit r c)) (together limit r c es)

nowhere : (o : Option Pending) → IsOnTheWay o [] [] → o ≡ None
unfolding requests responses
nowhere None h = refl
nowhere (Some p) h = elim h [ inl a ↦ let e = a.0 in cc | inr b ↦ let e = b.1 in cc ]

pub nothing_is_pending : AfterAll NothingIsPending
nothing_is_pending limit r c es no_up no_down =
    let w = run es (opening limit r c) in
    let h = pending_is_on_the_way limit r c es in
    nowhere w.client.pending (subst (λ (d : List ReaderMessage). IsOnTheWay w.client.pending [] d) no_down (subst (λ (u : List ClientMessage). IsOnTheWay w.client.pending u w.down) no_up h))

-- ---- the reader's table

agree-run : (es : List WorldEvent) (w : World) → StandsTogether w → KeepsReports w → TablesAgree w → TablesAgree (run es w)
agree-run [] w a k h = h
agree-run (e ∷ es) w a k h =
    agree-run es (happens w e) (together-happens w e a) (keeps-happens w e k)
    (agree-happens w a.c e (record { caught_up = a.caught_up; view = a.view; most = k.most; table = k.table }) h)

agrees : (limit reader_first client_first : ℕ) (es : List WorldEvent) → TablesAgree (run es (opening limit reader_first client_first))
agrees limit r c es = agree-run es (opening limit r c) (together-opening limit r c) (keeps_always limit r c []) (agree-opening limit r c)

pub tables_arrive : AfterAll TablesArrive
tables_arrive limit r c es = (agrees limit r c es).tables

pub none_differs : AfterAll NoneDiffers
none_differs limit r c es = (agrees limit r c es).none
