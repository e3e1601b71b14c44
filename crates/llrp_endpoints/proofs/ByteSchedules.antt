-- Every schedule of bytes goes on, and the two ends agree after it.
use Rattle.std.proofs.Common.{◌≡◌, ℕ, ◌*◌, ◌<◌, ◌^◌, List, [], ◌∷◌, ◌++◌, map, take, drop, length, refl, sym, ap, subst, inl, Result, Ok, Err, ◌∙◌, arith}
use Rattle.std.specs.Prelude.{None}
use Rattle.std.proofs.lemmas.List.{append-nil, take_at, drop_at}
use Rattle.llrp_tree.specs.declared.TheConstants.{MAX_LIMIT}
use Rattle.llrp_tree.specs.Tree.{MessageTree}
use Rattle.llrp_tree.specs.Lawful.{message_octets}
use Rattle.llrp_tree.specs.Spelling.{message_digits}
use Rattle.llrp_tree.specs.Frame.{Frame}
use Rattle.llrp_tree.specs.FirstFault.{octets_at}
use Rattle.llrp_tree.proofs.LengthLemmas.{length-message_digits}
use Rattle.llrp_tree.proofs.ReadDigits.{length-octets_at, are_octets_at, octets_spelled}
use Rattle.llrp_stream.specs.Cuts.{IsPartial}
use Rattle.llrp_session.specs.Refusal.{Refusal}
use Rattle.llrp_session.specs.MessageAgreement.{MessagesAreTaken, IsOnTheWay, ReaderHasHistory, OneActive, NoneDiffers}
use Rattle.llrp_session.specs.ClientMachine.{Client, Taking, take as client_takes}
use Rattle.llrp_session.specs.ReaderMachine.{Reader}
use Rattle.llrp_session.specs.ClientMessages.{client_message}
use Rattle.llrp_session.specs.Reading.{heard_of}
use Rattle.llrp_session.specs.Table.{states}
use Rattle.llrp_session.specs.Calls.LawfulWords.{IsSendable}
use Rattle.llrp_session.specs.World.{WorldEvent, tags_handed_out, tables_shown, tables_differing}
use Rattle.llrp_session.specs.MessageWorld.{MessageWorld, tags_in_messages, tables_in_messages, took, message_happens, run_messages, message_opening, AreGiven}
use Rattle.llrp_session.specs.Calls.MessageWorld.{AreSendable}
use Rattle.llrp_session.proofs.SendableWorlds.{given_events, sent_up, sent_down}
use Rattle.llrp_session.proofs.MessagesAgree as messages
use Rattle.llrp_endpoints.specs.Sending.{AreFrames}
use Rattle.llrp_endpoints.specs.ByteWorld.{Way, ByteWorld, ByteEvent, Happens, ReadsUp, ReadsDown, Sends, Steps, Runs, apart, reader_hears, client_hears, byte_opening, IsGivenEvent, AreGivenEvents}
use Rattle.llrp_endpoints.specs.EndsAgree.{Schedule, IsGivenSchedule, RunsTo, AfterAllBytes, EachScheduleRuns, EachEventHappens, BytesAreMessages, IsARunOfMessages, NothingIsUnexpected, ViewIsTable, ViewCatchesUp, AreOnTheWay, ReportsArrive, ReportsAreKept, PendingIsOnTheWay, NothingIsPending, TablesArrive, AreOwn}
use Rattle.llrp_endpoints.proofs.SendingLemmas.{frames_none}
use Rattle.llrp_endpoints.proofs.FrameFronts.{no_messages, one_list}
use Rattle.llrp_endpoints.proofs.WaysOfMessages.{last_sendable, next_are_messages}
use Rattle.llrp_endpoints.proofs.ByteRuns.{IsInFrames, own, own_given, happens_behind, to_client, to_reader, client_after, reader_after, next_bytes, has_read, happens_stands, client_stands, reader_stands}
use Rattle.llrp_session.proofs.MessagesAgree.{is_taken_alike as taken_weaker}

-- ---- events of whole messages

run_more : (es fs : List WorldEvent) (w : MessageWorld) → run_messages (es ++ fs) w ≡ run_messages fs (run_messages es w)
run_more [] fs w = refl
run_more (e ∷ es) fs w = run_more es fs (message_happens w e)

given_more : (es fs : List WorldEvent) → AreGiven es → AreGiven fs → AreGiven (es ++ fs)
given_more [] fs g h = h
given_more (e ∷ es) fs g h = (g.0, given_more es fs g.1 h)

given_up : (now : ℕ) (ms : List MessageTree) → now < 2 ^ 64 → AreGiven (to_reader now ms)
given_up now [] g = tt
given_up now (m ∷ ms) g = (g, given_up now ms g)

given_down : (ms : List MessageTree) → AreGiven (to_client ms)
given_down [] = tt
given_down (m ∷ ms) = (tt, given_down ms)

-- ---- messages have frames

frame_of : (limit : ℕ) (m : MessageTree) → IsSendable limit m → Frame m (octets_at (message_octets m) (message_digits m)) MAX_LIMIT
frame_of limit m s =
    let n : ℕ = message_octets m in
    let long : length (message_digits m) ≡ 8 * n = length-message_digits m in
    let all : take (8 * n) (message_digits m) ≡ message_digits m = ap (take (8 * n)) (sym (append-nil (message_digits m))) ∙ take_at (message_digits m) [] (8 * n) long in
    let most = s.lawful.long in
    record {
      lawful = s.lawful;
      octets = are_octets_at n (message_digits m) (omega (arith, long));
      spelled = octets_spelled n (message_digits m) (omega (arith, long)) ∙ all;
      short = omega (arith, length-octets_at n (message_digits m), most);
    }

frames_of : (limit : ℕ) (ms : List MessageTree) → AreSendable limit ms → (text : List ℕ) × AreFrames ms text
frames_of limit [] s = ([], frames_none)
frames_of limit (m ∷ ms) s =
    let more = frames_of limit ms s.1 in
    let first : List ℕ = octets_at (message_octets m) (message_digits m) in
    (first ++ more.0, record { frames = first ∷ more.1.frames; each = (frame_of limit m s.0, more.1.each); whole = ap (λ (x : List ℕ). first ++ x) more.1.whole })

sends_of : (limit : ℕ) (said : List MessageTree) (old : Way) → AreSendable limit said → (new : Way) × Sends said old new
sends_of limit said old s =
    let text = frames_of limit said s in
    (record { read = old.read; coming = old.coming ++ text.0 }, record { read = refl; coming = record { text = text.0; frames = text.1; whole = refl } })

-- ---- from an opening whose messages may always be sent

abbrev MaySend : ℕ → MessageWorld → Type 0
MaySend limit start = (es : List WorldEvent) → AreGiven es → AreSendable limit (run_messages es start).up × AreSendable limit (run_messages es start).down

record Reached (start : MessageWorld) (w : ByteWorld) : Type 0 where
  events : List WorldEvent
  given : AreGiven events
  in_bytes : IsInFrames (run_messages events start) w
  up : IsPartial w.up.read
  down : IsPartial w.down.read

reach : (start : MessageWorld) (old new : ByteWorld) (r : Reached start old) (es : List WorldEvent) → AreGiven es → IsInFrames (run_messages es (run_messages r.events start)) new
    → IsPartial new.up.read → IsPartial new.down.read → Reached start new
reach start old new r es g h up down = record {
  events = r.events ++ es;
  given = given_more r.events es r.given g;
  up = up;
  down = down;
  in_bytes = subst (λ (m : MessageWorld). IsInFrames m new) (sym (run_more r.events es start)) h;
}

-- what is sent after leaves what was read
still : (old new : Way) (said : List MessageTree) → Sends said old new → IsPartial old.read → IsPartial new.read
still old new said s p = subst IsPartial (sym s.read) p

step_reached : (limit : ℕ) (start : MessageWorld) (may : MaySend limit start) (e : ByteEvent) (old new : ByteWorld) → IsGivenEvent e → Reached start old → Steps limit e old new → Reached start new
step_reached limit start may (Happens e) old new g r s =
    reach start old new r (own e) (own_given e g) (happens_stands e limit _ old new r.in_bytes s) (still old.up new.up _ s.1.0 r.up) (still old.down new.down _ s.1.1 r.down)
step_reached limit start may (ReadsUp now n) old new g r s =
    reach start old new r (to_reader now s.0) (given_up now s.0 g) (reader_stands limit now n _ old new (may r.events r.given).0 r.in_bytes s)
    s.1.0.unfinished (still old.down new.down _ s.1.1.1 r.down)
step_reached limit start may (ReadsDown n) old new g r s =
    reach start old new r (to_client s.0) (given_down s.0) (client_stands limit n _ old new (may r.events r.given).1 r.in_bytes s)
    (still old.up new.up _ s.1.1.1 r.up) s.1.0.unfinished

runs_reached : (limit : ℕ) (start : MessageWorld) (may : MaySend limit start) (es : List ByteEvent) (old new : ByteWorld) → AreGivenEvents es → Reached start old → Runs limit es old new → Reached start new
runs_reached limit start may [] old new g r s = subst (Reached start) (sym s) r
runs_reached limit start may (e ∷ es) old new g r s = runs_reached limit start may es s.0 new g.1 (step_reached limit start may e old s.0 g.0 r s.1.0) s.1.1

-- what events of whole messages would say may be sent
sendable_after : (limit : ℕ) (start : MessageWorld) (may : MaySend limit start) (old : ByteWorld) (r : Reached start old) (es : List WorldEvent) → AreGiven es
    → AreSendable limit (run_messages es (run_messages r.events start)).up × AreSendable limit (run_messages es (run_messages r.events start)).down
sendable_after limit start may old r es g =
    subst (λ (w : MessageWorld). AreSendable limit w.up × AreSendable limit w.down) (run_more r.events es start) (may (r.events ++ es) (given_more r.events es r.given g))

step_exists : (limit : ℕ) (start : MessageWorld) (may : MaySend limit start) (e : ByteEvent) (old : ByteWorld) → IsGivenEvent e → Reached start old → (new : ByteWorld) × Steps limit e old new
step_exists limit start may (Happens e) old g r =
    let m : MessageWorld = run_messages r.events start in
    let all = subst (λ (w : MessageWorld). AreSendable limit w.up × AreSendable limit w.down) (happens_behind e m) (sendable_after limit start may old r (own e) (own_given e g)) in
    let said : message_happens (apart m) e ≡ message_happens old.ends e = ap (λ (w : MessageWorld). message_happens w e) (sym r.in_bytes.ends) in
    let up = sends_of limit (message_happens old.ends e).up old.up (subst (λ (w : MessageWorld). AreSendable limit w.up) said (last_sendable limit m.up _ all.0)) in
    let down = sends_of limit (message_happens old.ends e).down old.down (subst (λ (w : MessageWorld). AreSendable limit w.down) said (last_sendable limit m.down _ all.1)) in
    (record { ends = apart (message_happens old.ends e); up = up.0; down = down.0 }, (refl, (up.1, down.1)))
step_exists limit start may (ReadsUp now n) old g r =
    let m : MessageWorld = run_messages r.events start in
    let p = next_bytes limit n m.up old.up (may r.events r.given).0 r.in_bytes.up in
    let all = subst (λ (w : MessageWorld). AreSendable limit w.down) (reader_after now p.first p.rest m p.parts) (sendable_after limit start may old r (to_reader now p.first) (given_up now p.first g)).1 in
    let said : reader_hears now p.first (apart m) ≡ reader_hears now p.first old.ends = ap (reader_hears now p.first) (sym r.in_bytes.ends) in
    let down = sends_of limit (reader_hears now p.first old.ends).down old.down (subst (λ (w : MessageWorld). AreSendable limit w.down) said (last_sendable limit m.down _ all)) in (
      record { ends = apart (reader_hears now p.first old.ends); up = record { read = p.front; coming = drop n old.up.coming }; down = down.0 },
      (p.first, (record { whole = p.whole; unfinished = p.unfinished; coming = refl }, (refl, down.1))),
    )
step_exists limit start may (ReadsDown n) old g r =
    let m : MessageWorld = run_messages r.events start in
    let p = next_bytes limit n m.down old.down (may r.events r.given).1 r.in_bytes.down in
    let all = subst (λ (w : MessageWorld). AreSendable limit w.up) (client_after p.first p.rest m p.parts) (sendable_after limit start may old r (to_client p.first) (given_down p.first)).0 in
    let said : client_hears p.first (apart m) ≡ client_hears p.first old.ends = ap (client_hears p.first) (sym r.in_bytes.ends) in
    let up = sends_of limit (client_hears p.first old.ends).up old.up (subst (λ (w : MessageWorld). AreSendable limit w.up) said (last_sendable limit m.up _ all)) in (
      record { ends = apart (client_hears p.first old.ends); up = up.0; down = record { read = p.front; coming = drop n old.down.coming } },
      (p.first, (record { whole = p.whole; unfinished = p.unfinished; coming = refl }, (refl, up.1))),
    )

runs_exist : (limit : ℕ) (start : MessageWorld) (may : MaySend limit start) (es : List ByteEvent) (old : ByteWorld) → AreGivenEvents es → Reached start old → (new : ByteWorld) × Runs limit es old new
runs_exist limit start may [] old g r = (old, refl)
runs_exist limit start may (e ∷ es) old g r =
    let one = step_exists limit start may e old g.0 r in
    let more = runs_exist limit start may es one.0 g.1 (step_reached limit start may e old one.0 g.0 r one.1) in
    (more.0, (one.0, (one.1, more.1)))

-- ---- the law

abbrev start_of : Schedule → MessageWorld
start_of s = message_opening s.limit s.reader_first s.client_first

may_send : (s : Schedule) → IsGivenSchedule s → MaySend s.limit (start_of s)
may_send s g es h = (sent_up s.limit s.reader_first s.client_first es g.least g.most g.first h, sent_down s.limit s.reader_first s.client_first es g.least g.most g.first h)

opened : (s : Schedule) → Reached (start_of s) (byte_opening s.limit s.reader_first s.client_first)
opened s = record { events = []; given = tt; in_bytes = record { ends = refl; up = frames_none; down = frames_none }; up = inl (omega arith); down = inl (omega arith) }

reached : (s : Schedule) (w : ByteWorld) → IsGivenSchedule s → RunsTo s w → Reached (start_of s) w
reached s w g r = runs_reached s.limit (start_of s) (may_send s g) s.events _ w g.events (opened s) r

pub goes_on : EachScheduleRuns
goes_on s g = runs_exist s.limit (start_of s) (may_send s g) s.events _ g.events (opened s)

pub each_event_happens : EachEventHappens
each_event_happens s w g r e given = step_exists s.limit (start_of s) (may_send s g) e w given (reached s w g r)

pub bytes_are_messages : BytesAreMessages
bytes_are_messages s w g r =
    let p = reached s w g r in
    let may = may_send s g p.events p.given in
    (next_are_messages s.limit _ w.up may.0 p.in_bytes.up, next_are_messages s.limit _ w.down may.1 p.in_bytes.down)

-- messages that may be sent are of the profile
own_of : (limit : ℕ) (ms : List MessageTree) → AreSendable limit ms → AreOwn ms
own_of limit [] s = tt
own_of limit (m ∷ ms) s = (s.0.own, own_of limit ms s.1)

pub is_a_run_of_messages : IsARunOfMessages
is_a_run_of_messages s w g r =
    let p = reached s w g r in
    let may = may_send s g p.events p.given in
    let m : MessageWorld = run_messages p.events (start_of s) in
    let up : AreOnTheWay m.up w.up = record { frames = p.in_bytes.up; own = own_of s.limit m.up may.0 } in
    let down : AreOnTheWay m.down w.down = record { frames = p.in_bytes.down; own = own_of s.limit m.down may.1 } in
    (p.events, (p.given, record { ends = p.in_bytes.ends; up = up; down = down }))

none_coming : (ms : List MessageTree) (way : Way) → AreFrames ms (way.read ++ way.coming) → IsPartial way.read → way.coming ≡ [] → ms ≡ []
none_coming ms way f p e = no_messages ms way.read (subst (AreFrames ms) (ap (λ (x : List ℕ). way.read ++ x) e ∙ append-nil way.read) f) p

first_taken : (heard rest : List MessageTree) (c : Client) → MessagesAreTaken (heard ++ rest) c → MessagesAreTaken heard c
first_taken [] rest c h = tt
first_taken (m ∷ heard) rest c h = taken_weaker (client_takes c m.id (heard_of m)) (MessagesAreTaken (heard ++ rest)) (MessagesAreTaken heard) (first_taken heard rest) h

pub nothing_is_unexpected : NothingIsUnexpected
nothing_is_unexpected s w g r n new heard reads =
    let p = reached s w g r in
    let m : MessageWorld = run_messages p.events (start_of s) in
    let way = has_read s.limit n m.down heard w.down new (may_send s g p.events p.given).1 p.in_bytes.down reads in
    let all : MessagesAreTaken (heard ++ way.rest) m.client = subst (λ (ms : List MessageTree). MessagesAreTaken ms m.client) way.parts (messages.nothing_is_unexpected s.limit s.reader_first s.client_first p.events (given_events p.events p.given)) in
    subst (λ (ends : MessageWorld). MessagesAreTaken heard ends.client) (sym p.in_bytes.ends) (first_taken heard way.rest m.client all)

pub view_is_table : AfterAllBytes ViewIsTable
view_is_table s w g r e =
    let p = reached s w g r in
    subst (λ (ends : MessageWorld). ends.client.view ≡ states ends.reader.table) (sym p.in_bytes.ends)
    (messages.view_is_table s.limit s.reader_first s.client_first p.events (given_events p.events p.given) (none_coming _ w.down p.in_bytes.down p.down e))

-- the reader is as it was
reader_kept : (ms : List MessageTree) (w : MessageWorld) → (client_hears ms w).reader ≡ w.reader
reader_kept [] w = refl
reader_kept (m ∷ ms) w = took_kept ms w (reader_kept ms) (client_takes w.client m.id (heard_of m))
  where
    took_kept : (ms : List MessageTree) (w : MessageWorld) → ((v : MessageWorld) → (client_hears ms v).reader ≡ v.reader) → (r : Result Taking Refusal)
        → (run_messages (to_client ms) (took r (record w { down = ms }))).reader ≡ w.reader
    took_kept ms w more (Err refusal) = more w
    took_kept ms w more (Ok k) = let then : MessageWorld = record w { client = k.client; up = w.up ++ map client_message k.sent; handed_out = w.handed_out ++ tags_handed_out k.taken; tables = w.tables ++ tables_shown k.taken; differing = w.differing ++ tables_differing k.taken } in more then

none_behind : (bytes : List ℕ) → drop (length bytes) bytes ≡ []
none_behind bytes = ap (drop (length bytes)) (sym (append-nil bytes)) ∙ drop_at bytes [] (length bytes) refl

-- one event more
run_one_more : (limit : ℕ) (e : ByteEvent) (es : List ByteEvent) (old mid new : ByteWorld) → Runs limit es old mid → Steps limit e mid new → Runs limit (es ++ e ∷ []) old new
run_one_more limit e [] old mid new r s = (new, (subst (λ (w : ByteWorld). Steps limit e w new) r s, refl))
run_one_more limit e (f ∷ es) old mid new r s = (r.0, (r.1.0, run_one_more limit e es r.0 mid new r.1.1 s))

given_one_more : (e : ByteEvent) (es : List ByteEvent) → AreGivenEvents es → IsGivenEvent e → AreGivenEvents (es ++ e ∷ [])
given_one_more e [] g h = (h, tt)
given_one_more e (f ∷ es) g h = (g.0, given_one_more e es g.1 h)

pub view_catches_up : ViewCatchesUp
view_catches_up s w new g r step =
    let e : ByteEvent = ReadsDown (length w.down.coming) in
    let longer : Schedule = record s { events = s.events ++ e ∷ [] } in
    let given : IsGivenSchedule longer = record { least = g.least; most = g.most; first = g.first; events = given_one_more e s.events g.events tt } in
    let run : RunsTo longer new = run_one_more s.limit e s.events _ w new r step in
    let same : new.ends.reader ≡ w.ends.reader = ap (λ (ends : MessageWorld). ends.reader) step.1.1.0 ∙ reader_kept step.0 w.ends in
    view_is_table longer new given run (step.1.0.coming ∙ none_behind w.down.coming) ∙ ap (λ (reader : Reader). states reader.table) same

-- the messages on a way are determined
same_way : (limit : ℕ) (a b : List MessageTree) (way : Way) → AreSendable limit a → AreFrames a (way.read ++ way.coming) → AreOnTheWay b way → a ≡ b
same_way limit a b way s p q = one_list a b p.frames q.frames.frames (own_of limit a s) q.own p.each q.frames.each (sym p.whole ∙ q.frames.whole)

pub reports_arrive : AfterAllBytes ReportsArrive
reports_arrive s w g r down is =
    let p = reached s w g r in
    let may = may_send s g p.events p.given in
    let m : MessageWorld = run_messages p.events (start_of s) in
    subst (λ (ends : MessageWorld). ends.handed_out ++ tags_in_messages down ≡ ends.reported) (sym p.in_bytes.ends)
    (subst (λ (ms : List MessageTree). m.handed_out ++ tags_in_messages ms ≡ m.reported) (same_way s.limit m.down down w.down may.1 p.in_bytes.down is)
    (messages.reports_arrive s.limit s.reader_first s.client_first p.events (given_events p.events p.given)))

pub reports_are_kept : AfterAllBytes ReportsAreKept
reports_are_kept s w g r down is =
    let p = reached s w g r in
    let may = may_send s g p.events p.given in
    let m : MessageWorld = run_messages p.events (start_of s) in
    subst (λ (ends : MessageWorld). (ends.handed_out ++ tags_in_messages down) ++ ends.reader.held ≡ ends.kept) (sym p.in_bytes.ends)
    (subst (λ (ms : List MessageTree). (m.handed_out ++ tags_in_messages ms) ++ m.reader.held ≡ m.kept) (same_way s.limit m.down down w.down may.1 p.in_bytes.down is)
    (messages.reports_are_kept s.limit s.reader_first s.client_first p.events (given_events p.events p.given)))

pub tables_arrive : AfterAllBytes TablesArrive
tables_arrive s w g r down is =
    let p = reached s w g r in
    let may = may_send s g p.events p.given in
    let m : MessageWorld = run_messages p.events (start_of s) in
    subst (λ (ends : MessageWorld). ends.tables ++ tables_in_messages down ≡ ends.listed) (sym p.in_bytes.ends)
    (subst (λ (ms : List MessageTree). m.tables ++ tables_in_messages ms ≡ m.listed) (same_way s.limit m.down down w.down may.1 p.in_bytes.down is)
    (messages.tables_arrive s.limit s.reader_first s.client_first p.events (given_events p.events p.given)))

pub none_differs : AfterAllBytes (λ w. NoneDiffers w.ends)
none_differs s w g r =
    let p = reached s w g r in
    subst NoneDiffers (sym p.in_bytes.ends) (messages.none_differs s.limit s.reader_first s.client_first p.events (given_events p.events p.given))

pub reader_has_history : AfterAllBytes (λ w. ReaderHasHistory w.ends)
reader_has_history s w g r =
    let p = reached s w g r in
    let h = messages.reader_has_history s.limit s.reader_first s.client_first p.events (given_events p.events p.given) in
    subst ReaderHasHistory (sym p.in_bytes.ends) (record { limit = h.limit; first_id = h.first_id; events = h.events; reader = h.reader; reported = h.reported; kept = h.kept })

pub one_active : AfterAllBytes (λ w. OneActive w.ends)
one_active s w g r =
    let p = reached s w g r in
    subst OneActive (sym p.in_bytes.ends) (messages.one_active s.limit s.reader_first s.client_first p.events (given_events p.events p.given))

pub pending_is_on_the_way : AfterAllBytes PendingIsOnTheWay
pending_is_on_the_way s w g r up down goes comes =
    let p = reached s w g r in
    let may = may_send s g p.events p.given in
    let m : MessageWorld = run_messages p.events (start_of s) in
    subst (λ (ends : MessageWorld). IsOnTheWay ends.client.pending up down) (sym p.in_bytes.ends)
    (subst (λ (ms : List MessageTree). IsOnTheWay m.client.pending ms down) (same_way s.limit m.up up w.up may.0 p.in_bytes.up goes)
    (subst (λ (ms : List MessageTree). IsOnTheWay m.client.pending m.up ms) (same_way s.limit m.down down w.down may.1 p.in_bytes.down comes)
    (messages.pending_is_on_the_way s.limit s.reader_first s.client_first p.events (given_events p.events p.given))))

pub nothing_is_pending : AfterAllBytes NothingIsPending
nothing_is_pending s w g r up down =
    let p = reached s w g r in
    subst (λ (ends : MessageWorld). ends.client.pending ≡ None) (sym p.in_bytes.ends)
    (messages.nothing_is_pending s.limit s.reader_first s.client_first p.events (given_events p.events p.given) (none_coming _ w.up p.in_bytes.up p.up up) (none_coming _ w.down p.in_bytes.down p.down down))
