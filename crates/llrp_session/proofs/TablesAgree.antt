-- The client never takes a table that differs from its view.
use Rattle.std.proofs.Common.{◌≡◌, ℕ, ◌≤◌, length, refl, sym, ◌∙◌, ap, subst, Bool, true, false, cond, List, [], ◌∷◌, ◌++◌, append_assoc}
use Rattle.std.specs.Prelude.{◌==◌, Option, None, Some, is_some, Result, Ok, Err}
use Rattle.llrp_tree.specs.Tree.{Tree}
use Rattle.llrp_session.specs.Table.{Entry, RoState, states, listing}
use Rattle.llrp_session.specs.Calls.Table.{IsRising}
use Rattle.llrp_session.specs.Contents.{ReaderContent, Response, Listed, Error, Report, KeepaliveSent, Accepted, Started, Ended, Overflowed, ReaderMessage, Operation, Adding, Deleting, Starting, Stopping, Enabling, Disabling, Listing, Configuring, Closing, RoSpecChange, Heard, HeardResponse, HeardError, HeardReport, HeardKeepalive, HeardNotification, HeardOther, GetRoSpecs, Command, Add, Delete, Start, Stop, Enable, Disable, GetRospecs, SetKeepalive, GetReport, Close, ClientContent, Asks, Acknowledges, ClientMessage, request}
use Rattle.llrp_session.specs.Calls.Contents.{heard}
use Rattle.llrp_session.specs.Refusal.{Refusal, Busy, OverLimit, IdsSpent}
use Rattle.llrp_session.specs.ReaderMachine.{Reader, Turn, ReaderPhase, Waiting, Up, Down, ReaderEvent, Connect, Take, TakeBad, Seen, Tick, next, next_in, serve}
use Rattle.llrp_session.specs.Sightings.{kept_by}
use Rattle.llrp_session.specs.ClientMachine.{Client, ClientPhase, Fresh, Ready, Closed, Connected, Refused, Reply, Table, Differs, Pending, Taking, take, take_in, take_response, answered, failed, notified, attempted, event_of, unexpected, is_response_to, is_view, takes, cleared, closed, listed, sending, command, sent_unless, refused_in, is_over_limit, are_spent}
use Rattle.llrp_session.specs.Calls.World.{World, happens, opening, stepped, commanded, word_took, delivered_up, delivered_down, reader_does}
use Rattle.llrp_session.specs.World.{WorldEvent, Connects, Commands, DeliversUp, DeliversDown, Sees, Ticks, table_heard, listed_for, listed_in, listed_by, tables_shown, tables_differing}
use Rattle.llrp_session.specs.Calls.Agreement.{taken_in, and_then, is_response, responses, tables_of}
use Rattle.llrp_session.proofs.TakingIn.{settled}
use Rattle.llrp_session.proofs.Orderly.{IsOrderly}
use Rattle.llrp_session.proofs.Keeping.{KeptNext, kept-next, tables_of-append}
use Rattle.llrp_session.proofs.ListedViews.{listing_is_view}

-- the tables that were shown are these, and none differs
pub record Shows (ts : List (List Tree)) (k : Taking) : Type 0 where
  pub shown : tables_shown k.taken ≡ ts
  pub none : tables_differing k.taken ≡ []

abbrev pub ShowsThen : List (List Tree) → (Client → Type 0) → Result Taking Refusal → Type 0
ShowsThen ts P (Err refusal) = Unit {0}
ShowsThen ts P (Ok k) = Shows ts k × P k.client

-- the client takes each table in these messages for its view
abbrev pub ShowsAll : List ReaderMessage → Client → Type 0
ShowsAll [] c = Unit {0}
ShowsAll (m ∷ ms) c = ShowsThen (table_heard (heard m.word)) (ShowsAll ms) (take c m.id (heard m.word))

-- ---- messages without a table

abbrev Quiet : (Client → Type 0) → Result Taking Refusal → Type 0
Quiet P r = ((c : Client) → P c) → ShowsThen [] P r

quiet_if : (P : Client → Type 0) (b : Bool) (x y : Result Taking Refusal) → Quiet P x → Quiet P y → Quiet P (cond b x y)
quiet_if P true x y h g = h
quiet_if P false x y h g = g

shows_none : (k : Taking) → tables_shown k.taken ≡ [] → tables_differing k.taken ≡ [] → Shows [] k
shows_none k s d = record { shown = s; none = d }

-- a response to GET_ROSPECS that lists no table
quiet_listed : (P : Client → Type 0) (c : Client) (status : ℕ) (ts : List Tree) → (cond (status == 0) (ts ∷ []) [] ≡ []) → Quiet P (listed c status ts)
quiet_listed P c status ts e all =
    elim (status == 0) as (λ b. (status == 0) ≡ b → cond b (ts ∷ []) [] ≡ [] → ShowsThen [] P (takes (cond b (cond (is_view ts c.view) (Table ts) (Differs ts)) (Reply status)) (cleared c))) [
      | true ↦ λ z g. cc
      | false ↦ λ z g. (shows_none _ refl refl, all (cleared c))
    ] refl e

quiet_response : (P : Client → Type 0) (operation : Operation) (c : Client) (p : Pending) (status : ℕ) (ts : List Tree) → table_heard (HeardResponse operation status ts) ≡ [] → Quiet P (take_response operation c p status ts)
quiet_response P Adding c p status ts e all = (shows_none _ refl refl, all _)
quiet_response P Deleting c p status ts e all = (shows_none _ refl refl, all _)
quiet_response P Starting c p status ts e all = (shows_none _ refl refl, all _)
quiet_response P Stopping c p status ts e all = (shows_none _ refl refl, all _)
quiet_response P Enabling c p status ts e all = (shows_none _ refl refl, all _)
quiet_response P Disabling c p status ts e all = (shows_none _ refl refl, all _)
quiet_response P Configuring c p status ts e all = (shows_none _ refl refl, all _)
quiet_response P Closing c p status ts e all = (shows_none _ refl refl, all _)
quiet_response P Listing c p status ts e all = quiet_listed P c status ts e all

quiet_answered : (P : Client → Type 0) (o : Option Pending) (c : Client) (id : ℕ) (operation : Operation) (status : ℕ) (ts : List Tree) → table_heard (HeardResponse operation status ts) ≡ []
    → Quiet P (answered o c id operation status ts)
quiet_answered P None c id operation status ts e all = tt
quiet_answered P (Some p) c id operation status ts e all = quiet_if P (is_response_to p id operation) (take_response operation c p status ts) unexpected (quiet_response P operation c p status ts e) (λ a. tt) all

quiet_failed : (P : Client → Type 0) (o : Option Pending) (c : Client) (id status : ℕ) → Quiet P (failed o c id status)
quiet_failed P None c id status all = tt
quiet_failed P (Some p) c id status all = quiet_if P (p.id == id) (takes (Reply status) (cleared c)) unexpected (λ a. (shows_none _ refl refl, a _)) (λ a. tt) all

quiet_event : (o : Option RoState) (e : RoSpecChange) → (tables_shown (event_of o e) ≡ []) × (tables_differing (event_of o e) ≡ [])
quiet_event None e = (refl, refl)
quiet_event (Some s) e = (refl, refl)

quiet_notified : (P : Client → Type 0) (c : Client) (closes : Bool) (e : Option RoSpecChange) → Quiet P (notified c closes e)
quiet_notified P c true e all = (shows_none _ refl refl, all _)
quiet_notified P c false None all = (shows_none _ refl refl, all _)
quiet_notified P c false (Some e) all = let q = quiet_event _ e in (shows_none _ q.0 q.1, all _)

quiet_attempted : (P : Client → Type 0) (c : Client) (o : Option ℕ) → Quiet P (attempted c o)
quiet_attempted P c None all = tt
quiet_attempted P c (Some status) all = quiet_if P (status == 0) (takes Connected (record c { phase = Ready })) (takes (Refused status) (closed c)) (λ a. (shows_none _ refl refl, a _)) (λ a. (shows_none _ refl refl, a _)) all

quiet_in : (P : Client → Type 0) (ph : ClientPhase) (c : Client) (id : ℕ) (h : Heard) → table_heard h ≡ [] → Quiet P (take_in ph c id h)
quiet_in P Closed c id h e all = tt
quiet_in P Fresh c id (HeardResponse operation status ts) e all = tt
quiet_in P Fresh c id (HeardError status) e all = tt
quiet_in P Fresh c id (HeardReport tags) e all = tt
quiet_in P Fresh c id HeardKeepalive e all = tt
quiet_in P Fresh c id (HeardNotification n) e all = quiet_attempted P c n.attempt all
quiet_in P Fresh c id HeardOther e all = tt
quiet_in P Ready c id (HeardResponse operation status ts) e all = quiet_answered P c.pending c id operation status ts e all
quiet_in P Ready c id (HeardError status) e all = quiet_failed P c.pending c id status all
quiet_in P Ready c id (HeardReport tags) e all = (shows_none _ refl refl, all _)
quiet_in P Ready c id HeardKeepalive e all = (shows_none _ refl refl, all _)
quiet_in P Ready c id (HeardNotification n) e all = quiet_notified P c n.closes n.rospec all
quiet_in P Ready c id HeardOther e all = tt

quiet_take : (P : Client → Type 0) (c : Client) (id : ℕ) (h : Heard) → table_heard h ≡ [] → Quiet P (take c id h)
unfolding take
quiet_take P c id h e all = quiet_in P c.phase c id h e all

none_before : (xs ys : List (List Tree)) → xs ++ ys ≡ [] → (xs ≡ []) × (ys ≡ [])
none_before [] ys e = (refl, e)
none_before (x ∷ xs) ys e = cc

pub quiet_all : (ms : List ReaderMessage) (c : Client) → tables_of ms ≡ [] → ShowsAll ms c
unfolding tables_of
quiet_all [] c e = tt
quiet_all (m ∷ ms) c e =
    let none = none_before (table_heard (heard m.word)) (tables_of ms) e in
    subst (λ (ts : List (List Tree)). ShowsThen ts (ShowsAll ms) (take c m.id (heard m.word))) (sym none.0)
    (quiet_take (ShowsAll ms) c m.id (heard m.word) none.0 (λ d. quiet_all ms d none.1))

-- ---- the reader's table

-- a client that has the table's states takes it for its view
table_shown : (P : Client → Type 0) (ph : ClientPhase) (c : Client) (id : ℕ) (table : List Entry) → is_view (listing table) c.view ≡ true → ((d : Client) → P d)
    → ShowsThen (listing table ∷ []) P (take_in ph c id (heard (Listed table)))
table_shown P Closed c id table e all = tt
table_shown P Fresh c id table e all = tt
table_shown P Ready c id table e all =
    elim (c.pending) as (λ o. ShowsThen (listing table ∷ []) P (answered o c id Listing 0 (listing table))) [
      | None ↦ tt
      | Some p ↦ elim (is_response_to p id Listing) as (λ b. ShowsThen (listing table ∷ []) P (cond b (listed c 0 (listing table)) unexpected)) [
        | true ↦ elim (is_view (listing table) c.view) as (λ b. b ≡ true → ShowsThen (listing table ∷ []) P (takes (cond b (Table (listing table)) (Differs (listing table))) (cleared c))) [
          | true ↦ λ g. (record { shown = refl; none = refl }, all _)
          | false ↦ λ g. cc
        ] e
        | false ↦ tt
      ]
    ]

table_taken : (c : Client) (m : ReaderMessage) (table : List Entry) → m.word ≡ Listed table → c.view ≡ states table → IsRising table → ShowsAll (m ∷ []) c
unfolding take
table_taken c m table w v rising =
    subst (λ (word : ReaderContent). ShowsThen (table_heard (heard word)) (ShowsAll []) (take c m.id (heard word))) (sym w)
    (table_shown (ShowsAll []) c.phase c m.id table (ap (is_view (listing table)) v ∙ listing_is_view table rising) (λ d. tt))

-- ---- messages one after another

shows-append : (xs ys : List ReaderMessage) (c d : Client) → taken_in xs c ≡ Some d → ShowsAll xs c → ShowsAll ys d → ShowsAll (xs ++ ys) c
shows-append [] ys c d e h g = let same : c ≡ d = cc in subst (ShowsAll ys) (sym same) g
shows-append (m ∷ ms) ys c d e h g =
    elim (take c m.id (heard m.word)) as (λ r. and_then r (taken_in ms) ≡ Some d → ShowsThen (table_heard (heard m.word)) (ShowsAll ms) r → ShowsThen (table_heard (heard m.word)) (ShowsAll (ms ++ ys)) r) [
      | Err refusal ↦ λ i s. tt
      | Ok k ↦ λ i s. (s.0, shows-append ms ys k.client d i s.1 g)
    ] e h

-- ---- the world

pub record TablesAgree (w : World) : Type 0 where
  pub tables : w.tables ++ tables_of w.down ≡ w.listed
  pub none : w.differing ≡ []
  pub shows : ShowsAll w.down w.client

abbrev NextShows : Client → Result Turn Refusal → Type 0
NextShows c (Err refusal) = Unit {0}
NextShows c (Ok t) = ShowsAll t.sent c

-- a step of the reader, by what it lists and what of that the client that caught up is shown
agree-stepped : (w : World) (c : Client) (n : Result Turn Refusal) (reports : List Tree) (d : ℕ) (kept : List Tree) (ls : List (List Tree)) → taken_in w.down w.client ≡ Some c → KeptNext reports d ls n → NextShows c n
    → TablesAgree w → TablesAgree (stepped n kept ls w)
agree-stepped w c (Err refusal) reports d kept ls caught_up k s h = h
agree-stepped w c (Ok t) reports d kept ls caught_up k s h =
    record {
      tables = ap (λ ts. w.tables ++ ts) (tables_of-append w.down t.sent) ∙ sym (append_assoc w.tables (tables_of w.down) (tables_of t.sent)) ∙ ap (λ ts. ts ++ tables_of t.sent) h.tables ∙ ap (λ ts. w.listed ++ ts) k.tables;
      none = h.none;
      shows = shows-append w.down t.sent w.client c caught_up h.shows s;
    }

-- a step that lists nothing
next_quiet : (c : Client) (reports : List Tree) (d : ℕ) (n : Result Turn Refusal) (ls : List (List Tree)) → ls ≡ [] → KeptNext reports d ls n → NextShows c n
next_quiet c reports d (Err refusal) ls e k = tt
next_quiet c reports d (Ok t) ls e k = quiet_all t.sent c (k.tables ∙ e)

-- GET_ROSPECS
next_lists : (c : Client) (ph : ReaderPhase) (now v id : ℕ) (r : Reader) → c.view ≡ states r.table → IsRising r.table → NextShows c (next_in ph now (Take v id GetRoSpecs) r)
unfolding serve
next_lists c Up now v id r view rising = table_taken c (record { version = v; id = id; word = Listed r.table }) r.table refl view rising
next_lists c Waiting now v id r view rising = tt
next_lists c Down now v id r view rising = tt

-- what the reader is, and how far the client that takes all is
pub record Knows (w : World) (c : Client) : Type 0 where
  pub caught_up : taken_in w.down w.client ≡ Some c
  pub view : c.view ≡ states w.reader.table
  pub most : length w.reader.held ≤ 64
  pub table : IsOrderly w.reader.table

agree-quiet : (w : World) (c : Client) (now : ℕ) (e : ReaderEvent) → listed_by e w.reader ≡ [] → Knows w c → TablesAgree w → TablesAgree (reader_does now e w)
agree-quiet w c now e none k h =
    let n = kept-next now e w.reader k.most k.table in
    agree-stepped w c (next now e w.reader) _ _ (kept_by now e w.reader) (listed_by e w.reader) k.caught_up n (next_quiet c _ _ (next now e w.reader) (listed_by e w.reader) none n) h

agree-lists : (w : World) (c : Client) (now v id : ℕ) → Knows w c → TablesAgree w → TablesAgree (reader_does now (Take v id GetRoSpecs) w)
unfolding next
agree-lists w c now v id k h =
    let e : ReaderEvent = Take v id GetRoSpecs in
    agree-stepped w c (next now e w.reader) _ _ (kept_by now e w.reader) (listed_by e w.reader) k.caught_up (kept-next now e w.reader k.most k.table) (next_lists c w.reader.phase now v id w.reader k.view k.table.rising) h

-- an event at which no table is listed
abbrev IsQuiet : ReaderEvent → Type 0
IsQuiet (Take v id q) = (r : Reader) → listed_for q r ≡ []
IsQuiet _ = Unit {0}

unlisted : (ph : ReaderPhase) (e : ReaderEvent) (r : Reader) → IsQuiet e → listed_in ph e r ≡ []
unlisted Up Connect r h = refl
unlisted Up (Seen g) r h = refl
unlisted Up Tick r h = refl
unlisted Up (TakeBad id reason) r h = refl
unlisted Up (Take v id q) r h = h r
unlisted Waiting e r h = refl
unlisted Down e r h = refl

agree-word : (w : World) (c : Client) (now id : ℕ) (word : ClientContent) → Knows w c → TablesAgree w → TablesAgree (reader_does now (Take 1 id (request word)) w)
agree-word w c now id (Asks GetRospecs) k h = agree-lists w c now 1 id k h
agree-word w c now id (Asks (Add spec)) k h = agree-quiet w c now _ (unlisted w.reader.phase (Take 1 id (request (Asks (Add spec)))) w.reader (λ r. refl)) k h
agree-word w c now id (Asks (Delete n)) k h = agree-quiet w c now _ (unlisted w.reader.phase (Take 1 id (request (Asks (Delete n)))) w.reader (λ r. refl)) k h
agree-word w c now id (Asks (Start n)) k h = agree-quiet w c now _ (unlisted w.reader.phase (Take 1 id (request (Asks (Start n)))) w.reader (λ r. refl)) k h
agree-word w c now id (Asks (Stop n)) k h = agree-quiet w c now _ (unlisted w.reader.phase (Take 1 id (request (Asks (Stop n)))) w.reader (λ r. refl)) k h
agree-word w c now id (Asks (Enable n)) k h = agree-quiet w c now _ (unlisted w.reader.phase (Take 1 id (request (Asks (Enable n)))) w.reader (λ r. refl)) k h
agree-word w c now id (Asks (Disable n)) k h = agree-quiet w c now _ (unlisted w.reader.phase (Take 1 id (request (Asks (Disable n)))) w.reader (λ r. refl)) k h
agree-word w c now id (Asks (SetKeepalive n)) k h = agree-quiet w c now _ (unlisted w.reader.phase (Take 1 id (request (Asks (SetKeepalive n)))) w.reader (λ r. refl)) k h
agree-word w c now id (Asks GetReport) k h = agree-quiet w c now _ (unlisted w.reader.phase (Take 1 id (request (Asks GetReport))) w.reader (λ r. refl)) k h
agree-word w c now id (Asks Close) k h = agree-quiet w c now _ (unlisted w.reader.phase (Take 1 id (request (Asks Close))) w.reader (λ r. refl)) k h
agree-word w c now id Acknowledges k h = agree-quiet w c now _ (unlisted w.reader.phase (Take 1 id (request Acknowledges)) w.reader (λ r. refl)) k h

agree-up : (w : World) (c : Client) (now : ℕ) (ms : List ClientMessage) → Knows w c → TablesAgree w → TablesAgree (delivered_up now ms w)
agree-up w c now [] k h = h
agree-up w c now (m ∷ ms) k h =
    agree-word (record w { up = ms }) c now m.id m.word (record { caught_up = k.caught_up; view = k.view; most = k.most; table = k.table }) (record { tables = h.tables; none = h.none; shows = h.shows })

-- ---- the client takes a message

agree-down : (w : World) (c : Client) (ms : List ReaderMessage) → w.down ≡ ms → Knows w c → TablesAgree w → TablesAgree (delivered_down ms w)
unfolding tables_of
agree-down w c [] is k h = h
agree-down w c (m ∷ ms) is k h =
    let shows : ShowsAll (m ∷ ms) w.client = subst (λ (d : List ReaderMessage). ShowsAll d w.client) is h.shows in
    let taken : taken_in (m ∷ ms) w.client ≡ Some c = ap (λ (d : List ReaderMessage). taken_in d w.client) (sym is) ∙ k.caught_up in
    elim (take w.client m.id (heard m.word)) as (λ r. and_then r (taken_in ms) ≡ Some c → ShowsThen (table_heard (heard m.word)) (ShowsAll ms) r → TablesAgree (word_took r (record w { down = ms }))) [
      | Err refusal ↦ λ e s. cc
      | Ok t ↦ λ e s.
          record {
            tables = append_assoc w.tables (tables_shown t.taken) (tables_of ms) ∙ ap (λ ts. w.tables ++ (ts ++ tables_of ms)) s.0.shown ∙ ap (λ (d : List ReaderMessage). w.tables ++ tables_of d) (sym is) ∙ h.tables;
            none = ap (λ ts. ts ++ tables_differing t.taken) h.none ∙ s.0.none;
            shows = s.1;
          }
    ] taken shows

-- ---- the client sends a command

word_quiet : (word : ReaderContent) → is_response word ≡ false → table_heard (heard word) ≡ []
word_quiet (Response operation status) e = cc
word_quiet (Listed table) e = cc
word_quiet (Error status) e = refl
word_quiet (Report tags) e = refl
word_quiet KeepaliveSent e = refl
word_quiet (Accepted now) e = refl
word_quiet (Started now id) e = refl
word_quiet (Ended now id) e = refl
word_quiet (Overflowed now) e = refl

no_tables : (ms : List ReaderMessage) → responses ms ≡ [] → tables_of ms ≡ []
unfolding responses tables_of
no_tables [] e = refl
no_tables (m ∷ ms) e =
    elim (is_response m.word) as (λ b. is_response m.word ≡ b → cond b (m.id ∷ responses ms) (responses ms) ≡ [] → table_heard (heard m.word) ++ tables_of ms ≡ []) [
      | true ↦ λ i g. cc
      | false ↦ λ i g. ap (λ ts. ts ++ tables_of ms) (word_quiet m.word i) ∙ no_tables ms g
    ] refl e

agree-sent : (w : World) (c : Client) (k : Command) → w.client.pending ≡ None → Knows w c → TablesAgree w → TablesAgree (commanded (Ok (sending w.client k)) w)
agree-sent w c k none knows h =
    let s = settled w.down w.client c none knows.caught_up in
    record { tables = h.tables; none = h.none; shows = quiet_all w.down (sending w.client k).client (no_tables w.down s.no_responses) }

abbrev sent_where : World → Command → Option Refusal → World
sent_where w k refusal = commanded (sent_unless refusal w.client k) w

agree-commands : (w : World) (c : Client) (k : Command) → Knows w c → TablesAgree w → TablesAgree (commanded (command w.client k) w)
unfolding command
agree-commands w c k knows h =
    elim (w.client.phase) as (λ ph. TablesAgree (sent_where w k (refused_in ph w.client k))) [
      | Fresh ↦ h
      | Closed ↦ h
      | Ready ↦ elim (w.client.pending) as (λ o. w.client.pending ≡ o → TablesAgree (sent_where w k (cond (is_some o) (Some Busy) (cond (is_over_limit w.client.limit k) (Some OverLimit) (cond (are_spent w.client.next_id) (Some IdsSpent) None))))) [
        | Some p ↦ λ e. h
        | None ↦ λ e. elim (is_over_limit w.client.limit k) as (λ b. TablesAgree (sent_where w k (cond b (Some OverLimit) (cond (are_spent w.client.next_id) (Some IdsSpent) None)))) [
          | true ↦ h
          | false ↦ elim (are_spent w.client.next_id) as (λ b. TablesAgree (sent_where w k (cond b (Some IdsSpent) None))) [ true ↦ h | false ↦ agree-sent w c k e knows h ]
        ]
      ] refl
    ]

-- ---- every event

pub agree-happens : (w : World) (c : Client) (e : WorldEvent) → Knows w c → TablesAgree w → TablesAgree (happens w e)
agree-happens w c (Connects now) k h = agree-quiet w c now Connect (unlisted w.reader.phase Connect w.reader tt) k h
agree-happens w c (Commands asked) k h = agree-commands w c asked k h
agree-happens w c (DeliversUp now) k h = agree-up w c now w.up k h
agree-happens w c DeliversDown k h = agree-down w c w.down refl k h
agree-happens w c (Sees now g) k h = agree-quiet w c now (Seen g) (unlisted w.reader.phase (Seen g) w.reader tt) k h
agree-happens w c (Ticks now) k h = agree-quiet w c now Tick (unlisted w.reader.phase Tick w.reader tt) k h

pub agree-opening : (limit reader_first client_first : ℕ) → TablesAgree (opening limit reader_first client_first)
unfolding tables_of
agree-opening limit r c = record { tables = refl; none = refl; shows = tt }
