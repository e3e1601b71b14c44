-- The world in which messages are on the way runs as the world in which words are.
use Rattle.std.proofs.Common.{◌≡◌, ℕ, List, [], ◌∷◌, ◌++◌, refl, ap, ◌∙◌}
use Rattle.std.specs.Prelude.{map, Result, Ok, Err, Option, None, Some, if◌then◌else◌, Bool, true, false, ◌==◌}
use Rattle.std.proofs.lemmas.List.{map-append}
use Rattle.llrp_tree.specs.Tree.{Tree}
use Rattle.llrp_session.specs.Contents.{Operation, Adding, Deleting, Starting, Stopping, Enabling, Disabling, Listing, Configuring, Closing, Request, RoSpecChange, Command, Response, Listed, Error, Report, KeepaliveSent, Accepted, Started, Ended, Overflowed, ReaderContent, ReaderMessage, ClientMessage, request, Heard, HeardResponse, HeardError, HeardReport, HeardKeepalive, HeardNotification, HeardOther}
use Rattle.llrp_session.specs.Calls.Contents.{heard}
use Rattle.llrp_session.specs.Refusal.{Refusal}
use Rattle.llrp_session.specs.ReaderMachine.{Turn, ReaderEvent, Connect, Take, Seen, Tick, next}
use Rattle.llrp_session.specs.Sightings.{tags_in, tags_of, kept_by}
use Rattle.llrp_session.specs.ClientMachine.{Client, ClientPhase, Fresh, Ready, Closed, Pending, Connected, Refused, Reply, Sending, Taking, command, take, sent_unless, refused_in, take_response, replied, granted, answered, unexpected, is_response_to, failed, takes, cleared, closed, notified, attempted, take_in}
use Rattle.llrp_session.specs.Calls.World as words
use Rattle.llrp_session.specs.Calls.Agreement.{tables_of}
use Rattle.llrp_session.specs.Calls.World.{World, run, opening}
use Rattle.llrp_session.specs.World.{table_heard, listed_by, WorldEvent, Connects, Commands, DeliversUp, DeliversDown, Sees, Ticks}
use Rattle.llrp_session.specs.ReaderMessages.{reader_message}
use Rattle.llrp_session.specs.ClientMessages.{client_message}
use Rattle.llrp_session.specs.Reading.{heard_of}
use Rattle.llrp_session.specs.Calls.LawfulWords.{AddsRoSpec, SaysRoSpec}
use Rattle.llrp_session.specs.MessageWorld.{tags_heard, tags_in_messages, tables_in_messages, stepped, reader_does, commanded, took, delivered_up, delivered_down, message_happens, run_messages, message_opening}
use Rattle.llrp_session.specs.Calls.MessageWorld.{in_messages, IsOfRoSpecs, AreOfRoSpecs}
use Rattle.llrp_session.proofs.MessageReading.{heard_back, request_back}

-- ---- the TagReportData in messages are those of the words

word_tags : (word : ReaderContent) → tags_heard (heard word) ≡ tags_in word
word_tags (Response operation status) = refl
word_tags (Listed table) = refl
word_tags (Error status) = refl
word_tags (Report tags) = refl
word_tags KeepaliveSent = refl
word_tags (Accepted now) = refl
word_tags (Started now id) = refl
word_tags (Ended now id) = refl
word_tags (Overflowed now) = refl

pub same_tags : (ms : List ReaderMessage) → tags_in_messages (map reader_message ms) ≡ tags_of ms
unfolding tags_in_messages tags_of
same_tags [] = refl
same_tags (m ∷ ms) =
    let here : tags_heard (heard_of (reader_message m)) ≡ tags_in m.word = ap tags_heard (heard_back m) ∙ word_tags m.word in
    ap (λ (ts : List Tree). ts ++ tags_in_messages (map reader_message ms)) here ∙ ap (λ (ts : List Tree). tags_in m.word ++ ts) (same_tags ms)

pub same_tables : (ms : List ReaderMessage) → tables_in_messages (map reader_message ms) ≡ tables_of ms
unfolding tables_in_messages tables_of
same_tables [] = refl
same_tables (m ∷ ms) = ap (λ (h : Heard). table_heard h ++ tables_in_messages (map reader_message ms)) (heard_back m) ∙ ap (λ (ts : List (List Tree)). table_heard (heard m.word) ++ ts) (same_tables ms)

-- ---- a step of the reader

stepped_alike : (r : Result Turn Refusal) (kept : List Tree) (listed : List (List Tree)) (w : World) → stepped r kept listed (in_messages w) ≡ in_messages (words.stepped r kept listed w)
stepped_alike (Err refusal) kept listed w = refl
stepped_alike (Ok t) kept listed w = rw (map-append reader_message w.down t.sent) (rw (same_tags t.sent) refl)

does_alike : (now : ℕ) (e : ReaderEvent) (w : World) → reader_does now e (in_messages w) ≡ in_messages (words.reader_does now e w)
does_alike now e w = stepped_alike (next now e w.reader) (kept_by now e w.reader) (listed_by e w.reader) w

-- ---- a step of the client

commanded_alike : (r : Result Sending Refusal) (w : World) → commanded r (in_messages w) ≡ in_messages (words.commanded r w)
commanded_alike (Err refusal) w = refl
commanded_alike (Ok s) w = rw (map-append client_message w.up (s.message ∷ [])) refl

took_alike : (r : Result Taking Refusal) (w : World) → took r (in_messages w) ≡ in_messages (words.word_took r w)
took_alike (Err refusal) w = refl
took_alike (Ok k) w = rw (map-append client_message w.up k.sent) refl

-- ---- the words on the way up

-- each ROSpec that is added is a ROSpec
abbrev pub AllSay : List ClientMessage → Type 0
AllSay [] = Unit {0}
AllSay (m ∷ ms) = SaysRoSpec m.word × AllSay ms

all_say-append : (xs ys : List ClientMessage) → AllSay xs → AllSay ys → AllSay (xs ++ ys)
all_say-append [] ys h g = g
all_say-append (x ∷ xs) ys h g = (h.0, all_say-append xs ys h.1 g)

stepped_says : (r : Result Turn Refusal) (kept : List Tree) (listed : List (List Tree)) (w : World) → AllSay w.up → AllSay (words.stepped r kept listed w).up
stepped_says (Err refusal) kept listed w h = h
stepped_says (Ok t) kept listed w h = h

does_says : (now : ℕ) (e : ReaderEvent) (w : World) → AllSay w.up → AllSay (words.reader_does now e w).up
does_says now e w h = stepped_says (next now e w.reader) (kept_by now e w.reader) (listed_by e w.reader) w h

sent_says : (r : Option Refusal) (k : Command) (w : World) → AddsRoSpec k → AllSay w.up → AllSay (words.commanded (sent_unless r w.client k) w).up
sent_says None k w a h = all_say-append w.up _ h (a, tt)
sent_says (Some refusal) k w a h = h

commanded_says : (k : Command) (w : World) → AddsRoSpec k → AllSay w.up → AllSay (words.commanded (command w.client k) w).up
unfolding command
commanded_says k w a h = sent_says (refused_in w.client.phase w.client k) k w a h

-- a client that takes a message adds no ROSpec, and keeps its limit
abbrev pub Says : Client → Result Taking Refusal → Type 0
Says c (Err refusal) = Unit {0}
Says c (Ok k) = AllSay k.sent × (k.client.limit ≡ c.limit)

says_if : (c : Client) (b : Bool) (x y : Result Taking Refusal) → Says c x → Says c y → Says c (if b then x else y)
says_if c true x y h g = h
says_if c false x y h g = g

same_limit : (limit : ℕ) (b : Bool) (x y : Client) → x.limit ≡ limit → y.limit ≡ limit → (if b then x else y).limit ≡ limit
same_limit limit true x y h g = h
same_limit limit false x y h g = g

says_replied : (c : Client) (p : Pending) (status : ℕ) → Says c (replied c p status)
says_replied c p status = (tt, same_limit c.limit (status == 0) (record c { pending = None; view = granted p.operation p.rospec c.view }) (cleared c) refl refl)

says_response : (operation : Operation) (c : Client) (p : Pending) (status : ℕ) (ts : List Tree) → Says c (take_response operation c p status ts)
says_response Adding c p status ts = says_replied c p status
says_response Deleting c p status ts = says_replied c p status
says_response Starting c p status ts = says_replied c p status
says_response Stopping c p status ts = says_replied c p status
says_response Enabling c p status ts = says_replied c p status
says_response Disabling c p status ts = says_replied c p status
says_response Configuring c p status ts = says_replied c p status
says_response Closing c p status ts = (tt, refl)
says_response Listing c p status ts = (tt, refl)

says_answered : (pending : Option Pending) (c : Client) (id : ℕ) (operation : Operation) (status : ℕ) (ts : List Tree) → Says c (answered pending c id operation status ts)
says_answered None c id operation status ts = tt
says_answered (Some p) c id operation status ts = says_if c (is_response_to p id operation) (take_response operation c p status ts) unexpected (says_response operation c p status ts) tt

says_failed : (pending : Option Pending) (c : Client) (id status : ℕ) → Says c (failed pending c id status)
says_failed None c id status = tt
says_failed (Some p) c id status = says_if c (p.id == id) (takes (Reply status) (cleared c)) unexpected (tt, refl) tt

says_notified : (c : Client) (closes : Bool) (e : Option RoSpecChange) → Says c (notified c closes e)
says_notified c true e = (tt, refl)
says_notified c false None = (tt, refl)
says_notified c false (Some e) = (tt, refl)

says_attempted : (c : Client) (status : Option ℕ) → Says c (attempted c status)
says_attempted c None = tt
says_attempted c (Some status) = says_if c (status == 0) (takes Connected (record c { phase = Ready })) (takes (Refused status) (closed c)) (tt, refl) (tt, refl)

says_in : (phase : ClientPhase) (c : Client) (id : ℕ) (h : Heard) → Says c (take_in phase c id h)
says_in Closed c id h = tt
says_in Fresh c id (HeardResponse operation status ts) = tt
says_in Fresh c id (HeardError status) = tt
says_in Fresh c id (HeardReport tags) = tt
says_in Fresh c id HeardKeepalive = tt
says_in Fresh c id (HeardNotification n) = says_attempted c n.attempt
says_in Fresh c id HeardOther = tt
says_in Ready c id (HeardResponse operation status ts) = says_answered c.pending c id operation status ts
says_in Ready c id (HeardError status) = says_failed c.pending c id status
says_in Ready c id (HeardReport tags) = (tt, refl)
says_in Ready c id HeardKeepalive = ((tt, tt), refl)
says_in Ready c id (HeardNotification n) = says_notified c n.closes n.rospec
says_in Ready c id HeardOther = tt

pub says_taken : (c : Client) (id : ℕ) (h : Heard) → Says c (take c id h)
unfolding take
says_taken c id h = says_in c.phase c id h

took_says : (c : Client) (r : Result Taking Refusal) (w : World) → Says c r → AllSay w.up → AllSay (words.word_took r w).up
took_says c (Err refusal) w s h = h
took_says c (Ok k) w s h = all_say-append w.up k.sent h s.0

-- ---- a delivery

up_alike : (now : ℕ) (ups : List ClientMessage) (w : World) → AllSay ups → delivered_up now (map client_message ups) (in_messages w) ≡ in_messages (words.delivered_up now ups w)
unfolding client_message
up_alike now [] w h = refl
up_alike now (m ∷ ms) w h =
    let left : World = record w { up = ms } in
    ap (λ (q : Request). reader_does now (Take 1 m.id q) (in_messages left)) (request_back m h.0) ∙ does_alike now (Take 1 m.id (request m.word)) left

up_says : (now : ℕ) (ups : List ClientMessage) (w : World) → AllSay ups → AllSay w.up → AllSay (words.delivered_up now ups w).up
up_says now [] w h g = g
up_says now (m ∷ ms) w h g = does_says now (Take 1 m.id (request m.word)) (record w { up = ms }) h.1

down_alike : (downs : List ReaderMessage) (w : World) → delivered_down (map reader_message downs) (in_messages w) ≡ in_messages (words.delivered_down downs w)
unfolding reader_message
down_alike [] w = refl
down_alike (m ∷ ms) w =
    let left : World = record w { down = ms } in
    ap (λ (h : Heard). took (take w.client m.id h) (in_messages left)) (heard_back m) ∙ took_alike (take w.client m.id (heard m.word)) left

down_says : (downs : List ReaderMessage) (w : World) → AllSay w.up → AllSay (words.delivered_down downs w).up
down_says [] w h = h
down_says (m ∷ ms) w h = took_says w.client (take w.client m.id (heard m.word)) (record w { down = ms }) (says_taken w.client m.id (heard m.word)) h

-- ---- events

event_alike : (e : WorldEvent) (w : World) → AllSay w.up → message_happens (in_messages w) e ≡ in_messages (words.happens w e)
event_alike (Connects now) w h = does_alike now Connect w
event_alike (Commands k) w h = commanded_alike (command w.client k) w
event_alike (DeliversUp now) w h = up_alike now w.up w h
event_alike DeliversDown w h = down_alike w.down w
event_alike (Sees now g) w h = does_alike now (Seen g) w
event_alike (Ticks now) w h = does_alike now Tick w

event_says : (e : WorldEvent) (w : World) → IsOfRoSpecs e → AllSay w.up → AllSay (words.happens w e).up
event_says (Connects now) w a h = does_says now Connect w h
event_says (Commands k) w a h = commanded_says k w a h
event_says (DeliversUp now) w a h = up_says now w.up w h h
event_says DeliversDown w a h = down_says w.down w h
event_says (Sees now g) w a h = does_says now (Seen g) w h
event_says (Ticks now) w a h = does_says now Tick w h

run_alike : (events : List WorldEvent) (w : World) → AreOfRoSpecs events → AllSay w.up → run_messages events (in_messages w) ≡ in_messages (run events w)
run_alike [] w a h = refl
run_alike (e ∷ es) w a h =
    ap (run_messages es) (event_alike e w h) ∙ run_alike es (words.happens w e) a.1 (event_says e w a.0 h)

run_keeps : (events : List WorldEvent) (w : World) → AreOfRoSpecs events → AllSay w.up → AllSay (run events w).up
run_keeps [] w a h = h
run_keeps (e ∷ es) w a h = run_keeps es (words.happens w e) a.1 (event_says e w a.0 h)

pub run_says : (limit reader_first client_first : ℕ) (events : List WorldEvent) → AreOfRoSpecs events → AllSay (run events (opening limit reader_first client_first)).up
run_says limit reader_first client_first events a = run_keeps events (opening limit reader_first client_first) a tt

pub runs_alike : (limit reader_first client_first : ℕ) (events : List WorldEvent) → AreOfRoSpecs events
    → run_messages events (message_opening limit reader_first client_first) ≡ in_messages (run events (opening limit reader_first client_first))
runs_alike limit reader_first client_first events a = run_alike events (opening limit reader_first client_first) a tt
