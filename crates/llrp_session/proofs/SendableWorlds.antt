-- What is on its way may be sent.
use Rattle.std.proofs.Common.{◌≡◌, ℕ, ◌<◌, ◌≤◌, ◌^◌, List, [], ◌∷◌, ◌++◌, refl, ◌∙◌, subst, inl}
use Rattle.std.specs.Prelude.{map, Result, Ok, Err, Option, None, Some, IfOk}
use Rattle.llrp_tree.specs.declared.TheConstants.{MAX_LIMIT}
use Rattle.llrp_tree.specs.Tree.{Tree}
use Rattle.llrp_session.specs.Contents.{Command, Add, Delete, Start, Stop, Enable, Disable, GetRospecs, SetKeepalive, GetReport, Close, ReaderMessage, ClientMessage, ClientContent, Asks, Acknowledges, request}
use Rattle.llrp_session.specs.Calls.Contents.{heard}
use Rattle.llrp_session.specs.Refusal.{Refusal}
use Rattle.llrp_session.specs.ReaderMachine.{Turn, ReaderEvent, Connect, Take, Seen, Tick, next}
use Rattle.llrp_session.specs.Sightings.{kept_by}
use Rattle.llrp_session.specs.ClientMachine.{Client, Sending, Taking, command, take, sent_unless, refused_in}
use Rattle.llrp_session.specs.Calls.World.{World, stepped, reader_does, commanded, word_took, delivered_up, delivered_down, happens, run, opening}
use Rattle.llrp_session.specs.World.{WorldEvent, Connects, Commands, DeliversUp, DeliversDown, Sees, Ticks, listed_by}
use Rattle.llrp_session.specs.ReaderMessages.{reader_message}
use Rattle.llrp_session.specs.ClientMessages.{client_message}
use Rattle.llrp_session.specs.Calls.LawfulWords.{IsLawfulClientWord, IsLawfulClientMessage, AddsRoSpec}
use Rattle.llrp_session.specs.Calls.LawfulStates.{IsLawfulReader, IsLawfulRequest, IsLawfulReaderEvent, AreLawfulReaderMessages, AreLawfulClientMessages}
use Rattle.llrp_session.specs.MessageWorld.{IsGivenCommand}
use Rattle.llrp_session.specs.MessageWorld.{run_messages, message_opening, IsGiven, AreGiven}
use Rattle.llrp_session.specs.Calls.MessageWorld.{IsOfRoSpecs, AreOfRoSpecs, AreSendable}
use Rattle.llrp_session.proofs.LawfulMessages.{reader_sends, client_sends}
use Rattle.llrp_session.proofs.LawfulReaders.{reader_as_new, reader_says_lawful}
use Rattle.llrp_session.proofs.LawfulClients.{command_is_lawful, answer_is_lawful}
use Rattle.llrp_session.proofs.MessageWorlds.{Says, says_taken, runs_alike}

-- a world whose reader is lawful, whose client has the limit, and in which all on the way has a message
record IsLawfulWorld (limit : ℕ) (w : World) : Type 0 where
  pub reader : IsLawfulReader w.reader
  pub readers : w.reader.limit ≡ limit
  pub client : w.client.limit ≡ limit
  pub up : AreLawfulClientMessages limit w.up
  pub down : AreLawfulReaderMessages limit w.down

pub reader_messages-append : (limit : ℕ) (xs ys : List ReaderMessage) → AreLawfulReaderMessages limit xs → AreLawfulReaderMessages limit ys → AreLawfulReaderMessages limit (xs ++ ys)
reader_messages-append limit [] ys h g = g
reader_messages-append limit (x ∷ xs) ys h g = (h.0, reader_messages-append limit xs ys h.1 g)

pub client_messages-append : (limit : ℕ) (xs ys : List ClientMessage) → AreLawfulClientMessages limit xs → AreLawfulClientMessages limit ys → AreLawfulClientMessages limit (xs ++ ys)
client_messages-append limit [] ys h g = g
client_messages-append limit (x ∷ xs) ys h g = (h.0, client_messages-append limit xs ys h.1 g)

-- ---- a step of the reader

stepped_lawful : (limit : ℕ) (r : Result Turn Refusal) (kept : List Tree) (listed : List (List Tree)) (w : World) → IfOk r (λ t. AreLawfulReaderMessages limit t.sent × (IsLawfulReader t.reader × (t.reader.limit ≡ limit))) → IsLawfulWorld limit w
    → IsLawfulWorld limit (stepped r kept listed w)
stepped_lawful limit (Err refusal) kept listed w t h = h
stepped_lawful limit (Ok turn) kept listed w t h = record { reader = t.1.0; readers = t.1.1; client = h.client; up = h.up; down = reader_messages-append limit w.down turn.sent h.down t.0 }

does_lawful : (limit now : ℕ) (e : ReaderEvent) (w : World) → now < 2 ^ 64 → IsLawfulReaderEvent e → IsLawfulWorld limit w → IsLawfulWorld limit (reader_does now e w)
does_lawful limit now e w moment l h = stepped_lawful limit (next now e w.reader) (kept_by now e w.reader) (listed_by e w.reader) w
    (subst (λ (n : ℕ). IfOk (next now e w.reader) (λ t. AreLawfulReaderMessages n t.sent × (IsLawfulReader t.reader × (t.reader.limit ≡ n)))) h.readers (reader_says_lawful now e w.reader moment l h.reader)) h

-- ---- a step of the client

keeps_unless : (r : Option Refusal) (c : Client) (k : Command) → IfOk (sent_unless r c k) (λ s. s.client.limit ≡ c.limit)
keeps_unless None c k = refl
keeps_unless (Some refusal) c k = tt

keeps : (c : Client) (k : Command) → IfOk (command c k) (λ s. s.client.limit ≡ c.limit)
unfolding command
keeps c k = keeps_unless (refused_in c.phase c k) c k

commanded_lawful : (limit : ℕ) (r : Result Sending Refusal) (w : World) → IfOk r (λ s. IsLawfulClientMessage limit s.message) → IfOk r (λ s. s.client.limit ≡ limit) → IsLawfulWorld limit w → IsLawfulWorld limit (commanded r w)
commanded_lawful limit (Err refusal) w l k h = h
commanded_lawful limit (Ok s) w l k h = record { reader = h.reader; readers = h.readers; client = k; up = client_messages-append limit w.up (s.message ∷ []) h.up (l, tt); down = h.down }

took_lawful : (limit : ℕ) (c : Client) (r : Result Taking Refusal) (w : World) → c.limit ≡ limit → IfOk r (λ k. AreLawfulClientMessages c.limit k.sent) → Says c r → IsLawfulWorld limit w → IsLawfulWorld limit (word_took r w)
took_lawful limit c (Err refusal) w e l s h = h
took_lawful limit c (Ok k) w e l s h =
    record { reader = h.reader; readers = h.readers; client = s.1 ∙ e; up = client_messages-append limit w.up k.sent h.up (subst (λ (n : ℕ). AreLawfulClientMessages n k.sent) e l); down = h.down }

-- ---- a delivery

asked : (limit : ℕ) (word : ClientContent) → IsLawfulClientWord limit word → IsLawfulRequest (request word)
asked limit (Asks (Add spec)) h = (h.kind, h.lawful)
asked limit (Asks (Delete id)) h = h
asked limit (Asks (Start id)) h = h
asked limit (Asks (Stop id)) h = h
asked limit (Asks (Enable id)) h = h
asked limit (Asks (Disable id)) h = h
asked limit (Asks GetRospecs) h = tt
asked limit (Asks (SetKeepalive ms)) h = tt
asked limit (Asks GetReport) h = tt
asked limit (Asks Close) h = tt
asked limit Acknowledges h = tt

up_lawful : (limit now : ℕ) (ups : List ClientMessage) (w : World) → now < 2 ^ 64 → AreLawfulClientMessages limit ups → IsLawfulWorld limit w → IsLawfulWorld limit (delivered_up now ups w)
up_lawful limit now [] w moment l h = h
up_lawful limit now (m ∷ ms) w moment l h =
    does_lawful limit now (Take 1 m.id (request m.word)) (record w { up = ms }) moment (inl refl, l.0.id, asked limit m.word l.0.word)
    (record { reader = h.reader; readers = h.readers; client = h.client; up = l.1; down = h.down })

down_lawful : (limit : ℕ) (downs : List ReaderMessage) (w : World) → AreLawfulReaderMessages limit downs → IsLawfulWorld limit w → IsLawfulWorld limit (delivered_down downs w)
down_lawful limit [] w l h = h
down_lawful limit (m ∷ ms) w l h =
    took_lawful limit w.client (take w.client m.id (heard m.word)) (record w { down = ms }) h.client (answer_is_lawful w.client m.id (heard m.word) l.0.id) (says_taken w.client m.id (heard m.word))
    (record { reader = h.reader; readers = h.readers; client = h.client; up = h.up; down = l.1 })

-- ---- events

command_lawful : (limit : ℕ) (k : Command) (w : World) → IsGivenCommand k → IsLawfulWorld limit w → IsLawfulWorld limit (commanded (command w.client k) w)
command_lawful limit k w g h =
    commanded_lawful limit (command w.client k) w
    (subst (λ (n : ℕ). IfOk (command w.client k) (λ s. IsLawfulClientMessage n s.message)) h.client (command_is_lawful w.client k g))
    (subst (λ (n : ℕ). IfOk (command w.client k) (λ s. s.client.limit ≡ n)) h.client (keeps w.client k)) h

happens_lawful : (limit : ℕ) (e : WorldEvent) (w : World) → IsGiven e → IsLawfulWorld limit w → IsLawfulWorld limit (happens w e)
happens_lawful limit (Connects now) w g h = does_lawful limit now Connect w g tt h
happens_lawful limit (Commands k) w g h = command_lawful limit k w g h
happens_lawful limit (DeliversUp now) w g h = up_lawful limit now w.up w g h.up h
happens_lawful limit DeliversDown w g h = down_lawful limit w.down w h.down h
happens_lawful limit (Sees now s) w g h = does_lawful limit now (Seen s) w g.0 g.1 h
happens_lawful limit (Ticks now) w g h = does_lawful limit now Tick w g tt h

run_lawful : (limit : ℕ) (events : List WorldEvent) (w : World) → AreGiven events → IsLawfulWorld limit w → IsLawfulWorld limit (run events w)
run_lawful limit [] w g h = h
run_lawful limit (e ∷ es) w g h = run_lawful limit es (happens w e) g.1 (happens_lawful limit e w g.0 h)

-- ---- messages

down_sendable : (limit : ℕ) (ms : List ReaderMessage) → 4096 ≤ limit → limit ≤ MAX_LIMIT → AreLawfulReaderMessages limit ms → AreSendable limit (map reader_message ms)
down_sendable limit [] l g h = tt
down_sendable limit (m ∷ ms) l g h = (reader_sends limit m l g h.0, down_sendable limit ms l g h.1)

pub up_sendable : (limit : ℕ) (ms : List ClientMessage) → 4096 ≤ limit → limit ≤ MAX_LIMIT → AreLawfulClientMessages limit ms → AreSendable limit (map client_message ms)
up_sendable limit [] l g h = tt
up_sendable limit (m ∷ ms) l g h = (client_sends limit m l g h.0, up_sendable limit ms l g h.1)

given_adds : (k : Command) → IsGivenCommand k → AddsRoSpec k
given_adds (Add spec) h = h.0
given_adds (Delete id) h = tt
given_adds (Start id) h = tt
given_adds (Stop id) h = tt
given_adds (Enable id) h = tt
given_adds (Disable id) h = tt
given_adds GetRospecs h = tt
given_adds (SetKeepalive ms) h = tt
given_adds GetReport h = tt
given_adds Close h = tt

given_event : (e : WorldEvent) → IsGiven e → IsOfRoSpecs e
given_event (Connects now) h = tt
given_event (Commands k) h = given_adds k h
given_event (DeliversUp now) h = tt
given_event DeliversDown h = tt
given_event (Sees now g) h = tt
given_event (Ticks now) h = tt

-- what is given adds no other parameter in a ROSpec's place
pub given_events : (events : List WorldEvent) → AreGiven events → AreOfRoSpecs events
given_events [] h = tt
given_events (e ∷ es) h = (given_event e h.0, given_events es h.1)

opening_lawful : (limit reader_first client_first : ℕ) → 4096 ≤ limit → reader_first < 2 ^ 32 → IsLawfulWorld limit (opening limit reader_first client_first)
opening_lawful limit reader_first client_first l h = record { reader = reader_as_new limit reader_first l h; readers = refl; client = refl; up = tt; down = tt }

pub sent_up : (limit reader_first client_first : ℕ) (events : List WorldEvent) → 4096 ≤ limit → limit ≤ MAX_LIMIT → reader_first < 2 ^ 32 → AreGiven events
    → AreSendable limit (run_messages events (message_opening limit reader_first client_first)).up
sent_up limit reader_first client_first events l m f g =
    let w = run_lawful limit events (opening limit reader_first client_first) g (opening_lawful limit reader_first client_first l f) in
    rw (runs_alike limit reader_first client_first events (given_events events g)) (up_sendable limit _ l m w.up)

pub sent_down : (limit reader_first client_first : ℕ) (events : List WorldEvent) → 4096 ≤ limit → limit ≤ MAX_LIMIT → reader_first < 2 ^ 32 → AreGiven events
    → AreSendable limit (run_messages events (message_opening limit reader_first client_first)).down
sent_down limit reader_first client_first events l m f g =
    let w = run_lawful limit events (opening limit reader_first client_first) g (opening_lawful limit reader_first client_first l f) in
    rw (runs_alike limit reader_first client_first events (given_events events g)) (down_sendable limit _ l m w.down)
