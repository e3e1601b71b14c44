-- What the items of a client and the entries of a script make of the simulated reader.
use Rattle.std.specs.Prelude.{◌≡◌, ℕ, ◌+◌, ◌≤◌, ◌==◌, nat_le, List, [], ◌∷◌, ◌++◌, length, map, Result, Ok, Err}
use Rattle.std.specs.List.{filter, AllByRecursion}
use Rattle.llrp_schema.specs.declared.kinds.MsgKind.TheVariants.{CloseConnection}
use Rattle.llrp_tree.specs.declared.TheConstants.{MAX_LIMIT}
use Rattle.llrp_tree.specs.Tree.{MessageTree}
use Rattle.llrp_stream.specs.declared.item.Item.{Item}
use Rattle.llrp_stream.specs.declared.item.Item.TheVariants.{Msg, Bad}
use Rattle.llrp_stream.specs.Cuts.{IsPartial, Breaks}
use Rattle.llrp_stream.specs.Items.{ItemsSoFar}
use Rattle.llrp_session.specs.Refusal.{Refusal}
use Rattle.llrp_session.specs.ReaderMachine.{Reader, ReaderEvent, Connect, Take, TakeBad, Turn, turn_begun, next, new_reader}
use Rattle.llrp_session.specs.ReaderMachine as machine
use Rattle.llrp_session.specs.ReaderMessages.{reader_message}
use Rattle.llrp_session.specs.Reading.{request_of}
use Rattle.llrp_endpoints.specs.declared.script.Action.{Action}
use Rattle.llrp_endpoints.specs.declared.script.Action.TheVariants.{Seen, Tick}
use Rattle.llrp_endpoints.specs.declared.script.Entry.{Entry}

-- ---- what happens to the reader, and when

pub record Happening : Type 0 where
  pub now : ℕ  -- the moment, in microseconds
  pub event : ReaderEvent

-- a tag is seen, or time goes on
abbrev pub event_in : Action → ReaderEvent
event_in (Seen sighting) = machine.Seen sighting
event_in Tick = machine.Tick

abbrev pub happening : Entry → Happening
happening e = record { now = e.now; event = event_in e.action }

-- an item is taken: a message, or a frame that is none
abbrev pub taking : Item → ReaderEvent
taking (Msg m) = Take m.version m.id (request_of m)
taking (Bad id fault) = TakeBad id fault.reason

-- the entries that happen directly after this many items
abbrev pub entries_at : ℕ → List Entry → List Entry
entries_at count entries = filter (λ e. e.after == count) entries

-- the moment of the last of these entries, or this one where there is none
abbrev pub last_moment : ℕ → List Entry → ℕ
last_moment now [] = now
last_moment now (e ∷ entries) = last_moment e.now entries

-- the moment at which the next item is taken once there were this many: that of the last entry done, and 0 at first
abbrev pub moment_after : ℕ → List Entry → ℕ
moment_after count entries = last_moment 0 (filter (λ e. nat_le e.after count) entries)

-- after this many items: each further one, and directly after it the entries of its count
abbrev pub events_from : ℕ → List Entry → List Item → List Happening
events_from count entries [] = []
events_from count entries (item ∷ items) =
    record { now = moment_after count entries; event = taking item }
    ∷ (map happening (entries_at (count + 1) entries) ++ events_from (count + 1) entries items)

-- all events: a client connects at moment 0, the entries before any item happen, and then the items are taken
unfoldable pub events : List Entry → List Item → List Happening
events entries items = record { now = 0; event = Connect } ∷ (map happening (entries_at 0 entries) ++ events_from 0 entries items)

-- CLOSE_CONNECTION is taken after these items: nothing happens after it
unfoldable pub closing_events : List Entry → List Item → Item → List Happening
closing_events entries items last = events entries items ++ record { now = moment_after (length items) entries; event = taking last } ∷ []

-- the item is CLOSE_CONNECTION
abbrev pub Closes : Item → Type 0
Closes (Msg m) = m.kind ≡ CloseConnection
Closes (Bad id fault) = ⊥

-- ---- what the reader says

-- the turn that an event makes; a refused event changes nothing
abbrev pub turn_or_none : Reader → Result Turn Refusal → Turn
turn_or_none r (Ok turn) = turn
turn_or_none r (Err refusal) = turn_begun r

-- all that a reader sends in a list of events, and the reader then
abbrev pub run : Reader → List Happening → Turn
run r [] = turn_begun r
run r (h ∷ hs) =
    let turn = turn_or_none r (next h.now h.event r) in
    let later = run turn.reader hs in
    record { sent = turn.sent ++ later.sent; reader = later.reader }

-- the messages of a turn
abbrev pub said : Turn → List MessageTree
said turn = map reader_message turn.sent

-- ---- the state of serving, and how it ends

pub data Standing : Type 0 where
  waiting : Standing  -- further bytes are awaited
  closed : Standing  -- the client's CLOSE_CONNECTION was answered
  ended : Standing  -- the input ended where a frame ends
  early : Standing  -- the input ended within a frame
  broken : Standing  -- a length field is below 10

-- its state at these bytes after the items that were taken
abbrev pub StandsAt : Standing → List ℕ → Type 0
StandsAt waiting rest = IsPartial rest
StandsAt closed rest = ⊥
StandsAt ended rest = rest ≡ []
StandsAt early rest = IsPartial rest × ((rest ≡ []) → ⊥)
StandsAt broken rest = Breaks rest

-- The items of the bytes' first frames, of which none is CLOSE_CONNECTION, were taken; this is the state of serving at the rest.
pub record StaysOpen (reader : Reader) (entries : List Entry) (bytes : List ℕ) (messages : List MessageTree) (standing : Standing) : Type 0 where
  pub items : List Item
  pub rest : List ℕ
  pub are : ItemsSoFar reader.limit bytes items rest
  pub none_closes : AllByRecursion (λ item. Closes item → ⊥) items
  pub messages_are : messages ≡ said (run reader (events entries items))
  pub stands : StandsAt standing rest

-- The items of the bytes' first frames were taken, of which the last is the first CLOSE_CONNECTION; what follows is dropped.
pub record HasClosed (reader : Reader) (entries : List Entry) (bytes : List ℕ) (messages : List MessageTree) : Type 0 where
  pub items : List Item
  pub last : Item
  pub rest : List ℕ
  pub are : ItemsSoFar reader.limit bytes (items ++ last ∷ []) rest
  pub none_closes : AllByRecursion (λ item. Closes item → ⊥) items
  pub closes : Closes last
  pub messages_are : messages ≡ said (run reader (closing_events entries items last))

-- a reader and a script, given these bytes, say these messages and are then in this state
abbrev pub Serves : Reader → List Entry → List ℕ → List MessageTree → Standing → Type 0
Serves reader entries bytes messages waiting = StaysOpen reader entries bytes messages waiting
Serves reader entries bytes messages closed = HasClosed reader entries bytes messages
Serves reader entries bytes messages ended = StaysOpen reader entries bytes messages ended
Serves reader entries bytes messages early = StaysOpen reader entries bytes messages early
Serves reader entries bytes messages broken = StaysOpen reader entries bytes messages broken

-- The messages are the first of those that a reader and a script say to the items of some first frames of the bytes.
pub record BeginsServing (reader : Reader) (entries : List Entry) (bytes : List ℕ) (messages : List MessageTree) : Type 0 where
  pub items : List Item
  pub rest : List ℕ
  pub later : List MessageTree
  pub are : ItemsSoFar reader.limit bytes items rest
  pub messages_are : said (run reader (events entries items)) ≡ messages ++ later

-- a reader as new, and within the limits of one
pub record IsNewReader (reader : Reader) : Type 0 where
  pub new : reader ≡ new_reader reader.limit reader.next_id
  pub least : 4096 ≤ reader.limit
  pub most : reader.limit ≤ MAX_LIMIT
