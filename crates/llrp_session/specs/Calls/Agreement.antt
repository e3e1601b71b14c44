-- The two ends agree.
use Rattle.std.specs.Prelude.{◌≡◌, ◌≤◌, ◌⊎◌, ℕ, Bool, true, false, List, [], ◌∷◌, ◌++◌, Option, None, Some, Result, Ok, Err, if◌then◌else◌}
use Rattle.llrp_tree.specs.Tree.{Tree}
use Rattle.llrp_session.specs.Table.{states, active_count}
use Rattle.llrp_session.specs.Contents.{ReaderContent, Response, Listed, Error, ReaderMessage, ClientContent, Asks, Acknowledges, ClientMessage}
use Rattle.llrp_session.specs.Calls.Contents.{heard}
use Rattle.llrp_session.specs.Refusal.{Refusal}
use Rattle.llrp_session.specs.ReaderMachine.{ReaderEvent}
use Rattle.llrp_session.specs.Sightings.{tags_of, history, no_history}
use Rattle.llrp_session.specs.ClientMachine.{Client, Pending, Taking, take, awaited}
use Rattle.llrp_session.specs.Calls.World.{World, run, opening}
use Rattle.llrp_session.specs.World.{table_heard, WorldEvent}
use Rattle.llrp_session.specs.MessageAgreement.{IsTaken, as_list}

-- what holds after every list of events, from two ends as new
abbrev pub AfterAll : (World → Type 0) → Type 0
AfterAll P = (limit reader_first client_first : ℕ) (events : List WorldEvent) → P (run events (opening limit reader_first client_first))

-- ---- what is on the way down, taken in

abbrev pub and_then : Result Taking Refusal → (Client → Option Client) → Option Client
and_then (Err refusal) f = None
and_then (Ok k) f = f k.client

-- the client once it took these messages; none where it refuses one of them
abbrev pub taken_in : List ReaderMessage → Client → Option Client
taken_in [] c = Some c
taken_in (m ∷ ms) c = and_then (take c m.id (heard m.word)) (taken_in ms)

-- (a) taking in what is on the way down makes the client's view the reader's table of states
abbrev pub ViewCatchesUp : World → Type 0
ViewCatchesUp w = (c : Client) × (taken_in w.down w.client ≡ Some c) × (c.view ≡ states w.reader.table)

-- with nothing on the way down they are equal
abbrev pub ViewIsTable : World → Type 0
ViewIsTable w = w.down ≡ [] → w.client.view ≡ states w.reader.table

-- (b) the reports delivered, followed by those on the way down, are the reports sent, in order, each once
abbrev pub ReportsArrive : World → Type 0
ReportsArrive w = w.handed_out ++ tags_of w.down ≡ w.reported

-- with those held they are the reports of the sightings that counted and were not dropped
abbrev pub ReportsAreKept : World → Type 0
ReportsAreKept w = (w.handed_out ++ tags_of w.down) ++ w.reader.held ≡ w.kept

-- these are the reports of `sightings_kept`: some history of a reader as new ends with this reader, sent these reports, and kept these
pub record ReaderHasHistory (w : World) : Type 0 where
  pub limit : ℕ
  pub first_id : ℕ
  pub events : List (ℕ × ReaderEvent)
  pub reader : (history events (no_history limit first_id)).reader ≡ w.reader
  pub reported : tags_of (history events (no_history limit first_id)).sent ≡ w.reported
  pub kept : (history events (no_history limit first_id)).kept ≡ w.kept

-- (c) at most one ROSpec is active
abbrev pub OneActive : World → Type 0
OneActive w = active_count w.reader.table ≤ 1

-- each of these messages is taken, one after another
abbrev pub AreTaken : List ReaderMessage → Client → Type 0
AreTaken [] c = Unit {0}
AreTaken (m ∷ ms) c = IsTaken (take c m.id (heard m.word)) (AreTaken ms)

-- (d) the client never meets an unexpected message, nor one after its closing
abbrev pub NothingIsUnexpected : World → Type 0
NothingIsUnexpected w = AreTaken w.down w.client

-- ---- the pending request

abbrev pub awaited_by : ClientContent → ℕ → List Pending
awaited_by Acknowledges id = []
awaited_by (Asks k) id = as_list (awaited id k)

-- the requests on the way up that wait for a response
unfoldable pub requests : List ClientMessage → List Pending
requests [] = []
requests (m ∷ ms) = awaited_by m.word m.id ++ requests ms

abbrev pub is_response : ReaderContent → Bool
is_response (Response operation status) = true
is_response (Listed table) = true
is_response (Error status) = true
is_response _ = false

-- the ids of the requests whose response is on the way down
unfoldable pub responses : List ReaderMessage → List ℕ
responses [] = []
responses (m ∷ ms) = if is_response m.word then m.id ∷ responses ms else responses ms

abbrev pub IsOnTheWay : Option Pending → List ClientMessage → List ReaderMessage → Type 0
IsOnTheWay None up down = (requests up ≡ []) × (responses down ≡ [])
IsOnTheWay (Some p) up down =
    ((requests up ≡ p ∷ []) × (responses down ≡ [])) ⊎ ((requests up ≡ []) × (responses down ≡ p.id ∷ []))

-- (e) the pending request is on the way up, or its one response on the way down, never both; without one neither does any
abbrev pub PendingIsOnTheWay : World → Type 0
PendingIsOnTheWay w = IsOnTheWay w.client.pending w.up w.down

-- with nothing on the way nothing is pending
abbrev pub NothingIsPending : World → Type 0
NothingIsPending w = w.up ≡ [] → w.down ≡ [] → w.client.pending ≡ None

-- ---- the reader's table

-- the tables that are listed in messages, in order
unfoldable pub tables_of : List ReaderMessage → List (List Tree)
tables_of [] = []
tables_of (m ∷ ms) = table_heard (heard m.word) ++ tables_of ms

-- (f) the tables that the client took, followed by those on the way down, are the reader's table as it was at each GET_ROSPECS, in order
abbrev pub TablesArrive : World → Type 0
TablesArrive w = w.tables ++ tables_of w.down ≡ w.listed

-- the client never took one that differs from its view
abbrev pub NoneDiffers : World → Type 0
NoneDiffers w = w.differing ≡ []
