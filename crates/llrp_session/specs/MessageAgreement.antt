-- The two ends agree, in the messages that are sent.
use Rattle.std.specs.Prelude.{◌≡◌, ◌≤◌, ◌⊎◌, ℕ, Bool, true, false, List, [], ◌∷◌, ◌++◌, Option, None, Some, if◌then◌else◌, Result, Ok, Err}
use Rattle.llrp_tree.specs.Tree.{MessageTree}
use Rattle.llrp_session.specs.RoSpec.{rospec_of}
use Rattle.llrp_session.specs.Table.{active_count}
use Rattle.llrp_session.specs.Contents.{Adding, Deleting, Starting, Stopping, Enabling, Disabling, Listing, Configuring, Closing, Request, AddRoSpec, DeleteRoSpec, StartRoSpec, StopRoSpec, EnableRoSpec, DisableRoSpec, GetRoSpecs, SetReaderConfig, GetReports, CloseConnection, NoRequest, Unsupported, Heard, HeardResponse, HeardError}
use Rattle.llrp_session.specs.ReaderMachine.{ReaderEvent}
use Rattle.llrp_session.specs.Sightings.{tags_of, history, no_history}
use Rattle.llrp_session.specs.ClientMachine.{Client, Pending, take, waits_for, Taking}
use Rattle.llrp_session.specs.Reading.{request_of, heard_of}
use Rattle.llrp_session.specs.MessageWorld.{MessageWorld}
use Rattle.llrp_session.specs.Refusal.{Refusal}

abbrev pub as_list : Option Pending → List Pending
as_list None = []
as_list (Some p) = p ∷ []

abbrev pub IsTaken : Result Taking Refusal → (Client → Type 0) → Type 0
IsTaken (Err refusal) P = ⊥
IsTaken (Ok k) P = P k.client

-- these are the reports of `sightings_kept`: some history of a reader as new ends with this reader, sent these reports, and kept these
pub record ReaderHasHistory (w : MessageWorld) : Type 0 where
  pub limit : ℕ
  pub first_id : ℕ
  pub events : List (ℕ × ReaderEvent)
  pub reader : (history events (no_history limit first_id)).reader ≡ w.reader
  pub reported : tags_of (history events (no_history limit first_id)).sent ≡ w.reported
  pub kept : (history events (no_history limit first_id)).kept ≡ w.kept

-- (c) at most one ROSpec is active
abbrev pub OneActive : MessageWorld → Type 0
OneActive w = active_count w.reader.table ≤ 1

-- each of these messages is taken, one after another
abbrev pub MessagesAreTaken : List MessageTree → Client → Type 0
MessagesAreTaken [] c = Unit {0}
MessagesAreTaken (m ∷ ms) c = IsTaken (take c m.id (heard_of m)) (MessagesAreTaken ms)

-- ---- the pending request

-- what waits for the response to a request under an id
abbrev pub awaited_of : ℕ → Request → Option Pending
awaited_of id (AddRoSpec rospec) = waits_for id Adding (rospec_of rospec).id
awaited_of id (DeleteRoSpec n) = waits_for id Deleting n
awaited_of id (StartRoSpec n) = waits_for id Starting n
awaited_of id (StopRoSpec n) = waits_for id Stopping n
awaited_of id (EnableRoSpec n) = waits_for id Enabling n
awaited_of id (DisableRoSpec n) = waits_for id Disabling n
awaited_of id GetRoSpecs = waits_for id Listing 0
awaited_of id (SetReaderConfig config) = waits_for id Configuring 0
awaited_of id GetReports = None
awaited_of id CloseConnection = waits_for id Closing 0
awaited_of id NoRequest = None
awaited_of id Unsupported = None

-- the requests on the way up that wait for a response
unfoldable pub requests_in : List MessageTree → List Pending
requests_in [] = []
requests_in (m ∷ ms) = as_list (awaited_of m.id (request_of m)) ++ requests_in ms

abbrev pub hears_response : Heard → Bool
hears_response (HeardResponse operation status ts) = true
hears_response (HeardError status) = true
hears_response _ = false

-- the ids of the requests whose response is on the way down
unfoldable pub responses_in : List MessageTree → List ℕ
responses_in [] = []
responses_in (m ∷ ms) = if hears_response (heard_of m) then m.id ∷ responses_in ms else responses_in ms

abbrev pub IsOnTheWay : Option Pending → List MessageTree → List MessageTree → Type 0
IsOnTheWay None up down = (requests_in up ≡ []) × (responses_in down ≡ [])
IsOnTheWay (Some p) up down =
    ((requests_in up ≡ p ∷ []) × (responses_in down ≡ [])) ⊎ ((requests_in up ≡ []) × (responses_in down ≡ p.id ∷ []))

-- ---- the reader's table

-- the client never took one that differs from its view
abbrev pub NoneDiffers : MessageWorld → Type 0
NoneDiffers w = w.differing ≡ []
