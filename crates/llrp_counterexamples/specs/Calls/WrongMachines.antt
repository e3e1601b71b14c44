-- Readers and clients with one mistake each, and what two such ends make of a list of events.
use Rattle.std.specs.Prelude.{ℕ, ◌==◌, List, [], ◌∷◌, reverse, true, Option, Some, Result, Ok, Err, if◌then◌else◌}
use Rattle.llrp_tree.specs.Tree.{Tree}
use Rattle.llrp_session.specs.Refusal.{Refusal}
use Rattle.llrp_session.specs.Table.{change_view, disabling, first_immediate}
use Rattle.llrp_session.specs.Contents.{Heard, ReaderMessage, ClientMessage, DeleteRoSpec, StopRoSpec, EnableRoSpec, DisableRoSpec, request}
use Rattle.llrp_session.specs.Calls.Contents.{heard}
use Rattle.llrp_session.specs.ReaderMachine.{Reader, Turn, ReaderEvent, Connect, Take, Seen, Tick, start_if_idle, next}
use Rattle.llrp_session.specs.Sightings.{kept_by}
use Rattle.llrp_session.specs.ClientMachine.{Client, Taking, take, command}
use Rattle.llrp_session.specs.declared.types.Pending.{Pending}
use Rattle.llrp_session.specs.declared.types.Taken.{Taken}
use Rattle.llrp_session.specs.declared.types.Taken.TheVariants.{Connected, Refused, Reply, Tags, Table, Differs, Event, Note, Kept, Closed as ConnectionEnded}
use Rattle.llrp_session.specs.Calls.World.{World, stepped, commanded, word_took, opening}
use Rattle.llrp_session.specs.World.{WorldEvent, Connects, Commands, DeliversUp, DeliversDown, Sees, Ticks, listed_by}

-- ---- the two ends, by their machines

-- the step of a reader, and how a client takes a message
pub record Machines : Type 0 where
  pub reader : ℕ → ReaderEvent → Reader → Result Turn Refusal
  pub client : Client → ℕ → Heard → Result Taking Refusal

-- those without a mistake
abbrev pub right : Machines
right = record { reader = next; client = take }

abbrev pub reader_does_by : Machines → ℕ → ReaderEvent → World → World
reader_does_by x now e w = stepped (x.reader now e w.reader) (kept_by now e w.reader) (listed_by e w.reader) w

abbrev pub delivered_up_by : Machines → ℕ → List ClientMessage → World → World
delivered_up_by x now [] w = w
delivered_up_by x now (m ∷ ms) w = reader_does_by x now (Take 1 m.id (request m.word)) (record w { up = ms })

abbrev pub delivered_down_by : Machines → List ReaderMessage → World → World
delivered_down_by x [] w = w
delivered_down_by x (m ∷ ms) w = word_took (x.client w.client m.id (heard m.word)) (record w { down = ms })

abbrev pub happens_by : Machines → World → WorldEvent → World
happens_by x w (Connects now) = reader_does_by x now Connect w
happens_by x w (Commands k) = commanded (command w.client k) w
happens_by x w (DeliversUp now) = delivered_up_by x now w.up w
happens_by x w DeliversDown = delivered_down_by x w.down w
happens_by x w (Sees now g) = reader_does_by x now (Seen g) w
happens_by x w (Ticks now) = reader_does_by x now Tick w

abbrev pub run_by : Machines → List WorldEvent → World → World
run_by x [] w = w
run_by x (e ∷ es) w = run_by x es (happens_by x w e)

-- what holds after every list of events
abbrev pub AfterAllBy : Machines → (World → Type 0) → Type 0
AfterAllBy x P = (limit reader_first client_first : ℕ) (events : List WorldEvent) → P (run_by x events (opening limit reader_first client_first))

-- ---- the client moves its view on a status other than 0: it sees the ROSpec of its request as disabled

abbrev pub move_by : Taken → Option Pending → Taking → Taking
move_by (Reply status) (Some p) t = if status == 0 then t else record t { client = record t.client { view = change_view (disabling p.rospec) t.client.view } }
move_by _ _ t = t

abbrev pub moved_on_failure : Option Pending → Result Taking Refusal → Result Taking Refusal
moved_on_failure pending (Ok t) = Ok (move_by t.taken pending t)
moved_on_failure pending (Err refusal) = Err refusal

abbrev pub moves_on_failure : Machines
moves_on_failure = record { reader = next; client = λ c id h. moved_on_failure c.pending (take c id h) }

-- ---- the client delivers the first tag of a report alone

abbrev pub first_of_tags : List Tree → List Tree
first_of_tags [] = []
first_of_tags (tag ∷ tags) = tag ∷ []

abbrev pub first_tag : Taken → Taken
first_tag (Tags tags) = Tags (first_of_tags tags)
first_tag Connected = Connected
first_tag (Refused status) = Refused status
first_tag (Reply status) = Reply status
first_tag (Table rospecs) = Table rospecs
first_tag (Differs rospecs) = Differs rospecs
first_tag (Event id state) = Event id state
first_tag Note = Note
first_tag Kept = Kept
first_tag ConnectionEnded = ConnectionEnded

abbrev pub with_first_tag : Result Taking Refusal → Result Taking Refusal
with_first_tag (Ok t) = Ok (record t { taken = first_tag t.taken })
with_first_tag (Err refusal) = Err refusal

abbrev pub hands_out_first : Machines
hands_out_first = record { reader = next; client = λ c id h. with_first_tag (take c id h) }

-- ---- the reader reports the end of a ROSpec after the response to the request that ends it

abbrev pub told_after : ReaderEvent → List ReaderMessage → List ReaderMessage
told_after (Take version id (DisableRoSpec n)) sent = reverse sent
told_after (Take version id (StopRoSpec n)) sent = reverse sent
told_after (Take version id (DeleteRoSpec n)) sent = reverse sent
told_after _ sent = sent

abbrev pub with_end_last : ReaderEvent → Result Turn Refusal → Result Turn Refusal
with_end_last e (Ok t) = Ok (record t { sent = told_after e t.sent })
with_end_last e (Err refusal) = Err refusal

abbrev pub tells_end_last : Machines
tells_end_last = record { reader = λ now e r. with_end_last e (next now e r); client = take }

-- ---- the reader starts a ROSpec that starts by itself although another is active

abbrev pub with_second : ℕ → ReaderEvent → Reader → Turn → Turn
with_second now (Take version id (EnableRoSpec n)) r t = start_if_idle now (first_immediate n r.table) true t
with_second now _ r t = t

abbrev pub started_beside : ℕ → ReaderEvent → Reader → Result Turn Refusal → Result Turn Refusal
started_beside now e r (Ok t) = Ok (with_second now e r t)
started_beside now e r (Err refusal) = Err refusal

abbrev pub starts_beside : Machines
starts_beside = record { reader = λ now e r. started_beside now e r (next now e r); client = take }
