-- What a simulated reader of the whole standard does that acts by a script, and what it sends to a client, while other clients may come.
use Rattle.std.specs.Prelude.{◌≡◌, ℕ, ◌+◌, min, if◌then◌else◌, Bool, true, List, [], ◌∷◌, ◌++◌, map, Option, None, Some, Result}
use Rattle.llrp_schema.specs.declared.kinds.KindSet.TheVariants.{Standard}
use Rattle.llrp_tree.specs.Tree.{MessageTree}
use Rattle.llrp_stream.specs.Device.{SourceLog, SinkLog}
use Rattle.llrp_stream.specs.Items.{ItemsSoFarIn}
use Rattle.llrp_stream.specs.declared.item.Item.{Item}
use Rattle.llrp_session.specs.Calls.NextClient.{for_next_client}
use Rattle.llrp_session.specs.declared.reader.side_events.SideEvent.TheVariants.{OtherClient}
use Rattle.llrp_session.specs.ReaderMachine.{Reader, Connect}
use Rattle.llrp_listing.specs.declared.outcome.ToolErr.{ToolErr}
use Rattle.llrp_versions.specs.declared.version.Version.{Version}
use Rattle.llrp_versions.specs.declared.version.Version.TheVariants.{First}
use Rattle.llrp_answers.specs.declared.answers.Pair.{Pair}
use Rattle.llrp_endpoints.specs.declared.script.Entry.{Entry}
use Rattle.llrp_endpoints.specs.RunServe.{RunsSaying}
use Rattle.llrp_endpoints.specs.Serving.{Standing, waiting, closed, ended, early, broken, StandsAt, entries_at, event_in, moment_after}
use Rattle.llrp_live.specs.Calls.Doings.{Dated, Doing, Happens, Notes, agreed, closes, comes_in, course, doing, next_version, once}
use Rattle.llrp_live.specs.Calls.Living.{NoneCloses, came}
use Rattle.llrp_general.specs.Calls.Located.{IsSentTo}

-- ---- what is done, and when

-- a reader before its client came, the answers of a file, and the entries of a script
pub record Setting : Type 0 where
  pub reader : Reader
  pub answers : List Pair
  pub entries : List Entry

abbrev pub setting : Reader → List Pair → List Entry → Setting
setting reader answers entries = record { reader = reader; answers = answers; entries = entries }

-- what is done at a moment, and the item of the client's frame for which it is done, if it is one
pub record Step : Type 0 where
  pub dated : Dated
  pub item : Option Item

abbrev pub all_dated : List Step → List Dated
all_dated [] = []
all_dated (step ∷ steps) = step.dated ∷ all_dated steps

abbrev pub by_script : Entry → Step
by_script e = record { dated = record { now = e.now; doing = Happens (event_in e.action) }; item = None }

-- a client connects at moment 0
abbrev pub connecting : Step
connecting = record { dated = record { now = 0; doing = Happens Connect }; item = None }

-- an item is taken where this many came to the reader before it and this version is in use: at the moment of the last entry done
abbrev pub taking : Setting → ℕ → Version → Item → Step
taking s count v item = record { dated = record { now = moment_after count s.entries; doing = doing s.answers v item }; item = Some item }

-- an item that comes to the reader is one more
abbrev pub count_after : ℕ → Doing → ℕ
count_after count what = count + (if comes_in what then 1 else 0)

-- and directly after it come the entries of this count
abbrev pub due_after : List Entry → ℕ → Doing → List Step
due_after entries count what = if comes_in what then map by_script (entries_at (count + 1) entries) else []

abbrev pub steps_from : Setting → ℕ → Version → List Item → List Step
steps_from s count v [] = []
steps_from s count v (item ∷ items) =
    let what = doing s.answers v item in
    taking s count v item ∷ (due_after s.entries count what ++ steps_from s (count_after count what) (next_version v item) items)

-- all that is done where no other client comes: the client connects, the entries before any item happen, and then the items are taken; a
-- connection begins in version 1
unfoldable pub steps : Setting → List Item → List Step
steps s items = connecting ∷ (map by_script (entries_at 0 s.entries) ++ steps_from s 0 First items)

-- the step for one item more
abbrev pub next_step : Setting → List Item → Item → Step
next_step s items item = taking s (came s.answers First items) (agreed First items) item

-- ---- while other clients come

-- how many other clients came, counted in a u64, which stops at the greatest
abbrev pub counted : ℕ → ℕ
counted others = min others 18446744073709551615

-- the count after it was asked whether another client came
abbrev pub count_after_one : ℕ → Bool → ℕ
count_after_one count came = if came then counted (count + 1) else count

-- the reader says that another client came
abbrev pub other_came : ℕ → Step
other_came now = record { dated = record { now = now; doing = Notes OtherClient }; item = None }

-- After a step at the moment `before` these are done: the steps of a plan in their order, and among them this many notes that another client
-- came, each at the moment of the step before it.
pub data WithOthers : (before others : ℕ) → (plan done : List Step) → Type 0 where
  no_more : (before : ℕ) → WithOthers before 0 [] []
  planned : (before others : ℕ) (step : Step) (plan done : List Step) → WithOthers step.dated.now others plan done → WithOthers before others (step ∷ plan) (step ∷ done)
  noted : (before others : ℕ) (plan done : List Step) → WithOthers before others plan done → WithOthers before (others + 1) plan (other_came before ∷ done)

-- What is done for these items while this many other clients come: the client connects, and then the other steps, with the notes among them.
pub record IsDone (s : Setting) (others : ℕ) (items : List Item) (done : List Step) : Type 0 where
  pub plan : List Step
  pub later : List Step
  pub steps_are : steps s items ≡ connecting ∷ plan
  pub done_is : done ≡ connecting ∷ later
  pub with_others : WithOthers 0 others plan later

-- ---- what is sent, and the reader that is left

-- what is sent of what is said: the same, but that what is said to a frame may have a place
abbrev pub IsSentFor : Option Item → List MessageTree → List MessageTree → Type 0
IsSentFor None said sent = sent ≡ said
IsSentFor (Some item) said sent = IsSentTo item said sent

-- of steps one after another, from this reader on
abbrev pub AreSent : Reader → List Step → List MessageTree → Type 0
AreSent r [] sent = sent ≡ []
AreSent r (step ∷ steps) sent =
    (first later : List MessageTree) × (sent ≡ first ++ later) × IsSentFor step.item (once r step.dated step.dated.doing).said first
    × AreSent (once r step.dated step.dated.doing).reader steps later

-- the reader after steps, as its client leaves it to the next one
abbrev pub left_after : Setting → List Step → Reader
left_after s done = for_next_client (course s.reader (all_dated done)).reader

-- ---- the state of serving, and how it ends

-- The items of the octets' first frames, of which none is CLOSE_CONNECTION, were taken; this is the state of serving at the rest.
pub record StaysOpen (s : Setting) (others : ℕ) (left : Reader) (bytes : List ℕ) (messages : List MessageTree) (standing : Standing) : Type 0 where
  pub items : List Item
  pub rest : List ℕ
  pub are : ItemsSoFarIn Standard s.reader.limit bytes items rest
  pub none : NoneCloses items
  pub done : List Step
  pub is_done : IsDone s others items done
  pub sent : AreSent s.reader done messages
  pub leaves : left ≡ left_after s done
  pub stands : StandsAt standing rest

-- The items of the octets' first frames were taken, of which the last is the first CLOSE_CONNECTION. Nothing is done after it, and what follows
-- is dropped.
pub record HasClosed (s : Setting) (others : ℕ) (left : Reader) (bytes : List ℕ) (messages : List MessageTree) : Type 0 where
  pub items : List Item
  pub last : Item
  pub rest : List ℕ
  pub are : ItemsSoFarIn Standard s.reader.limit bytes (items ++ last ∷ []) rest
  pub none : NoneCloses items
  pub closing : closes last ≡ true
  pub done : List Step
  pub is_done : IsDone s others items done
  pub sent : AreSent s.reader (done ++ next_step s items last ∷ []) messages
  pub leaves : left ≡ left_after s (done ++ next_step s items last ∷ [])

-- These messages are sent to these octets while this many other clients come, serving is then in this state, and this reader is left.
abbrev pub Says : Setting → (others : ℕ) → (left : Reader) → List ℕ → List MessageTree → Standing → Type 0
Says s others left bytes messages waiting = StaysOpen s others left bytes messages waiting
Says s others left bytes messages closed = HasClosed s others left bytes messages
Says s others left bytes messages ended = StaysOpen s others left bytes messages ended
Says s others left bytes messages early = StaysOpen s others left bytes messages early
Says s others left bytes messages broken = StaysOpen s others left bytes messages broken

-- Of what is done for the items of some first frames while this many other clients come, some first steps were done, which leave this reader,
-- and the messages are the first of what is sent then.
pub record Begins (s : Setting) (others : ℕ) (left : Reader) (bytes : List ℕ) (messages : List MessageTree) : Type 0 where
  pub items : List Item
  pub rest : List ℕ
  pub are : ItemsSoFarIn Standard s.reader.limit bytes items rest
  pub done : List Step
  pub undone : List Step
  pub is_done : IsDone s others items (done ++ undone)
  pub unsent : List MessageTree
  pub sent : AreSent s.reader done (messages ++ unsent)
  pub leaves : left ≡ left_after s done

-- What serving a client of the whole standard reads and writes while this many other clients come, by its answer, and the reader that is left.
abbrev pub RunsServeWhole : Setting → (others : ℕ) → (left : Reader) → SourceLog → SourceLog → SinkLog → SinkLog → List ℕ → Result (Unit {0}) ToolErr → Type 0
RunsServeWhole s others left r0 r1 w0 w1 bytes answer = RunsSaying (Says s others left) (Begins s others left) r0 r1 w0 w1 bytes answer

-- the same, where this is the count of those that came
abbrev pub RunsServeAmong : Setting → (count : ℕ) → (left : Reader) → SourceLog → SourceLog → SinkLog → SinkLog → Result (Unit {0}) ToolErr → Type 0
RunsServeAmong s count left r0 r1 w0 w1 answer = (others : ℕ) × (bytes : List ℕ) × (count ≡ counted others) × RunsServeWhole s others left r0 r1 w0 w1 bytes answer
