-- What a reader that acts by a script stands for, and what its calls make of it.
use Rattle.std.specs.Prelude.{◌≡◌, ℕ, ◌+◌, ◌++◌, Bool, true, false, List, [], ◌∷◌, Result, Ok, Err}
use Rattle.llrp_schema.specs.declared.kinds.KindSet.TheVariants.{Standard}
use Rattle.llrp_tree.specs.Tree.{MessageTree}
use Rattle.llrp_stream.specs.Calls.Decoding.{StandsIn}
use Rattle.llrp_stream.specs.Cuts.{IsPartial}
use Rattle.llrp_stream.specs.Device.{SinkLog, Wrote, WroteAndFailed}
use Rattle.llrp_stream.specs.Items.{ItemsSoFarIn}
use Rattle.llrp_stream.specs.declared.item.Item.{Item}
use Rattle.llrp_session.specs.Calls.NextClient.{for_next_client}
use Rattle.llrp_session.specs.ReaderMachine.{Reader}
use Rattle.llrp_listing.specs.Copying.{IsPrefix}
use Rattle.llrp_listing.specs.declared.outcome.ToolErr.{ToolErr}
use Rattle.llrp_listing.specs.declared.outcome.ToolErr.TheVariants.{Broken, Early, Memory, Write}
use Rattle.llrp_versions.specs.declared.version.Version.TheVariants.{First}
use Rattle.llrp_endpoints.specs.Calls.Script.{IsLawfulScript}
use Rattle.llrp_endpoints.specs.RunServe.{FirstFrames, ServedAll}
use Rattle.llrp_endpoints.specs.Sending.{AreFrames}
use Rattle.llrp_endpoints.specs.Serving.{broken, closed, early, ended}
use Rattle.llrp_live.specs.Calls.Doings.{closes, course, once}
use Rattle.llrp_live.specs.Calls.Living.{Lives, NoneCloses, begun, came}
use Rattle.llrp_general.specs.Calls.Located.{IsSentTo}
use Rattle.llrp_general.specs.Calls.Serving.{Setting, Step, AreSent, Begins, HasClosed, IsDone, Says, StaysOpen, all_dated, counted, next_step}
use Rattle.llrp_general.specs.Private.Acting.{HasDone}
use Rattle.llrp_general.specs.declared.serving.WholeReader.{WholeReader}
use Rattle.llrp_general.specs.declared.serving.Going.{Going}
use Rattle.llrp_general.specs.declared.serving.Going.TheVariants.{On, Closed, Broken as IsBroken}

-- the reader that it leaves
abbrev pub left_by : WholeReader → Reader
left_by server = for_next_client server.reader.core

-- as `new` made it
pub record IsFresh (s : Setting) (server : WholeReader) : Type 0 where
  pub lives : Lives (begun s.reader s.answers) [] [] [] server.reader
  pub decoder : StandsIn Standard server.decoder []
  pub limit : server.decoder.limit ≡ s.reader.limit
  pub lawful : IsLawfulScript s.entries
  pub script_is : server.script ≡ s.entries
  pub none_done : server.done ≡ 0
  pub begins : server.moment ≡ 0

-- the moment of the last of these steps, or this one where there is none
abbrev pub last_now : ℕ → List Step → ℕ
last_now now [] = now
last_now now (step ∷ steps) = last_now step.dated.now steps

-- Its reader was given these octets, of which these are the items, this many other clients came, and these messages were sent; it goes on.
pub record Follows (s : Setting) (others : ℕ) (bytes : List ℕ) (messages : List MessageTree) (items : List Item) (server : WholeReader) : Type 0 where
  pub none : NoneCloses items
  pub done : List Step
  pub is_done : IsDone s others items done
  pub sent : AreSent s.reader done messages
  pub lives : Lives (begun s.reader s.answers) (all_dated done) bytes items server.reader
  pub entries : HasDone (came s.answers First items + 1) s.entries server.script server.done server.moment
  pub moment : server.moment ≡ last_now 0 done

-- and its own decoder stands for the same octets
pub record Stands (s : Setting) (others : ℕ) (bytes : List ℕ) (messages : List MessageTree) (server : WholeReader) : Type 0 where
  pub items : List Item
  pub rest : List ℕ
  pub are : ItemsSoFarIn Standard s.reader.limit bytes items rest
  pub follows : Follows s others bytes messages items server
  pub decoder : StandsIn Standard server.decoder rest
  pub limit : server.decoder.limit ≡ s.reader.limit

-- ---- octets of one frame

-- they end no frame: nothing is sent
abbrev pub Held : Setting → ℕ → List ℕ → List MessageTree → List Item → WholeReader → Result (Unit {0}) ToolErr → Type 0
Held s others bytes messages items new (Ok u) = Follows s others bytes messages items new
Held s others bytes messages items new (Err error) = (error ≡ Memory) × Begins s others (left_by new) bytes messages

abbrev pub Holds : List ℕ → WholeReader → WholeReader → Result (Unit {0}) ToolErr → Type 0
Holds part old new answer =
    (s : Setting) (others : ℕ) (bytes rest : List ℕ) (messages : List MessageTree) (items : List Item) → Follows s others bytes messages items old
    → ItemsSoFarIn Standard s.reader.limit (bytes ++ part) items rest → IsPartial rest → Held s others (bytes ++ part) messages items new answer

-- its script, how far that is done, and its decoder are the same
pub record IsKept (old new : WholeReader) : Type 0 where
  pub script : new.script ≡ old.script
  pub done : new.done ≡ old.done
  pub moment : new.moment ≡ old.moment
  pub decoder : new.decoder ≡ old.decoder

-- they end with this item's frame after these steps, and what is sent to that was appended; no entry happened yet
pub record FetchedOn (s : Setting) (done : List Step) (bytes : List ℕ) (items : List Item) (item : Item) (new : WholeReader) (sent0 sent1 : List MessageTree) : Type 0 where
  pub placed : List MessageTree
  pub sent : sent1 ≡ sent0 ++ placed
  pub is : IsSentTo item (once (course s.reader (all_dated done)).reader (next_step s items item).dated (next_step s items item).dated.doing).said placed
  pub open_still : closes item ≡ false
  pub lives : Lives (begun s.reader s.answers) (all_dated done ++ (next_step s items item).dated ∷ []) bytes (items ++ item ∷ []) new.reader

abbrev pub Fetched : Setting → ℕ → List Step → List ℕ → List MessageTree → List Item → Item → WholeReader → List MessageTree → List MessageTree → Result Bool ToolErr → Type 0
Fetched s others done bytes messages items item new sent0 sent1 (Ok false) = FetchedOn s done bytes items item new sent0 sent1
Fetched s others done bytes messages items item new sent0 sent1 (Ok true) = (more : List MessageTree) × (sent1 ≡ sent0 ++ more) × HasClosed s others (left_by new) bytes (messages ++ more)
Fetched s others done bytes messages items item new sent0 sent1 (Err error) = (error ≡ Memory) × Begins s others (left_by new) bytes messages

abbrev pub Fetches : List ℕ → Item → WholeReader → WholeReader → List MessageTree → List MessageTree → Result Bool ToolErr → Type 0
Fetches part item old new sent0 sent1 answer =
    (s : Setting) (others : ℕ) (bytes : List ℕ) (messages : List MessageTree) (items : List Item) (follows : Follows s others bytes messages items old)
    → ItemsSoFarIn Standard s.reader.limit (bytes ++ part) (items ++ item ∷ []) [] → Fetched s others follows.done (bytes ++ part) messages items item new sent0 sent1 answer

-- they end with this item's frame: it goes on, the client closed the connection, or memory ran out
abbrev pub Took : Setting → ℕ → List ℕ → List MessageTree → List Item → Item → WholeReader → List MessageTree → List MessageTree → Result Bool ToolErr → Type 0
Took s others bytes messages items item new sent0 sent1 (Ok false) = (more : List MessageTree) × (sent1 ≡ sent0 ++ more) × Follows s others bytes (messages ++ more) (items ++ item ∷ []) new
Took s others bytes messages items item new sent0 sent1 (Ok true) = (more : List MessageTree) × (sent1 ≡ sent0 ++ more) × HasClosed s others (left_by new) bytes (messages ++ more)
Took s others bytes messages items item new sent0 sent1 (Err error) = (error ≡ Memory) × Begins s others (left_by new) bytes messages

abbrev pub Takes : List ℕ → Item → WholeReader → WholeReader → List MessageTree → List MessageTree → Result Bool ToolErr → Type 0
Takes part item old new sent0 sent1 answer =
    (s : Setting) (others : ℕ) (bytes : List ℕ) (messages : List MessageTree) (items : List Item) → Follows s others bytes messages items old
    → ItemsSoFarIn Standard s.reader.limit (bytes ++ part) (items ++ item ∷ []) [] → Took s others (bytes ++ part) messages items item new sent0 sent1 answer

-- ---- a piece

abbrev pub Went : Setting → ℕ → List ℕ → List MessageTree → WholeReader → Going → Type 0
Went s others bytes messages new On = Stands s others bytes messages new
Went s others bytes messages new Closed = HasClosed s others (left_by new) bytes messages
Went s others bytes messages new IsBroken = StaysOpen s others (left_by new) bytes messages broken

abbrev pub Fed : Setting → ℕ → List ℕ → List MessageTree → WholeReader → List MessageTree → List MessageTree → Result Going ToolErr → Type 0
Fed s others bytes messages new sent0 sent1 (Ok going) = (more : List MessageTree) × (sent1 ≡ sent0 ++ more) × Went s others bytes (messages ++ more) new going
Fed s others bytes messages new sent0 sent1 (Err error) = (error ≡ Memory) × Begins s others (left_by new) bytes messages

abbrev pub Feeds : List ℕ → WholeReader → WholeReader → List MessageTree → List MessageTree → Result Going ToolErr → Type 0
Feeds piece old new sent0 sent1 answer =
    (s : Setting) (others : ℕ) (bytes : List ℕ) (messages : List MessageTree) → Stands s others bytes messages old → Fed s others (bytes ++ piece) messages new sent0 sent1 answer

-- how the input ends
abbrev pub Finishes : Setting → ℕ → List ℕ → List MessageTree → WholeReader → Result (Unit {0}) ToolErr → Type 0
Finishes s others bytes messages server (Ok u) = StaysOpen s others (left_by server) bytes messages ended
Finishes s others bytes messages server (Err Early) = StaysOpen s others (left_by server) bytes messages early
Finishes s others bytes messages server (Err _) = ⊥

-- ---- without octets

-- it goes on, by an answer that does not say so
abbrev pub goes_on : Result (Unit {0}) ToolErr → Result Going ToolErr
goes_on (Ok u) = Ok On
goes_on (Err error) = Err error

-- the client connects
abbrev pub Starts : WholeReader → WholeReader → List MessageTree → List MessageTree → Result (Unit {0}) ToolErr → Type 0
Starts old new sent0 sent1 answer = (s : Setting) → IsFresh s old → Fed s 0 [] [] new sent0 sent1 (goes_on answer)

-- another client came
abbrev pub Notes : WholeReader → WholeReader → List MessageTree → List MessageTree → Result (Unit {0}) ToolErr → Type 0
Notes old new sent0 sent1 answer =
    (s : Setting) (others : ℕ) (bytes : List ℕ) (messages : List MessageTree) → Stands s others bytes messages old → Fed s (others + 1) bytes messages new sent0 sent1 (goes_on answer)

-- ---- what is sent is written

-- the frames of the messages were written, or a front of them; or memory ran out before
abbrev pub Speaks : List MessageTree → SinkLog → SinkLog → Result (Unit {0}) ToolErr → Type 0
Speaks messages w0 w1 (Ok u) = (text : List ℕ) × AreFrames messages text × Wrote w0 w1 text
Speaks messages w0 w1 (Err Write) = (text front : List ℕ) × AreFrames messages text × IsPrefix front text × WroteAndFailed w0 w1 front
Speaks messages w0 w1 (Err Memory) = w1 ≡ w0
Speaks messages w0 w1 (Err _) = ⊥

-- the answer of a piece after which it goes so
abbrev pub answer_of : Going → Result Bool ToolErr
answer_of On = Ok false
answer_of Closed = Ok true
answer_of IsBroken = Err Broken

-- whether it closed, by an answer that does not say so
abbrev pub not_closed : Result (Unit {0}) ToolErr → Result Bool ToolErr
not_closed (Ok u) = Ok false
not_closed (Err error) = Err error

-- all that was sent so far was written, and it goes on
pub record Served (s : Setting) (others : ℕ) (bytes : List ℕ) (w0 w1 : SinkLog) (server : WholeReader) : Type 0 where
  pub messages : List MessageTree
  pub text : List ℕ
  pub stands : Stands s others bytes messages server
  pub frames : AreFrames messages text
  pub wrote : Wrote w0 w1 text

-- What was served, by the answer whether the client closed the connection.
abbrev pub ServesOn : Setting → ℕ → List ℕ → SinkLog → SinkLog → WholeReader → Result Bool ToolErr → Type 0
ServesOn s others bytes w0 w1 server (Ok false) = Served s others bytes w0 w1 server
ServesOn s others bytes w0 w1 server (Ok true) = ServedAll (Says s others (left_by server)) bytes closed w0 w1
ServesOn s others bytes w0 w1 server (Err Broken) = ServedAll (Says s others (left_by server)) bytes broken w0 w1
ServesOn s others bytes w0 w1 server (Err Write) = (text front : List ℕ) × FirstFrames (Begins s others (left_by server)) bytes text × IsPrefix front text × WroteAndFailed w0 w1 front
ServesOn s others bytes w0 w1 server (Err Memory) = (text : List ℕ) × FirstFrames (Begins s others (left_by server)) bytes text × Wrote w0 w1 text
ServesOn s others bytes w0 w1 server (Err _) = ⊥

-- The same after other clients came before octets did: with them it is as many as this count says.
abbrev pub ServesNoted : Setting → List ℕ → SinkLog → SinkLog → WholeReader → (count : ℕ) → Result (Unit {0}) ToolErr → Type 0
ServesNoted s bytes w0 w1 server count answer = (others : ℕ) × (count ≡ counted others) × ServesOn s others bytes w0 w1 server (not_closed answer)
