-- What a `Serving` stands for, and what its calls make of it.
use Rattle.std.specs.Prelude.{◌≡◌, ◌≢◌, ℕ, ◌+◌, ◌<◌, ◌≤◌, ◌++◌, List, [], length, min, Result, Ok, Err, Bool, true, false}
use Rattle.std.specs.List.{AllByRecursion}
use Rattle.llrp_tree.specs.Tree.{MessageTree}
use Rattle.llrp_stream.specs.Calls.Decoding.{Stands}
use Rattle.llrp_stream.specs.declared.item.Item.{Item}
use Rattle.llrp_session.specs.ReaderMachine.{Reader}
use Rattle.llrp_listing.specs.declared.outcome.ToolErr.{ToolErr}
use Rattle.llrp_listing.specs.declared.outcome.ToolErr.TheVariants.{Broken, Memory}
use Rattle.llrp_endpoints.specs.declared.script.Entry.{Entry}
use Rattle.llrp_endpoints.specs.declared.serving.scripted.ScriptedReader.{ScriptedReader}
use Rattle.llrp_endpoints.specs.declared.serving.Serving.{Serving}
use Rattle.llrp_endpoints.specs.declared.serving.Phase.TheVariants.{New, Open, Closed, Failed}
use Rattle.llrp_endpoints.specs.Calls.Script.{IsLawfulScript}
use Rattle.llrp_endpoints.specs.Serving.{events, last_moment, run, waiting, closed, broken, StaysOpen, Serves, BeginsServing}
use Rattle.llrp_endpoints.specs.Sending.{Adds}
use Rattle.llrp_endpoints.specs.TagLines.{greatest_count}
use Rattle.llrp_endpoints.specs.Calls.Acting.{phase_after}

-- Of the entries those after fewer items than this are done, and the others are left.
pub record HasDone (count : ℕ) (entries : List Entry) (s : ScriptedReader) : Type 0 where
  pub done : List Entry
  pub left : List Entry
  pub whole : entries ≡ done ++ left
  pub lawful : IsLawfulScript entries
  pub script_is : s.script ≡ entries
  pub done_is : s.done ≡ length done
  pub done_are : AllByRecursion (λ e. e.after < count) done
  pub left_are : AllByRecursion (λ e. count ≤ e.after) left
  pub moment_is : s.moment ≡ last_moment 0 done

-- These items were taken, each followed by its entries.
pub record HasTaken (reader : Reader) (entries : List Entry) (items : List Item) (s : ScriptedReader) : Type 0 where
  pub reader_is : s.core ≡ (run reader (events entries items)).reader
  pub done : HasDone (length items + 1) entries s
  pub taken_is : s.taken ≡ min (length items) greatest_count

-- It was handed these bytes: their items were taken, these messages were said, and the decoder keeps the rest.
pub record StandsFor (reader : Reader) (entries : List Entry) (bytes : List ℕ) (messages : List MessageTree) (s : Serving) : Type 0 where
  pub stays : StaysOpen reader entries bytes messages waiting
  pub taken : HasTaken reader entries stays.items s.reader
  pub decoder : Stands s.decoder stays.rest
  pub limit : s.decoder.limit ≡ reader.limit

-- this reader with this script, before anything happened
pub record IsNew (reader : Reader) (entries : List Entry) (s : ScriptedReader) : Type 0 where
  pub reader_is : s.core ≡ reader
  pub lawful : IsLawfulScript entries
  pub script_is : s.script ≡ entries
  pub none_done : s.done ≡ 0
  pub none_taken : s.taken ≡ 0
  pub begins : s.moment ≡ 0

-- as `new` made it
pub record IsFresh (reader : Reader) (entries : List Entry) (s : Serving) : Type 0 where
  pub new : IsNew reader entries s.reader
  pub decoder : Stands s.decoder []
  pub limit : s.decoder.limit ≡ reader.limit
  pub phase : s.phase ≡ New

-- it takes bytes
pub record IsOpen (reader : Reader) (entries : List Entry) (bytes : List ℕ) (messages : List MessageTree) (s : Serving) : Type 0 where
  pub stands : StandsFor reader entries bytes messages s
  pub phase : s.phase ≡ Open

abbrev pub IsClosed : Serving → Type 0
IsClosed s = s.phase ≡ Closed

abbrev pub HasFailed : ToolErr → Serving → Type 0
HasFailed error s = s.phase ≡ Failed error

-- no client has connected yet
abbrev pub HasNotStarted : Serving → Type 0
HasNotStarted s = s.phase ≡ New

-- `start` was called
abbrev pub HasStarted : Serving → Type 0
HasStarted s = s.phase ≢ New

-- ---- the calls

-- what `start` makes of it: what the reader says before any item was appended, or some of it
abbrev pub Starts : Reader → List Entry → Serving → List ℕ → List ℕ → Result (Unit {0}) ToolErr → Type 0
Starts reader entries new out0 out1 (Ok u) = (messages : List MessageTree) × Adds messages out0 out1 × IsOpen reader entries [] messages new
Starts reader entries new out0 out1 (Err error) = (error ≡ Memory) × (messages : List MessageTree) × Adds messages out0 out1 × BeginsServing reader entries [] messages × HasFailed error new

-- an end of serving by an error of a feed
abbrev pub Fails : Reader → List Entry → List ℕ → List MessageTree → ToolErr → Type 0
Fails reader entries bytes messages Broken = Serves reader entries bytes messages broken
Fails reader entries bytes messages Memory = BeginsServing reader entries bytes messages
Fails reader entries bytes messages _ = ⊥

-- What a feed makes of it: it goes on, the client closed the connection, or it ended by an error.
abbrev pub Goes : Reader → List Entry → List ℕ → List MessageTree → Serving → Result Bool ToolErr → Type 0
Goes reader entries bytes messages new (Ok false) = StandsFor reader entries bytes messages new
Goes reader entries bytes messages new (Ok true) = Serves reader entries bytes messages closed
Goes reader entries bytes messages new (Err error) = Fails reader entries bytes messages error

-- what the reader says to a piece after the bytes was appended, or some of it
abbrev pub Feeds : Reader → List Entry → List ℕ → List MessageTree → List ℕ → Serving → List ℕ → List ℕ → Result Bool ToolErr → Type 0
Feeds reader entries bytes messages piece new out0 out1 answer =
    (more : List MessageTree) × Adds more out0 out1 × Goes reader entries (bytes ++ piece) (messages ++ more) new answer × (new.phase ≡ phase_after answer)

-- whoever is served and whatever came before, it took this piece so
abbrev pub FeedsPiece : List ℕ → Serving → Serving → List ℕ → List ℕ → Result Bool ToolErr → Type 0
FeedsPiece piece old new out0 out1 answer =
    (reader : Reader) (entries : List Entry) (bytes : List ℕ) (messages : List MessageTree) → IsOpen reader entries bytes messages old
    → Feeds reader entries bytes messages piece new out0 out1 answer
