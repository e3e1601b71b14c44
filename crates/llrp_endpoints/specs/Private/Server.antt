-- What the calls of a server make of it, where so it takes bytes, this is what it says to bytes, and this is what the first of that is.
use Rattle.std.specs.Prelude.{◌≡◌, ℕ, ◌++◌, List, [], Bool, true, false, Result, Ok, Err}
use Rattle.llrp_tree.specs.Tree.{MessageTree}
use Rattle.llrp_stream.specs.Device.{SourceLog, SinkLog}
use Rattle.llrp_session.specs.ReaderMachine.{Reader}
use Rattle.llrp_listing.specs.declared.outcome.ToolErr.{ToolErr}
use Rattle.llrp_listing.specs.declared.outcome.ToolErr.TheVariants.{Broken, Memory, Early}
use Rattle.llrp_endpoints.specs.declared.script.Entry.{Entry}
use Rattle.llrp_endpoints.specs.RunServe.{RunsSaying}
use Rattle.llrp_endpoints.specs.Sending.{Adds}
use Rattle.llrp_endpoints.specs.Serving.{Standing, waiting, closed, ended, early, broken}

-- it takes bytes after these, to which these messages were said
abbrev pub Takes : {S : Type 0} → (List ℕ → List MessageTree → S → Type 0) → (List ℕ → List MessageTree → Standing → Type 0) → List ℕ → List MessageTree → S → Type 0
Takes Opened Says bytes messages server = Opened bytes messages server × Says bytes messages waiting

-- what was said before any bytes was appended, or the first of it
abbrev pub Starts : {S : Type 0} → (List ℕ → List MessageTree → S → Type 0) → (List ℕ → List MessageTree → Standing → Type 0) → (List ℕ → List MessageTree → Type 0) → S → List ℕ → List ℕ → Result (Unit {0}) ToolErr → Type 0
Starts Opened Says Begins new out0 out1 (Ok u) = (messages : List MessageTree) × Adds messages out0 out1 × Begins [] messages × Takes Opened Says [] messages new
Starts Opened Says Begins new out0 out1 (Err error) = (messages : List MessageTree) × Adds messages out0 out1 × Begins [] messages × (error ≡ Memory)

-- it goes on, the client closed the connection, or it ended by an error
abbrev pub Goes : {S : Type 0} → (List ℕ → List MessageTree → S → Type 0) → (List ℕ → List MessageTree → Standing → Type 0) → List ℕ → List MessageTree → S → Result Bool ToolErr → Type 0
Goes Opened Says bytes messages new (Ok false) = Takes Opened Says bytes messages new
Goes Opened Says bytes messages new (Ok true) = Says bytes messages closed
Goes Opened Says bytes messages new (Err Broken) = Says bytes messages broken
Goes Opened Says bytes messages new (Err Memory) = Unit {0}
Goes Opened Says bytes messages new (Err _) = ⊥

-- what is said to a piece after the bytes was appended, or the first of it
abbrev pub Feeds : {S : Type 0} → (List ℕ → List MessageTree → S → Type 0) → (List ℕ → List MessageTree → Standing → Type 0) → (List ℕ → List MessageTree → Type 0) → List ℕ → List MessageTree → List ℕ → S → List ℕ → List ℕ → Result Bool ToolErr → Type 0
Feeds Opened Says Begins bytes messages piece new out0 out1 answer =
    (more : List MessageTree) × Adds more out0 out1 × Begins (bytes ++ piece) (messages ++ more) × Goes Opened Says (bytes ++ piece) (messages ++ more) new answer

-- how serving ends where the input does
abbrev pub Finishes : (List ℕ → List MessageTree → Standing → Type 0) → List ℕ → List MessageTree → Result (Unit {0}) ToolErr → Type 0
Finishes Says bytes messages (Ok u) = Says bytes messages ended
Finishes Says bytes messages (Err Early) = Says bytes messages early
Finishes Says bytes messages (Err _) = ⊥

-- ---- the same, whatever reader and script it serves by and whatever came before

abbrev pub StartsServer : {S : Type 0} → (fresh : Reader → List Entry → S → Type 0) → (opened : Reader → List Entry → List ℕ → List MessageTree → S → Type 0) → (says : Reader → List Entry → List ℕ → List MessageTree → Standing → Type 0) → (begins : Reader → List Entry → List ℕ → List MessageTree → Type 0) → S → S → List ℕ → List ℕ → Result (Unit {0}) ToolErr → Type 0
StartsServer fresh opened says begins old new out0 out1 answer =
    (reader : Reader) (entries : List Entry) → fresh reader entries old
    → Starts (opened reader entries) (says reader entries) (begins reader entries) new out0 out1 answer

abbrev pub FeedsServer : {S : Type 0} → (opened : Reader → List Entry → List ℕ → List MessageTree → S → Type 0) → (says : Reader → List Entry → List ℕ → List MessageTree → Standing → Type 0) → (begins : Reader → List Entry → List ℕ → List MessageTree → Type 0) → List ℕ → S → S → List ℕ → List ℕ → Result Bool ToolErr → Type 0
FeedsServer opened says begins piece old new out0 out1 answer =
    (reader : Reader) (entries : List Entry) (bytes : List ℕ) (messages : List MessageTree) → opened reader entries bytes messages old
    → Feeds (opened reader entries) (says reader entries) (begins reader entries) bytes messages piece new out0 out1 answer

abbrev pub FinishesServer : {S : Type 0} → (opened : Reader → List Entry → List ℕ → List MessageTree → S → Type 0) → (says : Reader → List Entry → List ℕ → List MessageTree → Standing → Type 0) → S → Result (Unit {0}) ToolErr → Type 0
FinishesServer opened says server answer =
    (reader : Reader) (entries : List Entry) (bytes : List ℕ) (messages : List MessageTree) → opened reader entries bytes messages server
    → Finishes (says reader entries) bytes messages answer

-- a run from before it started
abbrev pub RunsServer : {S : Type 0} → (fresh : Reader → List Entry → S → Type 0) → (says : Reader → List Entry → List ℕ → List MessageTree → Standing → Type 0) → (begins : Reader → List Entry → List ℕ → List MessageTree → Type 0) → S → SourceLog → SourceLog → SinkLog → SinkLog → Result (Unit {0}) ToolErr → Type 0
RunsServer fresh says begins server r0 r1 w0 w1 answer =
    (reader : Reader) (entries : List Entry) → fresh reader entries server
    → (bytes : List ℕ) × RunsSaying (says reader entries) (begins reader entries) r0 r1 w0 w1 bytes answer
