-- How `sim --all` serves general clients one after another.
use Rattle.std.specs.Prelude.{◌≡◌, ℕ, ◌+◌, ◌<◌, ◌⊎◌, Bool, if◌then◌else◌, List, None, Some, Result, Ok, Err}
use Rattle.llrp_stream.specs.Device.{SourceLog, SinkLog}
use Rattle.llrp_stream.specs.Calls.Device.{new_sink, new_source}
use Rattle.llrp_session.specs.ReaderMachine.{Reader, new_reader}
use Rattle.llrp_listing.specs.declared.outcome.ToolErr.{ToolErr}
use Rattle.llrp_listing.specs.declared.outcome.ToolErr.TheVariants.{Memory}
use Rattle.llrp_answers.specs.declared.answers.Pair.{Pair}
use Rattle.llrp_answers.specs.Calls.Answers.{IsFile}
use Rattle.llrp_endpoints.specs.declared.script.Entry.{Entry}
use Rattle.llrp_endpoints.specs.Calls.ReadScript.{ReadsScript}
use Rattle.llrp_general.specs.Calls.Serving.{RunsServeAmong, setting}
use Rattle.llrp_words.specs.declared.arguments.sim_words.SimWords.{SimWords}
use Rattle.llrp_commands.specs.declared.command.TheConstants.{LIMIT}
use Rattle.llrp.specs.declared.network.TheConstants.{FIRST_ID}
use Rattle.llrp.specs.Calls.Network.{Concludes}
use Rattle.llrp.specs.Calls.Clients.{IsGreater, ServesThere, most_clients}

-- A reader served a client by these answers and these entries, while some other clients came, and was left so, over a source and a sink of
-- which nothing was read or written before; std's contracts say neither what a socket has left to read nor what it took.
abbrev pub ServesGeneral : List Pair → List Entry → (core left : Reader) → Result (Unit {0}) ToolErr → Type 0
ServesGeneral answers entries core left outcome = (source : SourceLog) × (sink : SinkLog) × (count : ℕ)
    × RunsServeAmong (setting core answers entries) count left (new_source None) source (new_sink None) sink outcome

-- the reader for the next client: the one that was left, if it is kept, or one as new
abbrev pub next_reader : (keep : Bool) → Reader → Reader
next_reader keep left = if keep then left else new_reader LIMIT FIRST_ID

-- This many clients were served, each by such a reader, the answers of this text and all entries, and this is the next reader; how each
-- ended was written, and the status is the greatest.
pub data ServedGenerals (text : List ℕ) (keep : Bool) (entries : List Entry) : ℕ → Reader → SinkLog → SinkLog → ℕ → Type 0 where
  none : (e : SinkLog) → ServedGenerals text keep entries 0 (new_reader LIMIT FIRST_ID) e e 0
  one_more : (n status ended greater : ℕ) (core left : Reader) (answers : List Pair) (e0 e1 e2 : SinkLog) (run : Result (Unit {0}) ToolErr) → ServedGenerals text keep entries n core e0 e1 status → IsFile text answers
      → ServesGeneral answers entries core left run → Concludes (Some run) e1 e2 (Ok ended) → IsGreater status ended greater
      → ServedGenerals text keep entries (n + 1) (next_reader keep left) e0 e2 greater

-- why no more are served by a reader: the network failed, memory ran out, or how the last one ended could not be written
abbrev pub StopsGeneral : (text : List ℕ) → List Entry → Reader → SinkLog → SinkLog → Result ℕ ToolErr → Type 0
StopsGeneral text entries core e0 e1 answer =
    Concludes None e0 e1 answer ⊎ Concludes (Some (Err Memory)) e0 e1 answer
    ⊎ ((left : Reader) × (answers : List Pair) × (run : Result (Unit {0}) ToolErr) × (fault : ToolErr) × IsFile text answers × ServesGeneral answers entries core left run × Concludes (Some run) e0 e1 answer × (answer ≡ Err fault))

-- As many clients were served as may be, or fewer, and then no more.
abbrev pub ServesGenerals : (text : List ℕ) → (keep : Bool) → List Entry → ℕ → SinkLog → SinkLog → Result ℕ ToolErr → Type 0
ServesGenerals text keep entries most e0 e1 answer =
    ((status : ℕ) × (core : Reader) × ServedGenerals text keep entries most core e0 e1 status × (answer ≡ Ok status))
    ⊎ ((n status : ℕ) × (core : Reader) × (e : SinkLog) × (n < most) × ServedGenerals text keep entries n core e0 e status × StopsGeneral text entries core e e1 answer)

-- nothing listens there; or it says where it listens, if it is to, and serves its clients
abbrev pub ServesGeneralAt : SimWords → (text : List ℕ) → List Entry → SinkLog → SinkLog → Result ℕ ToolErr → Type 0
ServesGeneralAt words text entries e0 e1 answer = ServesThere words (ServesGenerals text words.keep entries (most_clients words.clients)) e0 e1 answer

-- a script that is read is served, and one that is not ends the command
abbrev pub ServesGeneralScript : SimWords → (text : List ℕ) → Result (List Entry) ToolErr → SinkLog → SinkLog → Result ℕ ToolErr → Type 0
ServesGeneralScript words text (Ok entries) e0 e1 answer = ServesGeneralAt words text entries e0 e1 answer
ServesGeneralScript words text (Err error) e0 e1 answer = Concludes (Some (Err error)) e0 e1 answer

-- what `sim --all` does, where this is the text of its answers
abbrev pub RunsGeneralSim : SimWords → (text : List ℕ) → SourceLog → SourceLog → SinkLog → SinkLog → Result ℕ ToolErr → Type 0
RunsGeneralSim words text r0 r1 e0 e1 answer = (read : Result (List Entry) ToolErr) × ReadsScript r0 r1 read × ServesGeneralScript words text read e0 e1 answer
