-- How `sim` serves clients one after another.
use Rattle.std.specs.Prelude.{◌≡◌, ℕ, ◌+◌, ◌-◌, ◌^◌, ◌<◌, ◌≤◌, ◌⊎◌, ◌==◌, Bool, true, false, if◌then◌else◌, List, ◌++◌, Option, Some, None, Result, Ok, Err, codes, decimal}
use Rattle.std.specs.Borrow.{Bor}
use Rattle.std.specs.List.{list_any}
use Rattle.llrp_stream.specs.Device.{SourceLog, SinkLog}
use Rattle.llrp_listing.specs.declared.outcome.ToolErr.{ToolErr}
use Rattle.llrp_listing.specs.declared.outcome.ToolErr.TheVariants.{Memory}
use Rattle.llrp_listing.specs.Calls.Copying.{Writes}
use Rattle.llrp_endpoints.specs.declared.script.Entry.{Entry}
use Rattle.llrp_words.specs.declared.arguments.sim_words.SimWords.{SimWords}
use Rattle.llrp_endpoints.specs.Calls.ReadScript.{ReadsScript}
use Rattle.llrp.specs.Calls.Network.{Concludes, Serves}

-- ---- how many

-- one client without a number, and no end where it is 0
abbrev pub most_clients : Option ℕ → ℕ
most_clients None = 1
most_clients (Some clients) = if clients == 0 then (2 ^ 64 - 1) else clients

-- one of two statuses is the greater
pub record IsGreater (a b greater : ℕ) : Type 0 where
  pub first : a ≤ greater
  pub second : b ≤ greater
  pub one : (greater ≡ a) ⊎ (greater ≡ b)

-- This many clients were served, each by a reader as new and all entries; how each ended was written, and the status is the greatest.
pub data ServedClients (entries : List Entry) : ℕ → SinkLog → SinkLog → ℕ → Type 0 where
  none : (e : SinkLog) → ServedClients entries 0 e e 0
  one_more : (n status ended greater : ℕ) (e0 e1 e2 : SinkLog) (run : Result (Unit {0}) ToolErr) → ServedClients entries n e0 e1 status → Serves entries run → Concludes (Some run) e1 e2 (Ok ended) → IsGreater status ended greater
      → ServedClients entries (n + 1) e0 e2 greater

-- why no more are served: the network failed, memory ran out, or how the last one ended could not be written
abbrev pub StopsServing : List Entry → SinkLog → SinkLog → Result ℕ ToolErr → Type 0
StopsServing entries e0 e1 answer =
    Concludes None e0 e1 answer ⊎ Concludes (Some (Err Memory)) e0 e1 answer
    ⊎ ((run : Result (Unit {0}) ToolErr) × (fault : ToolErr) × Serves entries run × Concludes (Some run) e0 e1 answer × (answer ≡ Err fault))

-- As many clients were served as may be, or fewer, and then no more.
abbrev pub ServesClients : List Entry → ℕ → SinkLog → SinkLog → Result ℕ ToolErr → Type 0
ServesClients entries most e0 e1 answer =
    ((status : ℕ) × ServedClients entries most e0 e1 status × (answer ≡ Ok status))
    ⊎ ((n status : ℕ) × (e : SinkLog) × (n < most) × ServedClients entries n e0 e status × StopsServing entries e e1 answer)

-- ---- where it listens

-- an address of IPv6, which has colons (58), stands in brackets
abbrev pub host_text : List ℕ → List ℕ
host_text address = if list_any (λ b. b == 58) address then ((codes "[" ++ address) ++ codes "]") else address

abbrev pub ready_line : List ℕ → ℕ → List ℕ
ready_line address port = (((codes "llrp: listening on " ++ host_text address) ++ codes ":") ++ decimal port) ++ codes "\n"

-- The line was written, or writing failed; or memory ran out first.
abbrev pub SaysReady : List ℕ → ℕ → SinkLog → SinkLog → Result (Unit {0}) ToolErr → Type 0
SaysReady address port e0 e1 outcome = Writes (ready_line address port) e0 e1 outcome ⊎ ((outcome ≡ Err Memory) × (e1 ≡ e0))

-- the address that the words name, or that of this machine alone
abbrev pub listens_on : Option (Bor (List ℕ)) → List ℕ
listens_on None = codes "127.0.0.1"
listens_on (Some address) = address.now

-- the port on which it listens: a free one where it is to be 0
abbrev pub IsPortOf : (wanted port : ℕ) → Type 0
IsPortOf wanted port = (wanted ≡ 0) ⊎ (port ≡ wanted)

-- ---- the command

-- where it is to say so, it has said where it listens
abbrev pub MaySay : (ready : Bool) → List ℕ → ℕ → SinkLog → SinkLog → Type 0
MaySay true address port e0 e1 = SaysReady address port e0 e1 (Ok tt)
MaySay false address port e0 e1 = e1 ≡ e0

-- it could not say so
abbrev pub FailsToSay : (ready : Bool) → List ℕ → ℕ → SinkLog → SinkLog → Result ℕ ToolErr → Type 0
FailsToSay true address port e0 e1 answer = (fault : ToolErr) × SaysReady address port e0 e1 (Err fault) × (answer ≡ Err fault)
FailsToSay false address port e0 e1 answer = ⊥

-- nothing listens there; or it says where it listens, if it is to, and then clients are served so
abbrev pub ServesThere : SimWords → (SinkLog → SinkLog → Result ℕ ToolErr → Type 0) → SinkLog → SinkLog → Result ℕ ToolErr → Type 0
ServesThere words Serve e0 e1 answer =
    Concludes None e0 e1 answer
    ⊎ ((port : ℕ) × IsPortOf words.port port × FailsToSay words.ready (listens_on words.bind) port e0 e1 answer)
    ⊎ ((port : ℕ) × (e : SinkLog) × IsPortOf words.port port × MaySay words.ready (listens_on words.bind) port e0 e × Serve e e1 answer)

abbrev pub ServesAt : SimWords → List Entry → SinkLog → SinkLog → Result ℕ ToolErr → Type 0
ServesAt words entries e0 e1 answer = ServesThere words (ServesClients entries (most_clients words.clients)) e0 e1 answer

-- a script that is read is served, and one that is not ends the command
abbrev pub ServesScript : SimWords → Result (List Entry) ToolErr → SinkLog → SinkLog → Result ℕ ToolErr → Type 0
ServesScript words (Ok entries) e0 e1 answer = ServesAt words entries e0 e1 answer
ServesScript words (Err error) e0 e1 answer = Concludes (Some (Err error)) e0 e1 answer

-- what `sim` does
abbrev pub RunsSim : SimWords → SourceLog → SourceLog → SinkLog → SinkLog → Result ℕ ToolErr → Type 0
RunsSim words r0 r1 e0 e1 answer = (read : Result (List Entry) ToolErr) × ReadsScript r0 r1 read × ServesScript words read e0 e1 answer
