-- What the commands over sockets do, and how they end.
use Rattle.std.specs.Prelude.{◌≡◌, ℕ, List, Option, Some, None, Result, Ok, Err, codes}
use Rattle.llrp_stream.specs.Device.{SourceLog, SinkLog, Wrote, WroteAndFailed}
use Rattle.llrp_stream.specs.Calls.Device.{new_sink, new_source}
use Rattle.llrp_session.specs.ReaderMachine.{new_reader}
use Rattle.llrp_listing.specs.declared.outcome.ToolErr.{ToolErr}
use Rattle.llrp_listing.specs.declared.outcome.ToolErr.TheVariants.{Write}
use Rattle.llrp_endpoints.specs.declared.script.Entry.{Entry}
use Rattle.llrp_endpoints.specs.declared.summary.Summary.{Summary}
use Rattle.llrp_commands.specs.Calls.Command.{Answers, fine_status}
use Rattle.llrp_commands.specs.declared.command.TheConstants.{LIMIT}
use Rattle.llrp_listing.specs.Copying.{IsPrefix}
use Rattle.llrp_endpoints.specs.Plan.{Plan}
use Rattle.llrp_endpoints.specs.RunInventory.{RunsInventory}
use Rattle.llrp_endpoints.specs.RunLoop.{Devices, BothEnds, RunsLoop, Traffic, DeviceWay}
use Rattle.llrp_endpoints.specs.RunServe.{RunsServe}
use Rattle.llrp_endpoints.specs.Calls.ReadScript.{ReadsScript}
use Rattle.llrp.specs.declared.network.TheConstants.{FIRST_ID}

-- the line of a network that failed
abbrev pub network_line : List ℕ
network_line = codes "llrp: network\n"

-- The status of a command that ended so, and what it wrote to the sink for errors: nothing where all was fine, the line of
-- its error, or that of a network that failed; or the Write that stopped that line.
abbrev pub Concludes : Option (Result (Unit {0}) ToolErr) → SinkLog → SinkLog → Result ℕ ToolErr → Type 0
Concludes (Some outcome) e0 e1 answer = Answers (fine_status outcome) e0 e1 answer
Concludes None e0 e1 (Ok status) = (status ≡ 3) × Wrote e0 e1 network_line
Concludes None e0 e1 (Err fault) = (fault ≡ Write) × (front : List ℕ) × IsPrefix front network_line × WroteAndFailed e0 e1 front

-- a run's answer without its numbers
abbrev pub unnumbered : Result Summary ToolErr → Result (Unit {0}) ToolErr
unnumbered (Ok summary) = Ok tt
unnumbered (Err error) = Err error

-- ---- runs over sockets; std's contracts say neither what a socket has left to read nor what it took

-- A reader as new served a client by these entries, over a source and a sink of which nothing was read or written before.
abbrev pub Serves : List Entry → Result (Unit {0}) ToolErr → Type 0
Serves entries outcome = (source : SourceLog) × (sink : SinkLog) × (bytes : List ℕ)
    × RunsServe (new_reader LIMIT FIRST_ID) entries (new_source None) source (new_sink None) sink bytes outcome

-- A client followed the plan so, over such a source and sink. These are the logs of its report.
abbrev pub FollowsPlan : (limit : ℕ) → Plan → SinkLog → SinkLog → Result (Unit {0}) ToolErr → Type 0
FollowsPlan limit plan t0 t1 outcome = (run : Result Summary ToolErr) × (source : SourceLog) × (sink : SinkLog) × (bytes : List ℕ)
    × RunsInventory limit plan (new_source None) source (new_sink None) sink t0 t1 bytes run × (outcome ≡ unnumbered run)

-- the ends of the connection of a loop
abbrev pub both_ends : Plan → List Entry → BothEnds
both_ends plan entries = record { reader = new_reader LIMIT FIRST_ID; entries = entries; limit = LIMIT; plan = plan }

-- its two ways, of which nothing was read or written, and the report
abbrev pub new_devices : SinkLog → Devices
new_devices t0 = record {
  down = record { sink = new_sink None; source = new_source None };
  up = record { sink = new_sink None; source = new_source None };
  report = t0;
}

-- A reader as new served, by these entries, a client that followed the plan, over such ways.
abbrev pub RunsBoth : Plan → SinkLog → SinkLog → List Entry → Result (Unit {0}) ToolErr → Type 0
RunsBoth plan t0 t1 entries outcome = (run : Result Summary ToolErr) × (down up : DeviceWay) × (said_down said_up : Traffic)
    × RunsLoop (both_ends plan entries) (new_devices t0) (record { down = down; up = up; report = t1 }) said_down said_up run
    × (outcome ≡ unnumbered run)

-- ---- commands

-- the network failed, and so it is; or a run ended so
abbrev pub MayEnd : Type 0 → (Result (Unit {0}) ToolErr → Type 0) → Option (Result (Unit {0}) ToolErr) → Type 0
MayEnd Unrun Run None = Unrun
MayEnd Unrun Run (Some outcome) = Run outcome

-- The reader served the next client; nothing is said of a network that failed.
abbrev pub MayServe : List Entry → Option (Result (Unit {0}) ToolErr) → Type 0
MayServe entries outcome = MayEnd (Unit {0}) (Serves entries) outcome

-- The client followed the plan; nothing was reported where the network failed.
abbrev pub MayFollow : (limit : ℕ) → Plan → SinkLog → SinkLog → Option (Result (Unit {0}) ToolErr) → Type 0
MayFollow limit plan t0 t1 outcome = MayEnd (t1 ≡ t0) (FollowsPlan limit plan t0 t1) outcome

-- Both ends ran; nothing was reported where the network failed.
abbrev pub MayRunBoth : Plan → SinkLog → SinkLog → List Entry → Option (Result (Unit {0}) ToolErr) → Type 0
MayRunBoth plan t0 t1 entries outcome = MayEnd (t1 ≡ t0) (RunsBoth plan t0 t1 entries) outcome

-- a command with its script ends so, and one without ends with the error of reading it
abbrev pub GoesOnWith : Type 0 → (List Entry → Option (Result (Unit {0}) ToolErr) → Type 0) → Result (List Entry) ToolErr → Option (Result (Unit {0}) ToolErr) → Type 0
GoesOnWith Unrun Run (Ok entries) outcome = Run entries outcome
GoesOnWith Unrun Run (Err e) outcome = Unrun × (outcome ≡ Some (Err e))

-- What a command does that reads a script, and how it ends.
abbrev pub RunsScript : Type 0 → (List Entry → Option (Result (Unit {0}) ToolErr) → Type 0) → SourceLog → SourceLog → SinkLog → SinkLog → Result ℕ ToolErr → Type 0
RunsScript Unrun Run r0 r1 e0 e1 answer =
    (read : Result (List Entry) ToolErr) × (outcome : Option (Result (Unit {0}) ToolErr))
    × ReadsScript r0 r1 read × GoesOnWith Unrun Run read outcome × Concludes outcome e0 e1 answer

-- what `loop` does
abbrev pub RunsBothEnds : Plan → SourceLog → SourceLog → (t0 t1 e0 e1 : SinkLog) → Result ℕ ToolErr → Type 0
RunsBothEnds plan r0 r1 t0 t1 e0 e1 answer = RunsScript (t1 ≡ t0) (MayRunBoth plan t0 t1) r0 r1 e0 e1 answer

-- what `inventory` does
abbrev pub RunsPlan : (limit : ℕ) → Plan → (t0 t1 e0 e1 : SinkLog) → Result ℕ ToolErr → Type 0
RunsPlan limit plan t0 t1 e0 e1 answer = (outcome : Option (Result (Unit {0}) ToolErr)) × MayFollow limit plan t0 t1 outcome × Concludes outcome e0 e1 answer
