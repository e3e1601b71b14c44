-- What runs over sockets say of devices as new.
use Rattle.std.proofs.Common.{◌≡◌, List, ℕ, None, refl}
use Rattle.std.specs.Prelude.{Result}
use Rattle.llrp_stream.specs.Device.{SourceLog, SinkLog}
use Rattle.llrp_stream.specs.Calls.Device.{new_sink, new_source}
use Rattle.llrp_session.specs.ReaderMachine.{Reader, new_reader}
use Rattle.llrp_listing.specs.declared.outcome.ToolErr.{ToolErr}
use Rattle.llrp_endpoints.specs.declared.script.Entry.{Entry}
use Rattle.llrp_endpoints.specs.declared.summary.Summary.{Summary}
use Rattle.llrp_endpoints.specs.Plan.{Plan}
use Rattle.llrp_endpoints.specs.RunInventory.{RunsInventory}
use Rattle.llrp_endpoints.specs.RunLoop.{RunsLoop, Traffic, DeviceWay}
use Rattle.llrp_endpoints.specs.RunServe.{RunsServe}
use Rattle.llrp_commands.specs.declared.command.TheConstants.{LIMIT}
use Rattle.llrp.specs.declared.network.TheConstants.{FIRST_ID}
use Rattle.llrp.specs.Calls.Network.{FollowsPlan, RunsBoth, Serves, unnumbered}

pub serves : (entries : List Entry) (core : Reader) (r0 r1 : SourceLog) (w0 w1 : SinkLog) (bytes : List ℕ) (outcome : Result (Unit {0}) ToolErr) → core ≡ new_reader LIMIT FIRST_ID → r0 ≡ new_source None → w0 ≡ new_sink None
    → RunsServe core entries r0 r1 w0 w1 bytes outcome → Serves entries outcome
serves entries core r0 r1 w0 w1 bytes outcome reader source sink run = (r1, w1, bytes, rw (reader, source, sink) at run)

pub follows : (limit : ℕ) (plan : Plan) (r0 r1 : SourceLog) (w0 w1 t0 t1 : SinkLog) (bytes : List ℕ) (run : Result Summary ToolErr) → r0 ≡ new_source None → w0 ≡ new_sink None
    → RunsInventory limit plan r0 r1 w0 w1 t0 t1 bytes run → FollowsPlan limit plan t0 t1 (unnumbered run)
follows limit plan r0 r1 w0 w1 t0 t1 bytes run source sink runs = (run, r1, w1, bytes, rw (source, sink) at runs, refl)

pub runs_both : (plan : Plan) (entries : List Entry) (core : Reader) (k m : SinkLog) (r s : SourceLog) (t0 t1 : SinkLog) (down up : DeviceWay) (x y : Traffic) (run : Result Summary ToolErr) → core ≡ new_reader LIMIT FIRST_ID
    → k ≡ new_sink None → r ≡ new_source None → m ≡ new_sink None → s ≡ new_source None
    → RunsLoop (record { reader = core; entries = entries; limit = LIMIT; plan = plan }) (record { down = record { sink = k; source = r }; up = record { sink = m; source = s }; report = t0 }) (record { down = down; up = up; report = t1 }) x y run
    → RunsBoth plan t0 t1 entries (unnumbered run)
runs_both plan entries core k m r s t0 t1 down up x y run reader a b c d runs = (run, down, up, x, y, rw (reader, a, b, c, d) at runs, refl)
