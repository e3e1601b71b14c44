-- What a run of ask says of devices as new.
use Rattle.std.proofs.Common.{◌≡◌, List, None, subst}
use Rattle.std.specs.Prelude.{Result}
use Rattle.llrp_stream.specs.Device.{SourceLog, SinkLog}
use Rattle.llrp_stream.specs.Calls.Device.{new_sink, new_source}
use Rattle.llrp_listing.specs.declared.outcome.ToolErr.{ToolErr}
use Rattle.llrp_listing.specs.declared.outcome.Verdict.{Verdict}
use Rattle.llrp_ask.specs.declared.ask.Manner.{Manner}
use Rattle.llrp_ask.specs.declared.step.Step.{Step}
use Rattle.llrp_ask.specs.Calls.Run.{Asks}
use Rattle.llrp.specs.Calls.Ask.{AsksReader}

pub asks : (manner : Manner) (steps : List Step) (r0 r1 : SourceLog) (w0 w1 p0 p1 : SinkLog) (run : Result Verdict ToolErr) → r0 ≡ new_source None → w0 ≡ new_sink None
    → Asks manner steps r0 r1 w0 w1 p0 p1 run → AsksReader manner steps p0 p1 run
asks manner steps r0 r1 w0 w1 p0 p1 run source sink runs =
    (r1, w1, subst (λ (r : SourceLog). Asks manner steps r r1 (new_sink None) w1 p0 p1 run) source (subst (λ (w : SinkLog). Asks manner steps r0 r1 w w1 p0 p1 run) sink runs))
