-- What a run of access says of devices as new.
use Rattle.std.proofs.Common.{◌≡◌, None, Ok, Err, subst}
use Rattle.std.specs.Prelude.{IfErr, IfOk, Result}
use Rattle.llrp_stream.specs.Device.{SourceLog, SinkLog}
use Rattle.llrp_stream.specs.Calls.Device.{new_sink, new_source}
use Rattle.llrp_operations.specs.declared.access.Ending.{Ending}
use Rattle.llrp_operations.specs.declared.access.Errand.{Errand}
use Rattle.llrp_operations.specs.declared.talk.AccessErr.{AccessErr}
use Rattle.llrp_operations.specs.Calls.Access.{Accesses}
use Rattle.llrp_operations.specs.Calls.Talking.{Fails}
use Rattle.llrp.specs.Calls.AccessEnding.{AccessesReader, FailsReader}

pub accesses : (e : Errand) (r0 r1 : SourceLog) (w0 w1 p0 p1 : SinkLog) (run : Result Ending AccessErr) → r0 ≡ new_source None → w0 ≡ new_sink None
    → IfOk run (Accesses e r0 r1 w0 w1 p0 p1) → IfOk run (AccessesReader e p0 p1)
accesses e r0 r1 w0 w1 p0 p1 (Ok end) source sink ran =
    (r1, w1, subst (λ (r : SourceLog). Accesses e r r1 (new_sink None) w1 p0 p1 end) source (subst (λ (w : SinkLog). Accesses e r0 r1 w w1 p0 p1 end) sink ran))
accesses e r0 r1 w0 w1 p0 p1 (Err error) source sink ran = tt

pub fails : (e : Errand) (r0 r1 : SourceLog) (w0 w1 : SinkLog) (run : Result Ending AccessErr) → r0 ≡ new_source None → w0 ≡ new_sink None → IfErr run (Fails e.request r0 r1 w0 w1) → IfErr run (FailsReader e)
fails e r0 r1 w0 w1 (Ok end) source sink ran = tt
fails e r0 r1 w0 w1 (Err err) source sink ran =
    (r1, w1, subst (λ (r : SourceLog). Fails e.request r r1 (new_sink None) w1 err) source (subst (λ (w : SinkLog). Fails e.request r0 r1 w w1 err) sink ran))
