use Rattle.std.proofs.Common.{◌∷◌, ◌≡◌, subst}
use Rattle.std.specs.Prelude.{Some}
use Rattle.llrp_stream.specs.declared.engine.listener.Stopped.{Stopped}
use Rattle.llrp_stream.specs.Calls.Reading.{IsStopped, Told}
use Rattle.llrp_explain.specs.Calls.Printing.{Begins, RefusesPart, Stands}
use Rattle.std.proofs.lemmas.Result.{on_ok_weaker}
use Rattle.llrp_explain.proofs.printer.FramePrinter.keep.Goals as goal

pub returns-in-Some-clause-part : goal.returns-in-Some-clause-part
returns-in-Some-clause-part c = on_ok_weaker c.keep_refusal.result
    (λ f s e b outer told is. (
    let same : c.in-Some.stopped ≡ s = cc (c.in-Some.is, e) in
    subst (λ (x : Stopped). Told (Begins c.args.self.now) (Stands c.args.self.now) x.stage (b ∷ outer) → IsStopped (Some x) (b ∷ outer) c.args.fault.reason → RefusesPart (b ∷ outer) c.args.octets.now c.args.fault c.keep_refusal.new.self.refused.items) same (f b outer) told is))
    c.keep_refusal.ensures.kept
