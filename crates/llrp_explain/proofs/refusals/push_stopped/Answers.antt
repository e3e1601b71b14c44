use Rattle.std.proofs.Common.{subst}
use Rattle.llrp_stream.specs.declared.engine.body_reader.Stage.{Stage}
use Rattle.llrp_stream.specs.Calls.Reading.{IsDueAt, MayFailFor}
use Rattle.std.proofs.lemmas.Result.{on_ok_weaker}
use Rattle.llrp_explain.proofs.refusals.push_stopped.Goals as goal

pub returns-in-Leading : goal.returns-in-Leading
returns-in-Leading c = on_ok_weaker c.push_leading.result (λ f b outer rest n d m u. f b outer rest n (subst (λ (s : Stage). IsDueAt s c.args.first b) c.in-Leading.is d)) c.push_leading.ensures

pub returns-in-Tail : goal.returns-in-Tail
returns-in-Tail c = λ b outer rest n d m u. absurd (u (subst (λ (s : Stage). MayFailFor s c.args.fault.reason) c.in-Tail.is m))

pub returns-in-Children : goal.returns-in-Children
returns-in-Children c = on_ok_weaker c.push_below.result (λ f b outer rest n d m u. f b outer rest n (subst (λ (s : Stage). IsDueAt s c.args.first b) c.in-Children.is d)) c.push_below.ensures
