use Rattle.std.proofs.Common.{List, ℕ, subst}
use Rattle.std.proofs.lemmas.Result.{on_ok_weaker}
use Rattle.llrp_capture.specs.Calls.Segments.{Says}
use Rattle.llrp_sides.proofs.session.Session.take.Goals as goal

pub returns-in-Ok-segment_of : goal.returns-in-Ok-segment_of
returns-in-Ok-segment_of c = on_ok_weaker c.take_segment.result (λ t. (
  c.in-Ok-segment_of.segment,
  subst (λ (x : List ℕ). Says c.args.self.now.port x c.in-Ok-segment_of.segment) c.in-Ok.ensures.cases.0 c.in-Ok-segment_of.ensures.says,
  t,
)) c.take_segment.ensures
