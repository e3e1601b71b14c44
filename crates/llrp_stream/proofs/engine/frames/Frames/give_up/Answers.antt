use Rattle.std.proofs.Common.{ap, ◌∙◌}
use Rattle.llrp_stream.specs.declared.engine.body.Body.{Body}
use Rattle.llrp_stream.proofs.engine.frames.Frames.give_up.Goals as goal

pub returns-clause-raw : goal.returns-clause-raw
returns-clause-raw c = ap (λ (x : Body). x.raw.items) c.skip.ensures.body ∙ c.clear.ensures

pub returns-clause-skips : goal.returns-clause-skips
returns-clause-skips c = λ p front s. c.skip.ensures.skips p c.args.self.now.limit front s
