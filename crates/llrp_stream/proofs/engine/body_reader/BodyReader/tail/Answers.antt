use Rattle.std.proofs.Common.{arith, ap, ◌∙◌, ℕ}
use Rattle.llrp_stream.specs.declared.engine.body_reader.Stage.TheVariants as stage
use Rattle.llrp_stream.proofs.engine.body_reader.BodyReader.tail.Goals as goal

pub end_tail-requires : goal.end_tail-requires
end_tail-requires g c = record { stage = c.requires.stage ∙ ap (λ (n : ℕ). stage.Tail n) (omega (arith, c.if-left-eq0.true)) }

pub returns-then-left-eq0 : goal.returns-then-left-eq0
returns-then-left-eq0 g c = λ was front b outer rd told d. c.end_tail.ensures c.args.octets.now was front b outer rd told d

pub more_tail-requires-clause-some_left : goal.more_tail-requires-clause-some_left
more_tail-requires-clause-some_left g c = omega (arith, c.if-left-eq0.false)
