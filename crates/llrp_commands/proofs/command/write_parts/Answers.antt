use Rattle.std.proofs.Common.{arith, ap}
use Rattle.std.proofs.lemmas.Result.{err_from_is_err_and}
use Rattle.llrp_stream.specs.Device.{SinkLog}
use Rattle.llrp_commands.proofs.AnswerLemmas.{parts_stop}
use Rattle.llrp_commands.proofs.command.write_parts.Goals as goal

pub write_all-requires : goal.write_all-requires
write_all-requires g c = omega (arith, ap (λ (log : SinkLog). log.failures) c.loop-part.invariant.counts, c.requires)

pub returns-in_err-write_all : goal.returns-in_err-write_all
returns-in_err-write_all g c =
    let p = err_from_is_err_and c.from_residual.result c.from_residual.ensures.1 in
    rw (p.1, p.2) (parts_stop _ c.args.parts.now c.loop-part.part-index _ _ _ _ _ (omega arith) c.loop-part.invariant c.in_err-write_all.ensures)
