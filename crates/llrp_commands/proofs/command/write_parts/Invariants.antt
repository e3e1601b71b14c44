use Rattle.std.proofs.Common.{take}
use Rattle.std.specs.List.{flat_map}
use Rattle.llrp_stream.specs.Device.{Wrote}
use Rattle.llrp_commands.proofs.command.write_parts.Given as goal

abbrev pub invariant-loop-part : goal.invariant-loop-part
invariant-loop-part g l = Wrote (g.W.Sink.log l.fn.w) (g.W.Sink.log l.w) (flat_map (λ part. part.now) (take l.part-index l.parts))
