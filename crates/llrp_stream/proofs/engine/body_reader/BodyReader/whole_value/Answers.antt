use Rattle.std.proofs.Common.{refl}
use Rattle.llrp_stream.proofs.ManyValues.{none_taken}
use Rattle.llrp_stream.proofs.engine.body_reader.BodyReader.whole_value.Goals as goal

pub returns-in_default : goal.returns-in_default
returns-in_default g c = record { takes = none_taken _ _ c.args.self.now c.args.octets.now c.args.left; none = λ e. (refl, refl) }
