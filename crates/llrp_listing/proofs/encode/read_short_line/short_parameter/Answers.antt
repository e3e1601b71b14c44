use Rattle.std.proofs.Common.{subst}
use Rattle.std.specs.Prelude.{IfSome}
use Rattle.llrp_schema.specs.declared.kinds.KindSet.{KindSet}
use Rattle.llrp_listing.specs.Private.Encoder.{SaysAt}
use Rattle.llrp_listing.specs.Private.ShortLines.{short_level, short_node}
use Rattle.llrp_listing.proofs.encode.read_short_line.short_parameter.Goals as goal

pub returns : goal.returns
returns c = subst (λ (p : KindSet). IfSome c.parameter_after.result (λ short. SaysAt p c.args.level c.args.line.now (short_level short) (short_node short))) c.in_ok-kind.ensures.set c.parameter_after.ensures
