use Rattle.std.proofs.Common.{subst}
use Rattle.std.specs.Prelude.{IfSome}
use Rattle.llrp_schema.specs.declared.kinds.KindSet.{KindSet}
use Rattle.llrp_listing.specs.Private.Encoder.{SaysAt}
use Rattle.llrp_listing.specs.Private.ShortLines.{short_level, short_node}
use Rattle.llrp_listing.proofs.encode.read_short_line.short_message.Goals as goal

pub returns-in-Some : goal.returns-in-Some
returns-in-Some c = subst (λ (p : KindSet). SaysAt p 0 c.args.line.now (short_level c.in-Some.short) (short_node c.in-Some.short)) c.message.ensures c.in-Some.ensures

pub returns-in-None : goal.returns-in-None
returns-in-None c = subst (λ (p : KindSet). IfSome c.other_message.result (λ short. SaysAt p 0 c.args.line.now (short_level short) (short_node short))) c.set.ensures c.other_message.ensures
