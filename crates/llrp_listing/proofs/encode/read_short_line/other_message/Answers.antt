use Rattle.std.proofs.Common.{subst}
use Rattle.std.specs.Prelude.{IfSome}
use Rattle.llrp_schema.specs.declared.kinds.KindSet.{KindSet}
use Rattle.llrp_listing.specs.Private.Encoder.{SaysAt}
use Rattle.llrp_listing.specs.Private.ShortLines.{short_level, short_node}
use Rattle.llrp_listing.proofs.LineWords.{message_named}
use Rattle.llrp_listing.proofs.encode.read_short_line.other_message.Goals as goal

pub returns : goal.returns
returns c = subst (λ (p : KindSet). IfSome c.message_named.result (λ short. SaysAt p 0 c.args.line.now (short_level short) (short_node short))) (message_named _ c.in_ok-kind.kind c.in_ok-kind.ensures).0 c.message_named.ensures
