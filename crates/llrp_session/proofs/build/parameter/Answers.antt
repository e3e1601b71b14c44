use Rattle.std.proofs.Common.{◌∙◌}
use Rattle.llrp_session.proofs.LawfulParts.{no_fault}
use Rattle.llrp_session.proofs.build.parameter.Goals as goal

pub unreachable-requires : goal.unreachable-requires
unreachable-requires c = no_fault c.args.kind c.args.fields.now c.new-tail.result c.new-2.result c.args.children.items _ (c.new-tail.ensures ∙ c.new.ensures.items) c.new-2.ensures c.requires c.in-Err.ensures.fault
