use Rattle.llrp_session.proofs.LawfulParts.{no_message_fault}
use Rattle.llrp_session.proofs.build.message.Goals as goal

pub unreachable-requires : goal.unreachable-requires
unreachable-requires c = no_message_fault c.args.version c.args.id c.args.kind c.args.fields.now c.new.result c.args.children.items _ c.new.ensures c.requires c.in-Err.ensures.fault
