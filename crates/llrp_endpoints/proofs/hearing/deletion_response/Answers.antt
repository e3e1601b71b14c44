use Rattle.std.proofs.Common.{[]}
use Rattle.llrp_schema.specs.declared.kinds.MsgKind.TheVariants.{DeleteRoSpecResponse}
use Rattle.llrp_session.proofs.LawfulParts.{no_message_fault}
use Rattle.llrp_endpoints.proofs.hearing.deletion_response.Goals as goal

pub unreachable-requires : goal.unreachable-requires
unreachable-requires c = no_message_fault c.args.version c.args.id DeleteRoSpecResponse [] c.new.result c.args.children.items _ c.new.ensures c.requires c.in-Err.ensures.fault
