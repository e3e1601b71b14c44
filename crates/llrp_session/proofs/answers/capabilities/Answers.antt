use Rattle.std.proofs.Common.{arith}
use Rattle.llrp_session.proofs.AnswersLawful.{air_lawful, capabilities_items, capabilities_lawful, message_lawful, message_is}
use Rattle.llrp_session.specs.Calls.Answers.{capabilities}
use Rattle.llrp_session.proofs.answers.capabilities.Goals as goal

pub leaf-air-requires : goal.leaf-air-requires
leaf-air-requires c = air_lawful

pub message-requires : goal.message-requires
unfolding capabilities
message-requires c =
    message_lawful c.args.version c.args.id capabilities c.in_ok-parts.parts.items
    (capabilities_items c.in_ok-parts.parts.items _ _ _ _ _ c.in_ok-parts.ensures.items c.success.ensures c.in_ok-general.ensures c.in_ok-of_llrp.ensures c.in_ok-regulatory.ensures c.leaf-air.ensures)
    (capabilities_lawful c.args.version c.args.id c.requires (omega arith))

pub returns : goal.returns
unfolding capabilities
returns c =
    message_is c.args.version c.args.id capabilities c.in_ok-parts.parts.items c.message.result
    (capabilities_items c.in_ok-parts.parts.items _ _ _ _ _ c.in_ok-parts.ensures.items c.success.ensures c.in_ok-general.ensures c.in_ok-of_llrp.ensures c.in_ok-regulatory.ensures c.leaf-air.ensures)
    c.message.ensures
