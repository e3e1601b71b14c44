use Rattle.std.proofs.Common.{arith}
use Rattle.llrp_session.proofs.AnswersLawful.{identification_lawful, configuration_items, configuration_lawful, message_lawful, message_is, of_tail, made_of}
use Rattle.llrp_session.specs.Calls.Answers.{configuration}
use Rattle.llrp_session.proofs.answers.configuration.Goals as goal

pub with_tail-identification-requires : goal.with_tail-identification-requires
with_tail-identification-requires c = of_tail _ _ _ c.in_ok-octets.octets.items c.in_ok-octets.ensures.items identification_lawful

pub message-requires : goal.message-requires
unfolding configuration
message-requires c =
    message_lawful c.args.version c.args.id configuration c.in_ok-parts.parts.items
    (configuration_items c.in_ok-parts.parts.items _ _ _ _ c.in_ok-parts.ensures.items c.success.ensures (made_of _ _ _ c.in_ok-octets.octets.items c.with_tail-identification.result c.in_ok-octets.ensures.items c.with_tail-identification.ensures) c.antenna.ensures c.antenna-2.ensures)
    (configuration_lawful c.args.version c.args.id c.requires (omega arith))

pub returns : goal.returns
unfolding configuration
returns c =
    message_is c.args.version c.args.id configuration c.in_ok-parts.parts.items c.message.result
    (configuration_items c.in_ok-parts.parts.items _ _ _ _ c.in_ok-parts.ensures.items c.success.ensures (made_of _ _ _ c.in_ok-octets.octets.items c.with_tail-identification.result c.in_ok-octets.ensures.items c.with_tail-identification.ensures) c.antenna.ensures c.antenna-2.ensures)
    c.message.ensures
