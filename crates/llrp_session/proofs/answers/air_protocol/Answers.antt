use Rattle.std.proofs.Common.{arith}
use Rattle.llrp_session.proofs.AnswersLawful.{air_protocol_lawful, of_tail, made_of}
use Rattle.llrp_session.proofs.answers.air_protocol.Goals as goal

pub with_tail-requires : goal.with_tail-requires
with_tail-requires c = of_tail _ _ _ c.in_ok-protocols.protocols.items c.in_ok-protocols.ensures.items (air_protocol_lawful c.args.antenna (omega arith))

pub returns : goal.returns
returns c = made_of _ _ _ c.in_ok-protocols.protocols.items c.with_tail.result c.in_ok-protocols.ensures.items c.with_tail.ensures
