use Rattle.std.proofs.Common.{arith}
use Rattle.llrp_session.proofs.AnswersLawful.{versions_items, versions_lawful, message_lawful, message_is}
use Rattle.llrp_session.specs.Calls.Answers.{versions}
use Rattle.llrp_session.proofs.answers.versions.Goals as goal

pub message-requires : goal.message-requires
unfolding versions
message-requires c =
    message_lawful c.args.version c.args.id versions c.in_ok-parts.parts.items
    (versions_items c.in_ok-parts.parts.items _ c.in_ok-parts.ensures c.success.ensures)
    (versions_lawful c.args.version c.args.id c.requires (omega arith))

pub returns : goal.returns
unfolding versions
returns c =
    message_is c.args.version c.args.id versions c.in_ok-parts.parts.items c.message.result
    (versions_items c.in_ok-parts.parts.items _ c.in_ok-parts.ensures c.success.ensures)
    c.message.ensures
