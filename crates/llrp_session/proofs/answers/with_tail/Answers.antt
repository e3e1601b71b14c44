use Rattle.llrp_session.proofs.AnswersLawful.{not_refused}
use Rattle.llrp_session.proofs.answers.with_tail.Goals as goal

pub unreachable-requires : goal.unreachable-requires
unreachable-requires c = not_refused c.args.kind c.args.fields.now c.args.tail.items c.new.result c.new-3.result c.new-2.result.items _ c.new.ensures c.new-3.ensures c.new-2.ensures.items c.requires c.in-Err.ensures.fault
