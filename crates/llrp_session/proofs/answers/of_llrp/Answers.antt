use Rattle.llrp_session.proofs.AnswersLawful.{of_llrp_lawful, of_tail, made_of}
use Rattle.llrp_session.specs.Calls.Answers.{of_llrp}
use Rattle.llrp_session.proofs.answers.of_llrp.Goals as goal

pub with_tail-requires : goal.with_tail-requires
with_tail-requires c = of_tail _ _ _ c.in_ok-others.others.items c.in_ok-others.ensures.items of_llrp_lawful

pub returns : goal.returns
unfolding of_llrp
returns c = made_of _ _ _ c.in_ok-others.others.items c.with_tail.result c.in_ok-others.ensures.items c.with_tail.ensures
