use Rattle.llrp_operations.proofs.TalkLemmas.{and_more, at_last}
use Rattle.llrp_operations.proofs.conversation.push_all.Goals as goal

pub loop-saying-preserved : goal.loop-saying-preserved
loop-saying-preserved c =
    and_more c.args.request c.args.said.now c.loop-saying.rest.now c.in-Some.later.now c.in-Some.saying.now c.args.out.now.items c.loop-saying.out.items c.push_saying.new.out.items c.in-Some.ensures.cases.0 c.loop-saying.invariant c.in_ok-push_saying.ensures

pub returns : goal.returns
returns c = at_last c.args.request c.args.said.now c.loop-saying.rest.now c.args.out.now.items c.loop-saying.out.items c.in_default.ensures.cases c.loop-saying.invariant
