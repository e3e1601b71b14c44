use Rattle.std.proofs.Common.{subst, false, Ok}
use Rattle.llrp_endpoints.specs.Gathering.{Course}
use Rattle.llrp_endpoints.specs.Private.GatheringStands.{Does}
use Rattle.llrp_endpoints.proofs.GatheringSteps.{passed, passes, peer, strange}
use Rattle.llrp_endpoints.proofs.gathering.Gathering.follow.Goals as goal

pub returns-in-Event-clause-does : goal.returns-in-Event-clause-does
returns-in-Event-clause-does c = λ d h opened.
    let g = c.args.self.now in
    let o = c.args.out.now.items in
    let r = c.args.report.now.items in
    subst (λ (e : Course). Does d e g o o r r (Ok false)) (passes c.args.taken d c.in-Event.is) (passed d g o r h opened)

pub returns-in-Refused-clause-does : goal.returns-in-Refused-clause-does
returns-in-Refused-clause-does c = λ d h opened. rw c.in-Refused.is (peer d c.args.self.now c.in-Refused.status c.args.out.now.items c.args.report.now.items)

pub returns-in-Reply-clause-does : goal.returns-in-Reply-clause-does
returns-in-Reply-clause-does c = λ d h opened. rw c.in-Reply.is (c.answered.ensures.does d c.args.report.now.items h opened)

pub returns-in-Connected-clause-does : goal.returns-in-Connected-clause-does
returns-in-Connected-clause-does c = λ d h opened. rw c.in-Connected.is (c.go_on.ensures.does d c.args.report.now.items h opened)

pub returns-in-Table-clause-does : goal.returns-in-Table-clause-does
returns-in-Table-clause-does c = λ d h opened. rw c.in-Table.is (c.go_on-in-Table.ensures.does d c.args.report.now.items h opened)

pub returns-in-Differs-clause-does : goal.returns-in-Differs-clause-does
returns-in-Differs-clause-does c = λ d h opened. rw c.in-Differs.is (strange d c.args.self.now c.args.out.now.items c.args.report.now.items)

pub returns-clause-does : goal.returns-clause-does
returns-clause-does c = λ d h opened. rw c.in-Closed.is (c.end.ensures d c.args.out.now.items h opened)
