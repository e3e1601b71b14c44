use Rattle.std.proofs.Common.{◌≡◌, ◌==◌, false}
use Rattle.llrp_endpoints.proofs.GatheringSteps.{peer}
use Rattle.std.proofs.lemmas.Bool.{ne_eqb}
use Rattle.llrp_endpoints.proofs.gathering.Gathering.answered.Goals as goal

pub returns-then-status-eq0-clause-does : goal.returns-then-status-eq0-clause-does
returns-then-status-eq0-clause-does c = λ d r h opened. rw c.if-status-eq0.true (c.go_on.ensures.does d r h opened)

pub returns-else-status-eq0-clause-does : goal.returns-else-status-eq0-clause-does
returns-else-status-eq0-clause-does c = λ d r h opened.
    let e : (c.args.status == 0) ≡ false = ne_eqb c.args.status 0 c.if-status-eq0.false in
    rw e (peer d c.args.self.now c.args.status c.args.out.now.items r)
