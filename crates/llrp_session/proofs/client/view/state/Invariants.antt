use Rattle.std.proofs.Common.{◌≡◌, drop}
use Rattle.llrp_session.specs.Table.{viewed_state}
use Rattle.llrp_session.proofs.client.view.state.Given as goal

abbrev pub invariant-loop-viewed : goal.invariant-loop-viewed
invariant-loop-viewed l = viewed_state l.id l.fn.view ≡ viewed_state l.id (drop l.viewed-index l.fn.view)
