use Rattle.std.proofs.Common.{◌≡◌}
use Rattle.llrp_session.specs.Table.{enabling}
use Rattle.llrp_session.proofs.ViewLemmas.{changed_below}
use Rattle.llrp_session.proofs.client.view.enable.Given as goal

abbrev pub invariant-loop-viewed : goal.invariant-loop-viewed
invariant-loop-viewed l = l.viewed-items ≡ changed_below (enabling l.n) l.viewed-index l.initial.viewed-items
