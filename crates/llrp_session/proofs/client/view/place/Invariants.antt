use Rattle.std.proofs.Common.{◌≡◌, ◌++◌, take, drop}
use Rattle.llrp_session.specs.Table.{enter_view}
use Rattle.llrp_session.proofs.client.view.place.Given as goal

abbrev pub invariant-loop-i : goal.invariant-loop-i
invariant-loop-i l = enter_view l.id l.view ≡ take l.i l.view ++ enter_view l.id (drop l.i l.view)
