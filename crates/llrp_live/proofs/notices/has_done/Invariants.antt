use Rattle.std.proofs.Common.{◌≡◌, drop}
use Rattle.llrp_live.specs.Calls.Notices.{has_done}
use Rattle.llrp_live.proofs.notices.has_done.Given as goal

abbrev pub invariant-loop-message : goal.invariant-loop-message
invariant-loop-message l = has_done l.fn.said ≡ has_done (drop l.message-index l.fn.said)
