use Rattle.std.proofs.Common.{◌≡◌, ◌≤◌, length, drop}
use Rattle.llrp_live.specs.Calls.Places.{errors}
use Rattle.llrp_live.proofs.places.errors_of.Given as goal

abbrev pub invariant-levels : goal.invariant-levels
invariant-levels l = (l.left ≤ length l.types) × (l.nodes.items ≡ errors l.set l.fn.field l.reason (drop l.left l.types))

abbrev pub decreases-levels : goal.decreases-levels
decreases-levels l = l.left
