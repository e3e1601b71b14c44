use Rattle.std.proofs.Common.{◌≡◌, filter, not}
use Rattle.llrp_endpoints.specs.Calls.Asides.{deletes_one}
use Rattle.llrp_endpoints.proofs.asides.AsideMessages.of.Given as goal

abbrev pub invariant-loop-message : goal.invariant-loop-message
invariant-loop-message l = (l.enabling.items ≡ filter (λ m. not (deletes_one m)) l.yielded) × (l.deleting.items ≡ filter deletes_one l.yielded)
