use Rattle.std.proofs.Common.{take}
use Rattle.llrp_general.specs.Calls.Located.{WithPlace}
use Rattle.llrp_general.proofs.located.all_with_place.Given as goal

abbrev pub invariant-loop-message : goal.invariant-loop-message
invariant-loop-message l = WithPlace l.place (take l.message-index l.said) l.located.items
