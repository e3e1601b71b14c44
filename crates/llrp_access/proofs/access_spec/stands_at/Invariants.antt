use Rattle.std.proofs.Common.{◌≡◌, ◌+◌, drop}
use Rattle.llrp_access.specs.Calls.Targets.{agrees, bits_of}
use Rattle.llrp_access.proofs.access_spec.stands_at.Given as goal

-- what is left decides
abbrev pub invariant-loop-i : goal.invariant-loop-i
invariant-loop-i l =
    agrees (drop l.i l.mask) (drop l.i l.wanted) (drop (l.pointer + l.i) (bits_of l.words)) ≡ agrees l.mask l.wanted (drop l.pointer (bits_of l.words))
