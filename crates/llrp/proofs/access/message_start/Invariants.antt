use Rattle.std.proofs.Common.{◌≡◌, ◌+◌, true, drop}
use Rattle.llrp.specs.Calls.Access.{message_start}
use Rattle.llrp.proofs.access.message_start.Given as goal

-- the message is as far on from here as it is from the beginning on
abbrev pub invariant-loop-i : goal.invariant-loop-i
invariant-loop-i l = message_start l.before true l.text ≡ l.i + message_start l.left l.starts (drop l.i l.text)
