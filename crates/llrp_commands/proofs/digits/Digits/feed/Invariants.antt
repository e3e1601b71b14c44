use Rattle.std.proofs.Common.{ℕ, List, ◌++◌, take}
use Rattle.llrp_commands.specs.Calls.Digits.{SpellsFront}
use Rattle.llrp_commands.proofs.digits.Digits.feed.Given as goal

abbrev pub invariant-loop-octet : goal.invariant-loop-octet
invariant-loop-octet l =
    (text octets : List ℕ) → SpellsFront text octets l.fn.self.half → SpellsFront (text ++ take l.octet-index l.piece) (octets ++ l.self.octets.items) l.self.half
