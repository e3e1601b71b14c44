use Rattle.std.proofs.Common.{◌≡◌}
use Rattle.llrp_files.proofs.hints.Noticing.keep.Given as goal

-- what is read stays
abbrev pub invariant-loop-octet : goal.invariant-loop-octet
invariant-loop-octet g l = l.self.source ≡ l.fn.self.source
