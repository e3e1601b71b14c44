use Rattle.std.proofs.Common.{◌≡◌, take}
use Rattle.llrp_stream.proofs.engine.body.kept.Given as goal

abbrev pub invariant-loop-octet : goal.invariant-loop-octet
invariant-loop-octet l = l.kept.items ≡ take l.octet-index l.octets
