use Rattle.std.proofs.Common.{◌≡◌, ◌++◌, take}
use Rattle.llrp_json.specs.JsonValues.{inside}
use Rattle.llrp_json.proofs.values.push_each.Given as goal

abbrev pub invariant-loop-octet : goal.invariant-loop-octet
invariant-loop-octet l = l.text ≡ l.fn.text ++ inside (take l.octet-index l.octets)
