use Rattle.std.proofs.Common.{◌≡◌, ◌++◌, take}
use Rattle.std.specs.List.{flat_map}
use Rattle.llrp_explain.specs.Calls.ExplainJson.{string_octet}
use Rattle.llrp_explain.proofs.json.push_inside.Given as goal

abbrev pub invariant-loop-octet : goal.invariant-loop-octet
invariant-loop-octet l = l.json.items ≡ l.fn.json.items ++ flat_map string_octet (take l.octet-index l.text)
