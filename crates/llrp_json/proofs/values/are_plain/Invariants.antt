use Rattle.std.proofs.Common.{◌≡◌, take}
use Rattle.std.specs.List.{list_all}
use Rattle.llrp_json.specs.Private.PlainStrings.{is_plain}
use Rattle.llrp_json.proofs.values.are_plain.Given as goal

abbrev pub invariant-loop-octet : goal.invariant-loop-octet
invariant-loop-octet l = l.all ≡ list_all is_plain (take l.octet-index l.octets)
