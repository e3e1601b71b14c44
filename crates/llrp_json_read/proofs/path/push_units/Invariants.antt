use Rattle.std.proofs.Common.{◌≡◌, ◌++◌, take}
use Rattle.std.specs.List.{flat_map}
use Rattle.llrp_json_read.specs.Path.{unit_text}
use Rattle.llrp_json_read.proofs.path.push_units.Given as goal

abbrev pub invariant-loop-unit : goal.invariant-loop-unit
invariant-loop-unit l = l.path.items ≡ l.fn.path.items ++ flat_map unit_text (take l.unit-index l.units)
