use Rattle.std.proofs.Common.{◌≡◌, ◌++◌}
use Rattle.std.specs.List.{flat_map}
use Rattle.llrp_json_read.specs.Path.{character_text}
use Rattle.llrp_json_read.proofs.path.push_name.Given as goal

abbrev pub invariant-loop-c : goal.invariant-loop-c
invariant-loop-c l = l.path.items ≡ l.fn.path.items ++ flat_map character_text l.yielded
