use Rattle.std.proofs.Common.{◌≡◌, drop}
use Rattle.json.specs.Value.{items_view}
use Rattle.llrp_json_read.specs.ObjectMembers.{are_whole}
use Rattle.llrp_json_read.proofs.names.are_whole.Given as goal

abbrev pub invariant-loop-value : goal.invariant-loop-value
invariant-loop-value l = are_whole (items_view (drop l.value-index l.values)) ≡ are_whole (items_view l.values)
