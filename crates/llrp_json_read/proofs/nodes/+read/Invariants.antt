use Rattle.std.proofs.Common.{◌+◌, ◌*◌, drop}
use Rattle.json.specs.Value.{items_view}
use Rattle.llrp_json_read.specs.ObjectRefused.{RefusesParameter}
use Rattle.llrp_json_read.specs.ObjectSays.{SaysParameter}
use Rattle.llrp_json_read.proofs.Parameters.{EachRead}
use Rattle.llrp_json_read.proofs.nodes.+read.Given as goal

abbrev pub decreases-read_parameter : goal.decreases-read_parameter
decreases-read_parameter l = 3 * l.levels

abbrev pub decreases-read_below : goal.decreases-read_below
decreases-read_below l = 3 * l.levels + 2

abbrev pub decreases-read_parameters : goal.decreases-read_parameters
decreases-read_parameters l = 3 * l.levels + 1

abbrev pub invariant-read_parameters-loop-value : goal.invariant-read_parameters-loop-value
invariant-read_parameters-loop-value l = EachRead (SaysParameter l.set l.levels) (RefusesParameter l.set l.levels) (items_view l.values) l.nodes.items (items_view (drop l.value-index l.values))
