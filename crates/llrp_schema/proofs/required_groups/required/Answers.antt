-- Least numbers of 0 and 1 are their own bits.
use Rattle.llrp_schema.specs.Schema.{groups_of}
use Rattle.llrp_schema.proofs.PlaceLemmas.{parent_needs_one, least_are_required}
use Rattle.llrp_schema.proofs.required_groups.required.Goals as goal

pub returns : goal.returns
returns c = rw c.least_bits.ensures (least_are_required (groups_of c.args.kind) (parent_needs_one c.args.kind))
