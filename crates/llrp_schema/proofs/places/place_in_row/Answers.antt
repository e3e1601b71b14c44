-- A kind has few groups.
use Rattle.std.proofs.Common.{arith, ap, length}
use Rattle.std.proofs.lemmas.List.{length-map}
use Rattle.llrp_schema.specs.Calls.Schema.{group_rule}
use Rattle.llrp_schema.proofs.PlaceLemmas.{few_groups}
use Rattle.llrp_schema.proofs.places.place_in_row.Goals as goal

pub place_among-requires : goal.place_among-requires
place_among-requires c = omega (arith, ap length c.groups.ensures, length-map c.groups.result.now group_rule, few_groups c.args.parent)
