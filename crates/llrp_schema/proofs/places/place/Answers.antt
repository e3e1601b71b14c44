-- The first group that has a kind is the only one.
use Rattle.std.proofs.Common.{◌≡◌, MatchOption, false}
use Rattle.llrp_schema.specs.Schema.{groups_of}
use Rattle.llrp_schema.specs.Schema.{has_place}
use Rattle.llrp_schema.specs.Calls.Places.{IsPlace}
use Rattle.llrp_schema.proofs.PlaceLemmas.{parent_apart, parent_takes_one, first_is_place, place_none, place_some}
use Rattle.llrp_schema.proofs.places.place.Goals as goal

pub returns : goal.returns
returns c =
    let groups = groups_of c.args.parent in
    let none = has_place groups c.args.child ≡ false in
    let some = IsPlace groups c.args.child in
    let says : MatchOption c.first_place.result none some = rw c.first_place.ensures (first_is_place groups c.args.child (parent_apart c.args.parent) (parent_takes_one c.args.parent)) in
    record { none = place_none c.first_place.result none some says; some = place_some c.first_place.result none some says }
