use Rattle.std.proofs.Common.{◌≡◌, take, map}
use Rattle.llrp_endpoints.specs.Private.Acting.{Did}
use Rattle.llrp_endpoints.specs.Serving.{happening, last_moment}
use Rattle.llrp_endpoints.proofs.serving.events.happen_all.Given as goal

abbrev pub invariant-loop-entry : goal.invariant-loop-entry
invariant-loop-entry l = record {
  did : Did l.fn.core (map happening (take l.entry-index l.entries)) l.core l.fn.out.items l.out.items;
  moment : l.moment ≡ last_moment l.fn.moment (take l.entry-index l.entries);
}
