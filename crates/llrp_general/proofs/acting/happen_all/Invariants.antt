use Rattle.std.proofs.Common.{◌≡◌, take}
use Rattle.llrp_endpoints.specs.Serving.{last_moment}
use Rattle.llrp_general.specs.Private.Acting.{DoesAll, entry_dates}
use Rattle.llrp_general.proofs.acting.happen_all.Given as goal

abbrev pub invariant-loop-entry : goal.invariant-loop-entry
invariant-loop-entry l = record {
  does : DoesAll (entry_dates (take l.entry-index l.entries)) l.fn.reader l.reader l.fn.sent.items l.sent.items;
  moment : l.moment ≡ last_moment l.fn.moment (take l.entry-index l.entries);
}
