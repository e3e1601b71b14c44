use Rattle.std.proofs.Common.{◌≡◌}
use Rattle.llrp_capture.specs.Calls.Reassembly.{IsSound}
use Rattle.llrp_sides.specs.Private.Sides.{HasNoMore}
use Rattle.llrp_sides.proofs.side.Side.give_up_all.Given as goal

abbrev pub invariant-gaps : goal.invariant-gaps
invariant-gaps l = record {
  sound : IsSound l.reassembly;
  same : HasNoMore l.fn.reassembly → (l.reassembly ≡ l.fn.reassembly) × (l.self ≡ l.fn.self) × (l.text ≡ l.fn.text);
}
