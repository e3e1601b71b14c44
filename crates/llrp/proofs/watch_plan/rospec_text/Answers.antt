use Rattle.std.proofs.Common.{[], codes}
use Rattle.std.specs.Prelude.{decimal}
use Rattle.llrp.specs.Calls.Watch.{transmitter_text}
use Rattle.llrp.proofs.WatchLemmas.{nine_parts}
use Rattle.llrp.proofs.watch_plan.rospec_text.Goals as goal

pub returns : goal.returns
returns c = nine_parts (codes "1 ROSpec ") (decimal c.args.made.id)
    (codes " 0 0\n2 ROBoundarySpec\n3 ROSpecStartTrigger 0\n3 ROSpecStopTrigger 0 0\n2 AISpec w") c.args.made.antennas.now
    (codes "\n3 AISpecStopTrigger 0 0\n3 InventoryParameterSpec 1 1\n") (transmitter_text c.args.made.transmitter)
    (codes "2 ROReportSpec 2 ") (decimal c.args.made.every) (codes "\n3 TagReportContentSelector 0 0 0 1 1 1 1 1 1 0\n")
    [] _ _ _ _ _ _ _ _ _ (rw c.new-text.ensures at c.in_ok-push_text.ensures) c.in_ok-push_number.ensures c.in_ok-push_text-2.ensures (rw c.as_bytes.ensures.value at c.in_ok-push_text-3.ensures) c.in_ok-push_text-4.ensures c.in_ok-push_configuration.ensures c.in_ok-push_text-5.ensures c.in_ok-push_number-2.ensures c.in_ok-push_text-6.ensures
