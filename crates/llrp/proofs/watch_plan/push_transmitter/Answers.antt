use Rattle.std.proofs.Common.{codes}
use Rattle.std.specs.Prelude.{decimal}
use Rattle.llrp.proofs.WatchLemmas.{seven_parts}
use Rattle.llrp.proofs.watch_plan.push_transmitter.Goals as goal

pub returns : goal.returns
returns c = seven_parts (codes "4 AntennaConfiguration 0\n5 RFTransmitter ") (decimal c.args.transmitter.hop_table_id)
    (codes " ") (decimal c.args.transmitter.channel_index) (codes " ") (decimal c.args.transmitter.transmit_power) (codes "\n")
    _ _ _ _ _ _ _ _ c.in_ok-push_text.ensures c.in_ok-push_number.ensures c.in_ok-push_text-2.ensures c.in_ok-push_number-2.ensures c.in_ok-push_text-3.ensures c.in_ok-push_number-3.ensures c.in_ok-push_text-4.ensures
