use Rattle.std.proofs.Common.{[], codes}
use Rattle.std.specs.Prelude.{decimal}
use Rattle.llrp_listing.specs.StreamListing.{fault_text, frame_fault_name}
use Rattle.llrp.proofs.WatchLemmas.{seven_parts}
use Rattle.llrp.proofs.faults.fault_line.Goals as goal

pub returns : goal.returns
unfolding fault_text
returns c = seven_parts (codes "! ") (decimal c.args.id) (codes " ") (decimal c.args.fault.bit) (codes " ") (frame_fault_name c.args.fault.reason) (codes "\n")
    [] _ _ _ _ _ _ _ (rw c.new-text.ensures at c.in_ok-push_text.ensures) c.in_ok-push_number.ensures c.in_ok-push_text-2.ensures c.in_ok-push_number-2.ensures c.in_ok-push_text-3.ensures (rw (c.as_bytes.ensures.value, c.reason_name.ensures.name) at c.in_ok-push_text-4.ensures) c.in_ok-push_text-5.ensures
