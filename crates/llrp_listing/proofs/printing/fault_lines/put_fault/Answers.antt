use Rattle.std.proofs.Common.{codes}
use Rattle.std.specs.Prelude.{decimal}
use Rattle.llrp_listing.specs.StreamListing.{fault_text, frame_fault_name}
use Rattle.llrp_listing.proofs.PlaceLemmas.{two_puts, puts_same, four_parts}
use Rattle.llrp_listing.proofs.printing.fault_lines.put_fault.Goals as goal

pub returns-clause-text : goal.returns-clause-text
unfolding fault_text
returns-clause-text c =
    puts_same (two_puts (two_puts (two_puts c.put_two-id_at.ensures c.put_ended-bit_at.ensures.text) c.put_ended-name_at.ensures.text) c.put_reason.ensures.text)
    (four_parts (codes "! ") (decimal c.args.id) (codes " ") (decimal c.args.fault.bit) (frame_fault_name c.args.fault.reason) (codes "\n"))
