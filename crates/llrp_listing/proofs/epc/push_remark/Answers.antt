use Rattle.std.proofs.Common.{codes, decimal, ◌∙◌}
use Rattle.tag_epc.specs.Faults.{word_fault_name}
use Rattle.llrp_listing.specs.Calls.EpcLines.{remark_line}
use Rattle.llrp_listing.proofs.TextLemmas.{grown_by_five, with_part}
use Rattle.llrp_listing.proofs.epc.push_remark.Goals as goal

pub returns : goal.returns
unfolding remark_line
returns c =
    grown_by_five _ _ _ _ _ _ (codes "# ") (word_fault_name c.args.fault.reason) (codes " ") (decimal c.args.fault.bit) (codes "\n")
    c.in_ok-extend_from_slice.ensures.items
    (with_part _ _ _ _ c.in_ok-extend_from_slice-2.ensures.items (c.as_bytes.ensures.value ∙ c.name.ensures))
    c.in_ok-extend_from_slice-3.ensures.items
    (with_part _ _ _ _ c.in_ok-extend_from_slice-4.ensures.items (c.as_bytes-2.ensures.value ∙ c.format.ensures.text))
    c.in_ok-extend_from_slice-5.ensures.items
