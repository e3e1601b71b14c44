use Rattle.std.proofs.Common.{codes, ◌∙◌}
use Rattle.tag_uri.specs.TagText.{fault_name}
use Rattle.llrp_listing.specs.Calls.EpcLines.{refusal_line}
use Rattle.llrp_listing.proofs.TextLemmas.{grown_thrice, with_part}
use Rattle.llrp_listing.proofs.epc.push_refusal.Goals as goal

pub returns : goal.returns
unfolding refusal_line
returns c =
    grown_thrice _ _ _ _ (codes "! ") (fault_name c.args.fault) (codes "\n")
    c.in_ok-extend_from_slice.ensures.items
    (with_part _ _ _ _ c.in_ok-extend_from_slice-2.ensures.items (c.as_bytes.ensures.value ∙ c.name.ensures))
    c.in_ok-extend_from_slice-3.ensures.items
