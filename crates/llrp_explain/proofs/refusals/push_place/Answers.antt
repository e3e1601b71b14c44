use Rattle.std.proofs.Common.{◌/◌}
use Rattle.std.specs.Prelude.{codes, decimal}
use Rattle.llrp_explain.proofs.PrintedLemmas.{five_parts, on_written}
use Rattle.llrp_explain.proofs.refusals.push_place.Goals as goal

pub returns : goal.returns
returns c =
    on_written c.extend_from_slice-3.result _ _ _ _ c.extend_from_slice-3.ensures.items
    (λ e. five_parts c.args.text.now.items _ _ _ _ _ (codes "fault at bit ") (decimal c.args.bit) (codes ", octet ") (decimal (c.args.bit / 8)) (codes ": ") c.in_ok-extend_from_slice.ensures.items c.in_ok-push_digits.ensures c.in_ok-extend_from_slice-2.ensures.items c.in_ok-push_digits-2.ensures e)
