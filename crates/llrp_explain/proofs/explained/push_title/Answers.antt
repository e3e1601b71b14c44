use Rattle.std.specs.Prelude.{codes, decimal}
use Rattle.llrp_explain.specs.Calls.Explained.{frame_title}
use Rattle.llrp_explain.proofs.PrintedLemmas.{five_parts, on_written}
use Rattle.llrp_explain.proofs.explained.push_title.Goals as goal

pub returns : goal.returns
unfolding frame_title
returns c =
    on_written c.extend_from_slice-3.result _ _ _ _ c.extend_from_slice-3.ensures.items
    (λ e. five_parts c.args.text.now.items _ _ _ _ _ (codes "frame ") (decimal c.args.number) (codes ", ") (decimal c.args.octets) (codes " octets\nBIT WIDTH LEVEL FIELD VALUE\n") c.in_ok-extend_from_slice.ensures.items c.in_ok-push_digits.ensures c.in_ok-extend_from_slice-2.ensures.items c.in_ok-push_digits-2.ensures e)
