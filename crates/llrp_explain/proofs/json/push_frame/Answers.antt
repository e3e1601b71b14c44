use Rattle.llrp_explain.proofs.JsonLemmas.{frame_object, on_ok}
use Rattle.llrp_explain.proofs.json.push_frame.Goals as goal

pub returns : goal.returns
returns c =
    on_ok c.push_lines.result _ _ c.push_lines.ensures
    (λ e. frame_object c.args.json.now.items _ _ _ _ _ _ c.args.number c.args.octets c.args.text.now c.in_ok-extend_from_slice.ensures.items c.in_ok-push_digits.ensures c.in_ok-extend_from_slice-2.ensures.items c.in_ok-push_digits-2.ensures c.in_ok-extend_from_slice-3.ensures.items e)
