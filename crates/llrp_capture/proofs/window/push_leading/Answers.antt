use Rattle.std.proofs.Common.{◌∙◌, [], ◌∷◌, ◌++◌, append_assoc, ap}
use Rattle.llrp_capture.proofs.WindowLemmas.{fills_more}
use Rattle.llrp_capture.proofs.window.push_leading.Goals as goal

pub loop-i-preserved : goal.loop-i-preserved
loop-i-preserved c =
    let v = c.loop-i.invariant in
    let octet = c.in-Some.octet in
    let before = c.args.handed.now.items in (
      v.0 ++ octet ∷ [],
      fills_more c.args.waiting.now c.loop-i.i v.0 octet v.1 c.in-Some.is,
      c.in_ok-push-in-Some.ensures.items ∙ ap (λ x. x ++ octet ∷ []) v.2 ∙ append_assoc before v.0 (octet ∷ []),
    )
