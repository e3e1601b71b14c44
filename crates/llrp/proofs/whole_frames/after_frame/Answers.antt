use Rattle.std.proofs.Common.{◌≡◌, ◌∙◌, arith, sym, ap₂, List, ℕ, ◌++◌}
use Rattle.std.proofs.lemmas.List.{take-append-drop}
use Rattle.llrp.proofs.WholeFrameLemmas.{front_frame}
use Rattle.llrp.proofs.whole_frames.after_frame.Goals as goal

pub returns-in-Frame-clause-some : goal.returns-in-Frame-clause-some
returns-in-Frame-clause-some c =
    let octets = c.args.octets.now in
    let frame = c.split_at.result.0.now in
    let after = c.split_at.result.1.now in
    let parts : octets ≡ frame ++ after = sym (take-append-drop c.in-Frame.count octets) ∙ ap₂ (λ (x y : List ℕ). x ++ y) (sym c.split_at.ensures.front) (sym c.split_at.ensures.back) in
    (frame, front_frame octets frame after c.in-Frame.count c.in-Frame.ensures parts c.split_at.ensures.front_len, omega (arith, c.split_at.ensures.front_len, c.if-count-limit.true), parts)
