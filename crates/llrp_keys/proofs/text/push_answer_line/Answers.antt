use Rattle.std.proofs.Common.{◌∙◌, ◌++◌, ◌∷◌, [], List, ℕ, ap, append_assoc, refl}
use Rattle.llrp_keys.proofs.text.push_answer_line.Goals as goal

pub returns : goal.returns
returns c =
    let (answer, is, grown) = c.in_ok-refused.ensures in (
      answer ++ 10 ∷ [],
      (c.digits_of.result, c.in_ok-refused.refused, answer, c.digits_of.ensures.count, is, c.verdict_of.ensures, refl),
      c.in_ok-push.ensures.items ∙ ap (λ (x : List ℕ). x ++ 10 ∷ []) grown ∙ append_assoc c.args.lines.now.items answer (10 ∷ []),
    )
