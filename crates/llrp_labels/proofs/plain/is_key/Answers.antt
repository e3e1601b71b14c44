use Rattle.std.proofs.Common.{◌≡◌, ◌∙◌, List, ℕ, subst, sym}
use Rattle.std.proofs.lemmas.Slice.Eq.{bytes_eq-Decides}
use Rattle.llrp_labels.specs.LabelledLines.{IsKeyAmong}
use Rattle.llrp_labels.proofs.LineLemmas.{one_key}
use Rattle.llrp_labels.proofs.plain.is_key.Goals as goal

pub returns-in-Some : goal.returns-in-Some
returns-in-Some c =
    let decides = bytes_eq-Decides c.as_bytes.result.now c.args.key.now in
    let text : c.as_bytes.result.now ≡ c.in-Some.text.bytes = c.as_bytes.ensures.value ∙ c.as_str.ensures.value in (
      λ e. subst (λ (t : List ℕ). IsKeyAmong c.args.schemes c.args.word t) (sym text ∙ decides.0 (sym c.eq.ensures ∙ e)) c.in-Some.ensures,
      λ is. c.eq.ensures ∙ decides.1 (text ∙ one_key c.args.schemes c.args.word c.in-Some.text.bytes c.args.key.now c.in-Some.ensures is),
    )

pub returns-in-None : goal.returns-in-None
returns-in-None c = (λ e. cc, λ is. absurd (c.in-None.ensures c.args.key.now is))
