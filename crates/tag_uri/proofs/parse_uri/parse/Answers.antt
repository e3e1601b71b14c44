use Rattle.std.proofs.Common.{List, ℕ, Ok, sym, ap, subst, ◌∙◌}
use Rattle.tag_uri.specs.TagText.{HasTagFault}
use Rattle.tag_uri.proofs.TextLaws.{one_uri, no_fault}
use Rattle.tag_uri.proofs.parse_uri.parse.Goals as goal

pub returns-in-Ok-clause-accepts : goal.returns-in-Ok-clause-accepts
returns-in-Ok-clause-accepts c = λ epc lawful e. ap Ok (c.of_parts.ensures ∙ one_uri c.in-Ok.parts epc c.in-Ok.ensures.lawful lawful (sym c.in-Ok.ensures.ok ∙ e))

pub returns-in-Err-clause-accepts : goal.returns-in-Err-clause-accepts
returns-in-Err-clause-accepts c = λ epc lawful e. absurd (no_fault epc c.in-Err.fault lawful (subst (λ (t : List ℕ). HasTagFault t c.in-Err.fault) e c.in-Err.ensures.err))
