use Rattle.std.proofs.Common.{List, ℕ, Ok, sym, ap, subst, ◌∙◌}
use Rattle.tag_keys.specs.KeyFaults.{HasIdFault}
use Rattle.tag_keys.proofs.IdLaws.{one_id, no_id_fault}
use Rattle.tag_keys.proofs.read_id_uri.parse_id.Goals as goal

pub returns-in-Ok-clause-accepts : goal.returns-in-Ok-clause-accepts
returns-in-Ok-clause-accepts c = λ epc lawful f e. ap Ok (c.of_parts.ensures ∙ one_id c.in-Ok.parts epc c.args.filter c.in-Ok.ensures.lawful lawful c.in-Ok.ensures.ok.1 f (sym c.in-Ok.ensures.ok.0 ∙ e))

pub returns-in-Err-clause-accepts : goal.returns-in-Err-clause-accepts
returns-in-Err-clause-accepts c = λ epc lawful f e. absurd (no_id_fault epc c.args.filter c.in-Err.fault lawful f (subst (λ (t : List ℕ). HasIdFault c.args.filter t c.in-Err.fault) e c.in-Err.ensures.err))
