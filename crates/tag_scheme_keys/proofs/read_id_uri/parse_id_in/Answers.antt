use Rattle.std.proofs.Common.{List, ℕ, Ok, sym, ap, subst, ◌∙◌}
use Rattle.tag_scheme_keys.specs.KeyFaults.{HasIdFaultIn}
use Rattle.tag_scheme_keys.proofs.IdLaws.{one_id_in, no_id_fault_in}
use Rattle.tag_scheme_keys.proofs.read_id_uri.parse_id_in.Goals as goal

pub returns-in-Ok-clause-accepts : goal.returns-in-Ok-clause-accepts
returns-in-Ok-clause-accepts c = λ epc lawful f e. ap Ok (one_id_in c.in-Ok.epc epc c.in-Ok.ensures.lawful lawful (c.in-Ok.ensures.ok.1 ∙ sym f) (sym c.in-Ok.ensures.ok.0 ∙ e))

pub returns-in-Err-clause-accepts : goal.returns-in-Err-clause-accepts
returns-in-Err-clause-accepts c = λ epc lawful f e. absurd (no_id_fault_in epc c.args.filter c.in-Err.fault lawful f (subst (λ (t : List ℕ). HasIdFaultIn c.args.filter t c.in-Err.fault) e c.in-Err.ensures.err))
