use Rattle.std.proofs.Common.{List, ℕ, Ok, sym, ap, subst, ◌∙◌}
use Rattle.tag_scheme_keys.specs.KeyFaults.{HasKeyFaultIn}
use Rattle.tag_scheme_keys.proofs.KeyLaws.{one_key_in}
use Rattle.tag_scheme_keys.proofs.KeyFaultLaws.{no_key_fault_in}
use Rattle.tag_scheme_keys.proofs.read_key_text.parse_key_in.Goals as goal

pub returns-in-Ok-clause-accepts : goal.returns-in-Ok-clause-accepts
returns-in-Ok-clause-accepts c = λ epc lawful f k e. ap Ok (one_key_in c.args.spelling c.in-Ok.epc epc c.in-Ok.ensures.lawful lawful (c.in-Ok.ensures.asked.0 ∙ sym f) (c.in-Ok.ensures.asked.1 ∙ sym k) (sym c.in-Ok.ensures.ok ∙ e))

pub returns-in-Err-clause-accepts : goal.returns-in-Err-clause-accepts
returns-in-Err-clause-accepts c = λ epc lawful f k e.
    absurd (no_key_fault_in c.args.spelling epc c.args.filter c.args.company_digits c.in-Err.fault lawful f k (subst (λ (t : List ℕ). HasKeyFaultIn c.args.spelling c.args.filter c.args.company_digits t c.in-Err.fault) e c.in-Err.ensures.err))
