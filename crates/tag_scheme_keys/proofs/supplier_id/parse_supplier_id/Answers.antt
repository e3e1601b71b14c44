use Rattle.std.proofs.Common.{◌∙◌, List, ℕ, Ok, sym, ap, subst}
use Rattle.tag_scheme_keys.specs.SupplierIdentity.{HasSupplierIdFault}
use Rattle.tag_scheme_keys.proofs.SupplierIds.{no_supplier_id_fault, one_supplier_id_uri}
use Rattle.tag_scheme_keys.proofs.supplier_id.parse_supplier_id.Goals as goal

pub returns-in-Ok-clause-accepts : goal.returns-in-Ok-clause-accepts
returns-in-Ok-clause-accepts c = λ epc lawful f e. ap Ok (one_supplier_id_uri c.in-Ok.epc epc c.in-Ok.ensures.lawful lawful (c.in-Ok.ensures.ok.1 ∙ sym f) (sym c.in-Ok.ensures.ok.0 ∙ e))

pub returns-in-Err-clause-accepts : goal.returns-in-Err-clause-accepts
returns-in-Err-clause-accepts c = λ epc lawful f e. absurd (no_supplier_id_fault epc c.in-Err.fault lawful (subst (λ (t : List ℕ). HasSupplierIdFault t c.in-Err.fault) e c.in-Err.ensures.err))
