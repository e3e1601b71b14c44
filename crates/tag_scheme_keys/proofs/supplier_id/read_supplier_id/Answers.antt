use Rattle.std.proofs.Common.{◌++◌, ◌∙◌, List, ℕ, refl, sym, ap}
use Rattle.tag_scheme_keys.specs.SupplierIdentity.{supplier_id_start}
use Rattle.tag_scheme_keys.proofs.SupplierIds.{supplier_id_is}
use Rattle.tag_scheme_keys.proofs.supplier_id.read_supplier_id.Goals as goal

pub returns-in-Ok-clause-ok : goal.returns-in-Ok-clause-ok
returns-in-Ok-clause-ok c = (
  c.in-Some.ensures.some.begins ∙ ap (λ (x : List ℕ). supplier_id_start ++ x) c.in-Ok.ensures.ok ∙ sym (supplier_id_is (record { filter = c.args.filter; code = c.in-Ok.epc.code; serial = c.in-Ok.epc.serial })),
  refl,
)
