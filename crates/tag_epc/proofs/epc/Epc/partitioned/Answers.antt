use Rattle.std.proofs.Common.{rules}
use Rattle.std.specs.Prelude.{Result, Ok, Err, IsOk, IsErr}
use Rattle.tag_epc.proofs.OneFault.{lawful_or_epc_fault}
use Rattle.tag_epc.proofs.epc.Epc.partitioned.Goals as goal

pub returns-clause-exactly : goal.returns-clause-exactly
returns-clause-exactly c = search rules

pub returns-clause-ok : goal.returns-clause-ok
returns-clause-ok c = search rules

pub returns-in_err-parts-clause-err : goal.returns-in_err-parts-clause-err
returns-in_err-parts-clause-err c = search rules

pub returns-in_err-parts-clause-exactly : goal.returns-in_err-parts-clause-exactly
returns-in_err-parts-clause-exactly c = (
  λ ok. absurd (no_ok_error c.from_residual.result ok c.from_residual.ensures.0),
  λ lawful. absurd (lawful_or_epc_fault _ _ lawful c.in_err-parts.ensures.err),
)
  where
    no_ok_error : {T E : Type 0} (r : Result T E) → IsOk r → IsErr r → ⊥
    no_ok_error (Ok v) ok error = cc
    no_ok_error (Err e) ok error = cc
