use Rattle.std.proofs.Common.{◌∙◌, ap, length, arith}
use Rattle.tag_scheme_keys.proofs.SupplierIds.{read_zero, some_zero, zero_fault}
use Rattle.tag_scheme_keys.proofs.supplier_id.supplier_with_zero.Goals as goal

pub unreachable-requires : goal.unreachable-requires
unreachable-requires c = some_zero c.as_str.result.now c.args.rest.now (c.as_str.ensures.value ∙ c.tag_with_zero-text.ensures.text) c.in-Ok.word c.in-Ok.ensures.ok c.in-None.ensures.none

pub returns-in-Some-clause-ok : goal.returns-in-Some-clause-ok
returns-in-Some-clause-ok c = read_zero c.as_str.result.now c.args.rest.now (c.as_str.ensures.value ∙ c.tag_with_zero-text.ensures.text) c.in-Ok.word c.in-Some.epc c.in-Ok.ensures.ok c.in-Some.ensures.some

pub returns-in-Err-clause-err : goal.returns-in-Err-clause-err
returns-in-Err-clause-err c =
    let long = ap length c.as_str.ensures.value in
    zero_fault c.as_str.result.now c.args.rest.now (c.as_str.ensures.value ∙ c.tag_with_zero-text.ensures.text) c.in-Err.fault (omega (arith, long, c.tag_with_zero-text.ensures.short)) c.in-Err.ensures.err
