use Rattle.std.proofs.Common.{rules, ◌-◌, arith}
use Rattle.tag_epc.specs.declared.lawful_parts.Number.TheVariants.{Company, Reference, Last}
use Rattle.tag_epc.proofs.EpcFields.{placed, epc_unfit, epc_lawful}
use Rattle.tag_epc.proofs.lawful_parts.checked.Goals as goal

pub returns-in-Some-Company-clause-err : goal.returns-in-Some-Company-clause-err
returns-in-Some-Company-clause-err g c =
    let at = placed c.args.kind g.S.Scheme.layout c.in-Some.row c.args.filter (12 - c.args.company_digits) c.row.result c.requires g.met.S.Scheme.sound c.row.ensures c.in-Some.is (omega arith) in
    epc_unfit c.args.kind g.S.Scheme.layout c.in-Some.row c.args.filter (12 - c.args.company_digits) c.args.company_digits c.args.company c.args.reference c.args.last c.in-Some-Company.field-0 Company at (omega arith) c.in-Some-Company.field-0-is c.in-Some-Company.ensures

pub returns-in-Some-Reference-clause-err : goal.returns-in-Some-Reference-clause-err
returns-in-Some-Reference-clause-err g c =
    let at = placed c.args.kind g.S.Scheme.layout c.in-Some.row c.args.filter (12 - c.args.company_digits) c.row.result c.requires g.met.S.Scheme.sound c.row.ensures c.in-Some.is (omega arith) in
    epc_unfit c.args.kind g.S.Scheme.layout c.in-Some.row c.args.filter (12 - c.args.company_digits) c.args.company_digits c.args.company c.args.reference c.args.last c.in-Some-Reference.field-0 Reference at (omega arith) c.in-Some-Reference.field-0-is c.in-Some-Reference.ensures

pub returns-in-Some-Last-clause-err : goal.returns-in-Some-Last-clause-err
returns-in-Some-Last-clause-err g c =
    let at = placed c.args.kind g.S.Scheme.layout c.in-Some.row c.args.filter (12 - c.args.company_digits) c.row.result c.requires g.met.S.Scheme.sound c.row.ensures c.in-Some.is (omega arith) in
    epc_unfit c.args.kind g.S.Scheme.layout c.in-Some.row c.args.filter (12 - c.args.company_digits) c.args.company_digits c.args.company c.args.reference c.args.last c.in-Some-Last.field-0 Last at (omega arith) c.in-Some-Last.field-0-is c.in-Some-Last.ensures

pub returns-in-None-clause-lawful : goal.returns-in-None-clause-lawful
returns-in-None-clause-lawful g c =
    let at = placed c.args.kind g.S.Scheme.layout c.in-Some.row c.args.filter (12 - c.args.company_digits) c.row.result c.requires g.met.S.Scheme.sound c.row.ensures c.in-Some.is (omega arith) in
    epc_lawful c.args.kind g.S.Scheme.layout c.in-Some.row c.args.filter (12 - c.args.company_digits) c.args.company_digits c.args.company c.args.reference c.args.last at (omega arith) c.in-None.ensures

pub returns-then-company_digits-lt6-clause-err : goal.returns-then-company_digits-lt6-clause-err
returns-then-company_digits-lt6-clause-err c = search rules
