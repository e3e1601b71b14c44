use Rattle.std.proofs.Common.{◌≡◌, ◌∙◌, arith}
use Rattle.tag_epc.specs.declared.lawful_parts.Number.TheVariants.{Company, Reference, Last}
use Rattle.tag_epc.proofs.EpcFields.{placed, cut, cut_lawful, cut_fault, row_fault}
use Rattle.tag_epc.proofs.from_word.partitioned.Goals as goal

pub returns-in_default-clause-err : goal.returns-in_default-clause-err
returns-in_default-clause-err g c =
    row_fault c.args.kind g.S.Scheme.layout c.take-filter.result c.take-partition.result c.args.reader c.take-filter.new.self c.take-partition.new.self c.at.result c.row.result c.requires.known g.met.S.Scheme.sound c.take-filter.ensures.below c.take-partition.ensures.below
    c.take-filter.ensures.read c.take-partition.ensures.read c.row.ensures c.in_default.is c.at.ensures

pub returns-in-Some-Company-clause-err : goal.returns-in-Some-Company-clause-err
returns-in-Some-Company-clause-err g c =
    let at = placed c.args.kind g.S.Scheme.layout c.in-Some.row c.take-filter.result c.take-partition.result c.row.result c.requires.known g.met.S.Scheme.sound c.row.ensures c.in-Some.is c.take-filter.ensures.below in
    let fits = at.sound.rows c.take-partition.result c.in-Some.row at.row in
    let bits : c.LAST_BITS.result ≡ g.S.Scheme.layout.last_bits = c.LAST_BITS.ensures ∙ g.met.S.Scheme.last_bits_is in
    let whole = cut g.S.Scheme.layout c.in-Some.row c.take-filter.result c.take-partition.result c.take-company.result c.take-reference.result c.take-last.result c.LAST_BITS.result c.args.reader c.take-filter.new.self c.take-partition.new.self c.take-company.new.self c.take-reference.new.self c.take-last.new.self bits
    c.take-partition.ensures.below c.take-company.ensures.below c.take-reference.ensures.below c.take-last.ensures.below c.take-filter.ensures.read c.take-partition.ensures.read c.take-company.ensures.read c.take-reference.ensures.read c.take-last.ensures.read (omega (arith, fits.fills)) in
    cut_fault c.args.kind g.S.Scheme.layout c.in-Some.row c.take-filter.result c.take-partition.result c.take-company.result c.take-reference.result c.take-last.result c.args.reader c.in-Some-Company.field-0 Company c.at-in-Some-Company.result at whole
    c.in-Some-Company.field-0-is c.at-in-Some-Company.ensures c.in-Some-Company.ensures

pub returns-in-Some-Reference-clause-err : goal.returns-in-Some-Reference-clause-err
returns-in-Some-Reference-clause-err g c =
    let at = placed c.args.kind g.S.Scheme.layout c.in-Some.row c.take-filter.result c.take-partition.result c.row.result c.requires.known g.met.S.Scheme.sound c.row.ensures c.in-Some.is c.take-filter.ensures.below in
    let fits = at.sound.rows c.take-partition.result c.in-Some.row at.row in
    let bits : c.LAST_BITS.result ≡ g.S.Scheme.layout.last_bits = c.LAST_BITS.ensures ∙ g.met.S.Scheme.last_bits_is in
    let whole = cut g.S.Scheme.layout c.in-Some.row c.take-filter.result c.take-partition.result c.take-company.result c.take-reference.result c.take-last.result c.LAST_BITS.result c.args.reader c.take-filter.new.self c.take-partition.new.self c.take-company.new.self c.take-reference.new.self c.take-last.new.self bits
    c.take-partition.ensures.below c.take-company.ensures.below c.take-reference.ensures.below c.take-last.ensures.below c.take-filter.ensures.read c.take-partition.ensures.read c.take-company.ensures.read c.take-reference.ensures.read c.take-last.ensures.read (omega (arith, fits.fills)) in
    cut_fault c.args.kind g.S.Scheme.layout c.in-Some.row c.take-filter.result c.take-partition.result c.take-company.result c.take-reference.result c.take-last.result c.args.reader c.in-Some-Reference.field-0 Reference c.at-in-Some-Reference.result at whole
    c.in-Some-Reference.field-0-is c.at-in-Some-Reference.ensures c.in-Some-Reference.ensures

pub returns-in-Some-Last-clause-err : goal.returns-in-Some-Last-clause-err
returns-in-Some-Last-clause-err g c =
    let at = placed c.args.kind g.S.Scheme.layout c.in-Some.row c.take-filter.result c.take-partition.result c.row.result c.requires.known g.met.S.Scheme.sound c.row.ensures c.in-Some.is c.take-filter.ensures.below in
    let fits = at.sound.rows c.take-partition.result c.in-Some.row at.row in
    let bits : c.LAST_BITS.result ≡ g.S.Scheme.layout.last_bits = c.LAST_BITS.ensures ∙ g.met.S.Scheme.last_bits_is in
    let whole = cut g.S.Scheme.layout c.in-Some.row c.take-filter.result c.take-partition.result c.take-company.result c.take-reference.result c.take-last.result c.LAST_BITS.result c.args.reader c.take-filter.new.self c.take-partition.new.self c.take-company.new.self c.take-reference.new.self c.take-last.new.self bits
    c.take-partition.ensures.below c.take-company.ensures.below c.take-reference.ensures.below c.take-last.ensures.below c.take-filter.ensures.read c.take-partition.ensures.read c.take-company.ensures.read c.take-reference.ensures.read c.take-last.ensures.read (omega (arith, fits.fills)) in
    cut_fault c.args.kind g.S.Scheme.layout c.in-Some.row c.take-filter.result c.take-partition.result c.take-company.result c.take-reference.result c.take-last.result c.args.reader c.in-Some-Last.field-0 Last c.at-in-Some-Last.result at whole
    c.in-Some-Last.field-0-is c.at-in-Some-Last.ensures c.in-Some-Last.ensures

pub returns-in-None-clause-ok : goal.returns-in-None-clause-ok
returns-in-None-clause-ok g c =
    let at = placed c.args.kind g.S.Scheme.layout c.in-Some.row c.take-filter.result c.take-partition.result c.row.result c.requires.known g.met.S.Scheme.sound c.row.ensures c.in-Some.is c.take-filter.ensures.below in
    let fits = at.sound.rows c.take-partition.result c.in-Some.row at.row in
    let bits : c.LAST_BITS.result ≡ g.S.Scheme.layout.last_bits = c.LAST_BITS.ensures ∙ g.met.S.Scheme.last_bits_is in
    let whole = cut g.S.Scheme.layout c.in-Some.row c.take-filter.result c.take-partition.result c.take-company.result c.take-reference.result c.take-last.result c.LAST_BITS.result c.args.reader c.take-filter.new.self c.take-partition.new.self c.take-company.new.self c.take-reference.new.self c.take-last.new.self bits
    c.take-partition.ensures.below c.take-company.ensures.below c.take-reference.ensures.below c.take-last.ensures.below c.take-filter.ensures.read c.take-partition.ensures.read c.take-company.ensures.read c.take-reference.ensures.read c.take-last.ensures.read (omega (arith, fits.fills)) in
    cut_lawful c.args.kind g.S.Scheme.layout c.in-Some.row c.take-filter.result c.take-partition.result c.take-company.result c.take-reference.result c.take-last.result c.args.reader at whole c.in-None.ensures
