use Rattle.std.proofs.Common.{arith}
use Rattle.tag_bits.specs.Digits.{word_digits}
use Rattle.tag_schemes.specs.Schemes.{layout_in}
use Rattle.tag_schemes.proofs.WordFacts.{told, same_place, numbers_fit, numbers_are}
use Rattle.tag_schemes.proofs.FaultFacts.{absent, looks, reads, no_row, whole, prefix_fails, reference_fails, last_fails, last_no}
use Rattle.tag_schemes.proofs.read_word.read.Goals as goal

pub returns-in_default-clause-fault : goal.returns-in_default-clause-fault
returns-in_default-clause-fault c =
    no_row c.args.scheme c.args.word c.part-filter.result c.part-partition.result c.row.result c.fault_at.result c.requires c.row.ensures c.in_default.is c.part-filter.ensures.below c.part-filter.ensures.digits
    c.part-partition.ensures.below c.part-partition.ensures.digits c.fault_at.ensures

pub returns-in_default-clause-none : goal.returns-in_default-clause-none
returns-in_default-clause-none c = λ n h.
    let seen = looks c.args.scheme c.args.word c.part-partition.result c.row.result c.requires c.part-partition.ensures.below c.part-partition.ensures.digits c.row.ensures in
    let place = (same_place n (word_digits c.args.word) (told n c.args.word h) c.args.scheme (layout_in c.args.scheme).header c.part-partition.result c.row.result seen).1 in
    let none = c.in_default.is in
    cc

pub returns-then-company-power-clause-fault : goal.returns-then-company-power-clause-fault
returns-then-company-power-clause-fault c =
    let numbers = reads c.args.scheme c.args.word c.in-Some.row c.part-company.result c.part-reference.result c.part-last.result c.last_bits.result c.last_bits.ensures c.part-company.ensures.below c.part-company.ensures.digits c.part-reference.ensures.below c.part-reference.ensures.digits c.part-last.ensures.below c.part-last.ensures.digits in
    let read = whole c.args.scheme c.args.word c.part-filter.result c.part-partition.result c.part-company.result c.part-reference.result c.part-last.result c.row.result c.in-Some.row c.requires c.row.ensures c.in-Some.is c.part-filter.ensures.below c.part-filter.ensures.digits c.part-partition.ensures.below c.part-partition.ensures.digits numbers in
    prefix_fails c.args.scheme c.args.word c.in-Some.row c.part-filter.result c.part-partition.result c.part-company.result c.part-reference.result c.part-last.result read c.fault_at-then-company-power.result (omega (arith, c.if-company-power.true, c.power.ensures)) c.fault_at-then-company-power.ensures

pub returns-then-company-power-clause-none : goal.returns-then-company-power-clause-none
returns-then-company-power-clause-none c = λ n h.
    let seen = looks c.args.scheme c.args.word c.part-partition.result c.row.result c.requires c.part-partition.ensures.below c.part-partition.ensures.digits c.row.ensures in
    let numbers = reads c.args.scheme c.args.word c.in-Some.row c.part-company.result c.part-reference.result c.part-last.result c.last_bits.result c.last_bits.ensures c.part-company.ensures.below c.part-company.ensures.digits c.part-reference.ensures.below c.part-reference.ensures.digits c.part-last.ensures.below c.part-last.ensures.digits in
    let fit = numbers_fit n c.args.word c.args.scheme (layout_in c.args.scheme).header c.part-partition.result c.part-company.result c.part-reference.result c.part-last.result c.row.result c.in-Some.row h seen c.in-Some.is numbers in
    omega (arith, fit.0, c.if-company-power.true, c.power.ensures)

pub returns-then-not-has_digits-clause-fault : goal.returns-then-not-has_digits-clause-fault
returns-then-not-has_digits-clause-fault c =
    let numbers = reads c.args.scheme c.args.word c.in-Some.row c.part-company.result c.part-reference.result c.part-last.result c.last_bits.result c.last_bits.ensures c.part-company.ensures.below c.part-company.ensures.digits c.part-reference.ensures.below c.part-reference.ensures.digits c.part-last.ensures.below c.part-last.ensures.digits in
    let read = whole c.args.scheme c.args.word c.part-filter.result c.part-partition.result c.part-company.result c.part-reference.result c.part-last.result c.row.result c.in-Some.row c.requires c.row.ensures c.in-Some.is c.part-filter.ensures.below c.part-filter.ensures.digits c.part-partition.ensures.below c.part-partition.ensures.digits numbers in
    let over = absent c.has_digits.result c.part-reference.result c.in-Some.row.reference_digits c.has_digits.ensures c.if-not-has_digits.true in
    reference_fails c.args.scheme c.args.word c.in-Some.row c.part-filter.result c.part-partition.result c.part-company.result c.part-reference.result c.part-last.result read c.fault_at-then-not-has_digits.result (omega (arith, c.if-company-power.false, c.power.ensures)) over c.fault_at-then-not-has_digits.ensures

pub returns-then-not-has_digits-clause-none : goal.returns-then-not-has_digits-clause-none
returns-then-not-has_digits-clause-none c = λ n h.
    let seen = looks c.args.scheme c.args.word c.part-partition.result c.row.result c.requires c.part-partition.ensures.below c.part-partition.ensures.digits c.row.ensures in
    let numbers = reads c.args.scheme c.args.word c.in-Some.row c.part-company.result c.part-reference.result c.part-last.result c.last_bits.result c.last_bits.ensures c.part-company.ensures.below c.part-company.ensures.digits c.part-reference.ensures.below c.part-reference.ensures.digits c.part-last.ensures.below c.part-last.ensures.digits in
    let fit = numbers_fit n c.args.word c.args.scheme (layout_in c.args.scheme).header c.part-partition.result c.part-company.result c.part-reference.result c.part-last.result c.row.result c.in-Some.row h seen c.in-Some.is numbers in
    let yes = c.has_digits.ensures.1 fit.1 in
    let no = c.if-not-has_digits.true in
    cc

pub returns-in-Some-last_fault-clause-fault : goal.returns-in-Some-last_fault-clause-fault
returns-in-Some-last_fault-clause-fault c =
    let numbers = reads c.args.scheme c.args.word c.in-Some.row c.part-company.result c.part-reference.result c.part-last.result c.last_bits.result c.last_bits.ensures c.part-company.ensures.below c.part-company.ensures.digits c.part-reference.ensures.below c.part-reference.ensures.digits c.part-last.ensures.below c.part-last.ensures.digits in
    let read = whole c.args.scheme c.args.word c.part-filter.result c.part-partition.result c.part-company.result c.part-reference.result c.part-last.result c.row.result c.in-Some.row c.requires c.row.ensures c.in-Some.is c.part-filter.ensures.below c.part-filter.ensures.digits c.part-partition.ensures.below c.part-partition.ensures.digits numbers in
    last_fails c.args.scheme c.args.word c.in-Some.row c.part-filter.result c.part-partition.result c.part-company.result c.part-reference.result c.part-last.result c.in-Some-last_fault.reason c.fault_at-in-Some-last_fault.result read (omega (arith, c.if-company-power.false, c.power.ensures)) (c.has_digits.ensures.0 c.if-not-has_digits.false) c.in-Some-last_fault.ensures c.fault_at-in-Some-last_fault.ensures

pub returns-in-Some-last_fault-clause-none : goal.returns-in-Some-last_fault-clause-none
returns-in-Some-last_fault-clause-none c = λ n h.
    let seen = looks c.args.scheme c.args.word c.part-partition.result c.row.result c.requires c.part-partition.ensures.below c.part-partition.ensures.digits c.row.ensures in
    let numbers = reads c.args.scheme c.args.word c.in-Some.row c.part-company.result c.part-reference.result c.part-last.result c.last_bits.result c.last_bits.ensures c.part-company.ensures.below c.part-company.ensures.digits c.part-reference.ensures.below c.part-reference.ensures.digits c.part-last.ensures.below c.part-last.ensures.digits in
    let fit = numbers_fit n c.args.word c.args.scheme (layout_in c.args.scheme).header c.part-partition.result c.part-company.result c.part-reference.result c.part-last.result c.row.result c.in-Some.row h seen c.in-Some.is numbers in
    last_no c.args.scheme c.part-last.result c.in-Some-last_fault.reason c.in-Some-last_fault.ensures fit.2

pub returns-clause-ok : goal.returns-clause-ok
returns-clause-ok c =
    let seen = looks c.args.scheme c.args.word c.part-partition.result c.row.result c.requires c.part-partition.ensures.below c.part-partition.ensures.digits c.row.ensures in
    let numbers = reads c.args.scheme c.args.word c.in-Some.row c.part-company.result c.part-reference.result c.part-last.result c.last_bits.result c.last_bits.ensures c.part-company.ensures.below c.part-company.ensures.digits c.part-reference.ensures.below c.part-reference.ensures.digits c.part-last.ensures.below c.part-last.ensures.digits in
    numbers_are c.args.word c.args.scheme (layout_in c.args.scheme).header c.part-partition.result c.part-filter.result c.part-company.result c.part-reference.result c.part-last.result c.row.result c.in-Some.row seen c.in-Some.is
    c.part-filter.ensures.below c.part-filter.ensures.digits numbers (omega (arith, c.if-company-power.false, c.power.ensures)) (c.has_digits.ensures.0 c.if-not-has_digits.false) c.in_default-last_fault.ensures
