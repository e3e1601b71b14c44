use Rattle.std.proofs.Common.{◌≡◌, not, true, sym, ap, ◌∙◌, arith}
use Rattle.tag_epc.proofs.Soundness.{sound as is_sound_layout}
use Rattle.tag_uri.specs.declared.fault.UriFault.TheVariants as fault
use Rattle.tag_uri.specs.TagText.{some_component, is_above}
use Rattle.tag_uri.specs.Private.ComponentForms.{forms_with, texts_of, LastIs}
use Rattle.tag_uri.proofs.RuleLemmas.{refused, wrong_count, digit_first, zero_first, filter_first, digits_first, range_first}
use Rattle.tag_uri.proofs.ReadLemmas.{no_stray, one_digit, filter_below, fits_last, lawful, same_components}
use Rattle.tag_uri.proofs.RowDigits.{few_digits, row_of_digits}
use Rattle.tag_uri.proofs.partitioned.read_partitioned.Goals as goal

pub returns-in_default-clause-err : goal.returns-in_default-clause-err
returns-in_default-clause-err g c = wrong_count c.args.kind g.S.Scheme.layout _ c.ZERO_TAIL.result c.requires (c.ZERO_TAIL.ensures ∙ g.met.S.Scheme.zero_tail_is) c.in_default.ensures.none

pub returns-then-has_stray-clause-err : goal.returns-then-has_stray-clause-err
returns-then-has_stray-clause-err g c =
    refused c.args.kind g.S.Scheme.layout _ c.in-Some.texts fault.Digit c.requires c.in-Some.ensures.some (c.in-Some.ensures.last ∙ ap not (c.ZERO_TAIL.ensures ∙ g.met.S.Scheme.zero_tail_is))
    (digit_first _ _ _ _ _ (sym (c.has_stray.ensures g.S.Scheme.layout.last_bits) ∙ c.if-has_stray.true))

pub returns-then-has_leading_zero-clause-err : goal.returns-then-has_leading_zero-clause-err
returns-then-has_leading_zero-clause-err g c =
    refused c.args.kind g.S.Scheme.layout _ c.in-Some.texts fault.LeadingZero c.requires c.in-Some.ensures.some (c.in-Some.ensures.last ∙ ap not (c.ZERO_TAIL.ensures ∙ g.met.S.Scheme.zero_tail_is))
    (zero_first _ _ _ _ _ (sym (c.has_stray.ensures g.S.Scheme.layout.last_bits) ∙ c.if-has_stray.false) (sym (c.has_leading_zero.ensures g.S.Scheme.layout.last_bits) ∙ c.if-has_leading_zero.true))

pub returns-then-is_no_filter-clause-err : goal.returns-then-is_no_filter-clause-err
returns-then-is_no_filter-clause-err g c =
    refused c.args.kind g.S.Scheme.layout _ c.in-Some.texts fault.Filter c.requires c.in-Some.ensures.some (c.in-Some.ensures.last ∙ ap not (c.ZERO_TAIL.ensures ∙ g.met.S.Scheme.zero_tail_is))
    (filter_first _ _ _ _ _ (sym (c.has_stray.ensures g.S.Scheme.layout.last_bits) ∙ c.if-has_stray.false) (sym (c.has_leading_zero.ensures g.S.Scheme.layout.last_bits) ∙ c.if-has_leading_zero.false) (sym c.is_no_filter.ensures ∙ c.if-is_no_filter.true))

pub returns-then-is_no_row-clause-err : goal.returns-then-is_no_row-clause-err
returns-then-is_no_row-clause-err g c =
    refused c.args.kind g.S.Scheme.layout _ c.in-Some.texts fault.Digits c.requires c.in-Some.ensures.some (c.in-Some.ensures.last ∙ ap not (c.ZERO_TAIL.ensures ∙ g.met.S.Scheme.zero_tail_is))
    (digits_first _ _ _ _ _ (sym (c.has_stray.ensures g.S.Scheme.layout.last_bits) ∙ c.if-has_stray.false) (sym (c.has_leading_zero.ensures g.S.Scheme.layout.last_bits) ∙ c.if-has_leading_zero.false) (sym c.is_no_filter.ensures ∙ c.if-is_no_filter.false) (sym c.is_no_row.ensures ∙ c.if-is_no_row.true))

pub last_below-requires-clause-digits : goal.last_below-requires-clause-digits
last_below-requires-clause-digits g c = sym (c.has_stray.ensures c.LAST_BITS.result) ∙ c.if-has_stray.false

pub last_below-requires-clause-plain : goal.last_below-requires-clause-plain
last_below-requires-clause-plain g c = sym (c.has_leading_zero.ensures c.LAST_BITS.result) ∙ c.if-has_leading_zero.false

pub last_below-requires-clause-narrow : goal.last_below-requires-clause-narrow
last_below-requires-clause-narrow g c =
    let bits = c.LAST_BITS.ensures ∙ g.met.S.Scheme.last_bits_is in
    rw bits (is_sound_layout g.S.Scheme.layout g.met.S.Scheme.sound).last

pub returns-in_default-last_below-clause-err : goal.returns-in_default-last_below-clause-err
returns-in_default-last_below-clause-err g c =
    let bits = c.LAST_BITS.ensures ∙ g.met.S.Scheme.last_bits_is in
    let over : some_component is_above (forms_with c.in-Some.texts g.S.Scheme.layout.last_bits) (texts_of c.in-Some.texts) ≡ true = rw bits at (sym c.in_default-last_below.ensures.over) in
    refused c.args.kind g.S.Scheme.layout _ c.in-Some.texts fault.Range c.requires c.in-Some.ensures.some (c.in-Some.ensures.last ∙ ap not (c.ZERO_TAIL.ensures ∙ g.met.S.Scheme.zero_tail_is))
    (range_first _ _ _ _ _ (sym (c.has_stray.ensures g.S.Scheme.layout.last_bits) ∙ c.if-has_stray.false) (sym (c.has_leading_zero.ensures g.S.Scheme.layout.last_bits) ∙ c.if-has_leading_zero.false) (sym c.is_no_filter.ensures ∙ c.if-is_no_filter.false) (sym c.is_no_row.ensures ∙ c.if-is_no_row.false) over)

pub number_of-requires-clause-digits : goal.number_of-requires-clause-digits
number_of-requires-clause-digits g c = (no_stray c.in-Some.texts g.S.Scheme.layout.last_bits (sym (c.has_stray.ensures g.S.Scheme.layout.last_bits) ∙ c.if-has_stray.false)).filter.digits

pub number_of-requires-clause-short : goal.number_of-requires-clause-short
number_of-requires-clause-short g c = omega (arith, one_digit c.in-Some.texts.filter.now (sym c.is_no_filter.ensures ∙ c.if-is_no_filter.false))

pub overflow_cast-result : goal.overflow_cast-result
overflow_cast-result g c = omega (arith, filter_below c.in-Some.texts.filter.now c.number_of.result (sym c.is_no_filter.ensures ∙ c.if-is_no_filter.false) c.number_of.ensures.padded c.number_of.ensures.below)

pub overflow_cast-result-2 : goal.overflow_cast-result-2
overflow_cast-result-2 g c = omega (arith, (row_of_digits g.S.Scheme.layout _ _ g.met.S.Scheme.sound (sym c.is_no_row.ensures ∙ c.if-is_no_row.false)).short)

pub number_of-requires-2-clause-digits : goal.number_of-requires-2-clause-digits
number_of-requires-2-clause-digits g c = (no_stray c.in-Some.texts g.S.Scheme.layout.last_bits (sym (c.has_stray.ensures g.S.Scheme.layout.last_bits) ∙ c.if-has_stray.false)).company.digits

pub number_of-requires-2-clause-short : goal.number_of-requires-2-clause-short
number_of-requires-2-clause-short g c = (row_of_digits g.S.Scheme.layout _ _ g.met.S.Scheme.sound (sym c.is_no_row.ensures ∙ c.if-is_no_row.false)).short

pub number_of-requires-3-clause-digits : goal.number_of-requires-3-clause-digits
number_of-requires-3-clause-digits g c = (no_stray c.in-Some.texts g.S.Scheme.layout.last_bits (sym (c.has_stray.ensures g.S.Scheme.layout.last_bits) ∙ c.if-has_stray.false)).reference

pub number_of-requires-3-clause-short : goal.number_of-requires-3-clause-short
number_of-requires-3-clause-short g c =
    few_digits g.S.Scheme.layout _ _ g.met.S.Scheme.sound (row_of_digits g.S.Scheme.layout _ _ g.met.S.Scheme.sound (sym c.is_no_row.ensures ∙ c.if-is_no_row.false))

pub returns-clause-lawful : goal.returns-clause-lawful
returns-clause-lawful g c =
    let bits = c.LAST_BITS.ensures ∙ g.met.S.Scheme.last_bits_is in
    let last : LastIs c.in-Some.texts.last g.S.Scheme.layout.last_bits c.in-Some-last_below.last = rw bits at c.in-Some-last_below.ensures.last in
    let f = filter_below c.in-Some.texts.filter.now c.number_of.result (sym c.is_no_filter.ensures ∙ c.if-is_no_filter.false) c.number_of.ensures.padded c.number_of.ensures.below in
    lawful c.args.kind g.S.Scheme.layout _ _ _ _ _ _ c.requires g.met.S.Scheme.sound (row_of_digits g.S.Scheme.layout _ _ g.met.S.Scheme.sound (sym c.is_no_row.ensures ∙ c.if-is_no_row.false))
    f c.number_of-2.ensures.below c.number_of-3.ensures.below (fits_last g.S.Scheme.layout c.in-Some.texts.last _ (c.in-Some.ensures.last ∙ ap not (c.ZERO_TAIL.ensures ∙ g.met.S.Scheme.zero_tail_is)) last)

pub returns-clause-ok : goal.returns-clause-ok
returns-clause-ok g c =
    let bits = c.LAST_BITS.ensures ∙ g.met.S.Scheme.last_bits_is in
    let last : LastIs c.in-Some.texts.last g.S.Scheme.layout.last_bits c.in-Some-last_below.last = rw bits at c.in-Some-last_below.ensures.last in
    let one = one_digit c.in-Some.texts.filter.now (sym c.is_no_filter.ensures ∙ c.if-is_no_filter.false) in
    same_components c.args.kind g.S.Scheme.layout c.in-Some.texts _ _ _ _ _ c.requires g.met.S.Scheme.sound c.in-Some.ensures.some (c.in-Some.ensures.last ∙ ap not (c.ZERO_TAIL.ensures ∙ g.met.S.Scheme.zero_tail_is))
    (row_of_digits g.S.Scheme.layout _ _ g.met.S.Scheme.sound (sym c.is_no_row.ensures ∙ c.if-is_no_row.false)) one c.number_of.ensures.padded c.number_of-2.ensures.padded c.number_of-3.ensures.padded last
