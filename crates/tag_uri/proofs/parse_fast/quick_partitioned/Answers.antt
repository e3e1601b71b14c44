use Rattle.std.proofs.Common.{◌≡◌, ◌+◌, ◌-◌, ℕ, Some, drop, refl, sym, ap, ◌∙◌, arith}
use Rattle.tag_epc.specs.Layout.{row_at}
use Rattle.tag_uri.proofs.ReadLemmas.{lawful}
use Rattle.tag_uri.proofs.QuickLemmas.{fits_tail, partitioned_read}
use Rattle.tag_uri.proofs.parse_fast.quick_partitioned.Goals as goal

pub returns-clause-lawful : goal.returns-clause-lawful
returns-clause-lawful g c =
    let l = g.S.Scheme.layout in
    let k = c.in-Some-company_digits.digits in
    let placed : row_at l (12 - k) ≡ Some c.in-Some-row.row = sym c.row.ensures ∙ c.in-Some-row.is in
    let last = fits_tail l c.ZERO_TAIL.result c.LAST_BITS.result c.in-Some-last_from.last (c.ZERO_TAIL.ensures ∙ g.met.S.Scheme.zero_tail_is) (c.LAST_BITS.ensures ∙ g.met.S.Scheme.last_bits_is) c.in-Some-last_from.ensures.fits in
    lawful c.args.kind l c.in-Some.filter k c.in-Some-row.row.reference_digits c.in-Some-digits_before.company c.in-Some-digits_before-2.reference c.in-Some-last_from.last c.requires.known g.met.S.Scheme.sound
    (record { row = c.in-Some-row.row; short = c.in-Some-company_digits.ensures.most; placed = placed; digits = refl })
    c.in-Some.ensures.below c.in-Some-digits_before.ensures.below c.in-Some-digits_before-2.ensures.below last

pub returns-clause-text : goal.returns-clause-text
returns-clause-text g c =
    let l = g.S.Scheme.layout in
    let k = c.in-Some-company_digits.digits in
    let p : ℕ = c.args.from + 2 in
    let company_end : ℕ = p + k in
    let digits = c.in-Some-row.row.reference_digits in
    let end : ℕ = company_end + 1 + digits in
    let placed : row_at l (12 - k) ≡ Some c.in-Some-row.row = sym c.row.ensures ∙ c.in-Some-row.is in
    let first : company_end - k ≡ p = omega arith in
    let second : end - digits ≡ company_end + 1 = omega arith in
    partitioned_read c.args.kind l c.in-Some-row.row c.in-Some.filter k c.in-Some-digits_before.company c.in-Some-digits_before-2.reference c.in-Some-last_from.last
    c.args.from p company_end (company_end + 1) end c.ZERO_TAIL.result c.args.text.now
    c.requires.known g.met.S.Scheme.sound c.in-Some-company_digits.ensures.most placed (c.ZERO_TAIL.ensures ∙ g.met.S.Scheme.zero_tail_is) c.in-Some.ensures.below
    c.in-Some.ensures.text
    (ap (λ (i : ℕ). drop i c.args.text.now) (sym first) ∙ c.in-Some-digits_before.ensures.digits)
    c.in-Some-company_digits.ensures.dot
    (ap (λ (i : ℕ). drop i c.args.text.now) (sym second) ∙ c.in-Some-digits_before-2.ensures.digits)
    c.in-Some-last_from.ensures.text
