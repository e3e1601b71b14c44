use Rattle.std.proofs.Common.{arith, rules}
use Rattle.tag_epc.proofs.Soundness.{sound}
use Rattle.tag_epc.proofs.UnfitLemmas.{company_unfit, reference_unfit, last_unfit, all_fit}
use Rattle.tag_epc.proofs.lawful_parts.first_unfit.Goals as goal

pub power-requires : goal.power-requires
power-requires g c = let s = (sound g.S.Scheme.layout g.met.S.Scheme.sound).rows c.requires.0 c.args.row c.requires.1 in omega (arith, s.digits)

pub power-requires-else-company-power : goal.power-requires-else-company-power
power-requires-else-company-power g c = let s = (sound g.S.Scheme.layout g.met.S.Scheme.sound).rows c.requires.0 c.args.row c.requires.1 in s.short

pub returns-then-company-power : goal.returns-then-company-power
returns-then-company-power g c = company_unfit g.S.Scheme.layout c.args.row c.args.company c.args.reference c.args.last (omega (arith, c.power.ensures))

pub returns-then-reference-power : goal.returns-then-reference-power
returns-then-reference-power g c =
    let s = (sound g.S.Scheme.layout g.met.S.Scheme.sound).rows c.requires.0 c.args.row c.requires.1 in
    reference_unfit g.S.Scheme.layout c.args.row c.requires.0 c.args.company c.args.reference c.args.last s (omega (arith, c.power.ensures)) (omega (arith, c.power-else-company-power.ensures))

pub returns-then-not-last_fits : goal.returns-then-not-last_fits
returns-then-not-last_fits g c =
    let s = (sound g.S.Scheme.layout g.met.S.Scheme.sound).rows c.requires.0 c.args.row c.requires.1 in
    last_unfit g.S.Scheme.layout c.args.row c.requires.0 c.args.company c.args.reference c.args.last s (omega (arith, c.power.ensures)) (omega (arith, c.power-else-company-power.ensures))
    (λ f. let yes = c.last_fits.ensures.1 f in cc)

pub returns-else-not-last_fits : goal.returns-else-not-last_fits
returns-else-not-last_fits g c =
    let s = (sound g.S.Scheme.layout g.met.S.Scheme.sound).rows c.requires.0 c.args.row c.requires.1 in
    all_fit g.S.Scheme.layout c.args.row c.requires.0 c.args.company c.args.reference c.args.last s (omega (arith, c.power.ensures)) (omega (arith, c.power-else-company-power.ensures))
    (c.last_fits.ensures.0 (search rules))
