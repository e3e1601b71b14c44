use Rattle.tag_bits.proofs.DigitLemmas.{length-digits}
use Rattle.std.proofs.Common.{ℕ, ap, sym, ◌∙◌, ◌+◌, ◌≤◌, arith}
use Rattle.tag_epc.proofs.DigitMoves.{pushed_below, pushed_digits, counted}
use Rattle.tag_epc.proofs.bit_cursor.WordWriter.push.Goals as goal

pub invariant_of-self : goal.invariant_of-self
invariant_of-self c =
    let room : c.self.inside.count + c.args.width ≤ 96 = omega (arith, counted c.self.inside.count c.self.inside.number c.args.self.now c.self.view_is) in
    (room, pushed_below c.self.inside.count c.args.width c.self.inside.number c.args.number room c.requires.narrow c.self.invariant.1 c.requires.fits)

pub returns-clause-pushed : goal.returns-clause-pushed
returns-clause-pushed c =
    let room : c.self.inside.count + c.args.width ≤ 96 = omega (arith, counted c.self.inside.count c.self.inside.number c.args.self.now c.self.view_is) in
    rw (← c.self.view_is) (pushed_digits c.self.inside.count c.args.width c.self.inside.number c.args.number room c.requires.narrow c.self.invariant.1 c.requires.fits)

pub returns-clause-length : goal.returns-clause-length
returns-clause-length c = length-digits (c.self.inside.count + c.args.width) _ ∙ ap (λ (k : ℕ). k + c.args.width) (sym (counted c.self.inside.count c.self.inside.number c.args.self.now c.self.view_is))
