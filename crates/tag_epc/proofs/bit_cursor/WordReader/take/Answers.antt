use Rattle.std.proofs.Common.{◌-◌, ◌*◌, ◌/◌, ◌%◌, ◌^◌, ◌≤◌, arith, sym, ◌∙◌, rules}
use Rattle.tag_bits.proofs.DigitLemmas.{length-digits}
use Rattle.tag_epc.proofs.DigitMoves.{counted, front_taken, front_below}
use Rattle.tag_epc.proofs.bit_cursor.WordReader.take.Goals as goal

pub overflow_sub-self : goal.overflow_sub-self
overflow_sub-self c = omega (arith, counted c.self.inside.count _ c.args.self.now c.self.view_is)

pub returns-clause-read : goal.returns-clause-read
returns-clause-read c =
    let le : c.args.width ≤ c.self.inside.count = omega (arith, counted c.self.inside.count _ c.args.self.now c.self.view_is) in
    sym c.self.view_is ∙ front_taken c.self.inside.count c.args.width c.self.inside.rest le c.self.invariant c.requires.narrow (search rules)

pub returns-clause-below : goal.returns-clause-below
returns-clause-below c = front_below c.self.inside.rest c.args.width c.requires.narrow (search rules)

pub returns-clause-length : goal.returns-clause-length
returns-clause-length c =
    let l = counted c.self.inside.count _ c.args.self.now c.self.view_is in
    omega (arith, l, length-digits (c.self.inside.count - c.args.width) (c.self.inside.rest * 2 ^ (c.args.width % 64) % 2 ^ 128 / 2 ^ (128 - (c.self.inside.count - c.args.width))))
