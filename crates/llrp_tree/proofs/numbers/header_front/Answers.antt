use Rattle.std.proofs.Common.{◌++◌, arith}
use Rattle.tag_bits.specs.Digits.{digits_of_bytes}
use Rattle.llrp_tree.proofs.NumberLemmas.{in_three, room}
use Rattle.llrp_tree.proofs.numbers.header_front.Goals as goal

pub returns-clause-first : goal.returns-clause-first
returns-clause-first c = λ later.
    let r = room c.args.octets.now later in
    (in_three (digits_of_bytes c.args.octets.now ++ later) c.word-front.result (omega (arith, r, c.requires)) (c.word-front.ensures later)).0

pub returns-clause-second : goal.returns-clause-second
returns-clause-second c = λ later.
    let r = room c.args.octets.now later in
    (in_three (digits_of_bytes c.args.octets.now ++ later) c.word-front.result (omega (arith, r, c.requires)) (c.word-front.ensures later)).1

pub returns-clause-third : goal.returns-clause-third
returns-clause-third c = λ later.
    let r = room c.args.octets.now later in
    (in_three (digits_of_bytes c.args.octets.now ++ later) c.word-front.result (omega (arith, r, c.requires)) (c.word-front.ensures later)).2
