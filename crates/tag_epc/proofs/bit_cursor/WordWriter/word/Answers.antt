use Rattle.std.proofs.Common.{◌≡◌, arith}
use Rattle.tag_epc.proofs.DigitMoves.{counted, below_whole, word_whole}
use Rattle.tag_epc.proofs.bit_cursor.WordWriter.word.Goals as goal

pub unreachable-requires : goal.unreachable-requires
unreachable-requires c =
    let all : c.self.inside.count ≡ 96 = omega (arith, counted c.self.inside.count c.self.inside.number c.args.self c.self.view_is) in
    let no = c.in-None.ensures.some.1 (below_whole c.self.inside.count c.self.inside.number all c.self.invariant.1) in
    cc

pub returns : goal.returns
returns c =
    let all : c.self.inside.count ≡ 96 = omega (arith, counted c.self.inside.count c.self.inside.number c.args.self c.self.view_is) in
    word_whole c.self.inside.count c.self.inside.number c.in-Some.word c.args.self all c.self.view_is c.in-Some.ensures.number
