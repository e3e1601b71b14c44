use Rattle.std.proofs.Common.{sym, ap, ◌∙◌, arith}
use Rattle.llrp_listing.specs.Private.Numeral.{numeral}
use Rattle.llrp_listing.proofs.LineWords.{no_level, other_level, level_is}
use Rattle.llrp_listing.proofs.parse_line.read_level.Goals as goal

pub returns-in_default : goal.returns-in_default
returns-in_default c = no_level c.args.depth c.args.word.now (ap numeral (sym c.as_bytes.ensures.value) ∙ sym c.in_default.ensures)

pub returns-then-level-most : goal.returns-then-level-most
returns-then-level-most c = other_level c.args.depth c.args.word.now c.in-Some.level (ap numeral (sym c.as_bytes.ensures.value) ∙ sym c.in-Some.ensures) (omega (arith, c.min-most.ensures))

pub returns : goal.returns
returns c = level_is c.args.depth c.args.word.now c.in-Some.level (ap numeral (sym c.as_bytes.ensures.value) ∙ sym c.in-Some.ensures) (omega (arith, c.min-most.ensures))
