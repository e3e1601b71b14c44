use Rattle.std.proofs.Common.{◌-◌, arith}
use Rattle.tag_bits.proofs.WordLemmas.{part_digits, part_value}
use Rattle.tag_bits.proofs.parts.part_of.Goals as goal

pub returns-clause-digits : goal.returns-clause-digits
returns-clause-digits c = part_digits 128 c.args.total c.args.number c.args.place c.args.width (c.args.total - c.args.place - c.args.width) (omega arith) (omega arith) c.requires.whole

pub returns-clause-value : goal.returns-clause-value
returns-clause-value c = part_value 128 c.args.total c.args.number c.args.place c.args.width (c.args.total - c.args.place - c.args.width) (omega arith) (omega arith) c.requires.whole
