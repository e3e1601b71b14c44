use Rattle.std.proofs.Common.{◌-◌, arith}
use Rattle.tag_bits.proofs.WordLemmas.{part_of_all}
use Rattle.tag_bits.proofs.parts.part_of_eight.Goals as goal

pub returns : goal.returns
returns c = part_of_all c.args.number c.args.place c.args.width (64 - c.args.place - c.args.width) (omega arith) (omega arith)
