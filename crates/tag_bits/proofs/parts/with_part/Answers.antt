use Rattle.std.proofs.Common.{◌-◌, arith}
use Rattle.tag_bits.proofs.WordLemmas.{with_part, with_part_fits, with_part_field}
use Rattle.tag_bits.proofs.parts.with_part.Goals as goal

pub returns-clause-digits : goal.returns-clause-digits
unfolding with_part
returns-clause-digits c = with_part_field 128 c.args.total c.args.number c.args.place c.args.width (c.args.total - c.args.place - c.args.width) c.args.value (omega arith) (omega arith) c.requires.whole c.requires.fits

pub returns-clause-below : goal.returns-clause-below
unfolding with_part
returns-clause-below c = with_part_fits 128 c.args.total c.args.number c.args.place c.args.width (c.args.total - c.args.place - c.args.width) c.args.value (omega arith) (omega arith) c.requires.whole c.requires.fits
