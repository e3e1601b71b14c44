use Rattle.tag_epc.proofs.DigitMoves.{pushed_digits, pushed_below}
use Rattle.tag_schemes.proofs.write_word.pushed.Goals as goal

pub returns-clause-digits : goal.returns-clause-digits
returns-clause-digits c = pushed_digits c.args.count c.args.width c.args.number c.args.value c.requires.room c.requires.narrow c.requires.below c.requires.fits

pub returns-clause-below : goal.returns-clause-below
returns-clause-below c = pushed_below c.args.count c.args.width c.args.number c.args.value c.requires.room c.requires.narrow c.requires.below c.requires.fits
