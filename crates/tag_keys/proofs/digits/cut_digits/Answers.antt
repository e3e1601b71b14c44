use Rattle.std.proofs.Common.{sym, subst}
use Rattle.std.proofs.lemmas.Str.{IsCharBoundary-from_ascii}
use Rattle.tag_uri.specs.Calls.Decimal.{AreDigits}
use Rattle.tag_keys.proofs.PieceLemmas.{digits_ascii, digits_taken, digits_dropped}
use Rattle.tag_keys.proofs.digits.cut_digits.Goals as goal

pub split_at-requires : goal.split_at-requires
split_at-requires c = IsCharBoundary-from_ascii c.args.text.now c.args.at (digits_ascii c.args.text.now c.requires.digits) c.requires.within

pub returns-clause-front_digits : goal.returns-clause-front_digits
returns-clause-front_digits c = subst AreDigits (sym c.split_at.ensures.front) (digits_taken c.args.at c.args.text.now c.requires.digits)

pub returns-clause-back_digits : goal.returns-clause-back_digits
returns-clause-back_digits c = subst AreDigits (sym c.split_at.ensures.back) (digits_dropped c.args.at c.args.text.now c.requires.digits)
