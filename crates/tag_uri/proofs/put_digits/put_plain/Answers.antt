use Rattle.std.proofs.Common.{ℕ, List, ◌++◌, ◌<◌, ◌^◌, drop, ap, sym, subst, ◌∙◌, arith}
use Rattle.tag_uri.specs.Decimal.{padded}
use Rattle.tag_uri.proofs.WritingLemmas.{plain_below, plain_few, padded_plain}
use Rattle.tag_uri.proofs.put_digits.put_plain.Goals as goal

pub put_padded-requires-clause-fits : goal.put_padded-requires-clause-fits
put_padded-requires-clause-fits c = subst (λ (k : ℕ). c.args.number < 10 ^ k) (sym c.requires.counted) (plain_below c.args.number (omega arith))

pub put_padded-requires-clause-few : goal.put_padded-requires-clause-few
put_padded-requires-clause-few c = omega (arith, c.requires.counted, plain_few c.args.number c.requires.fits)

pub returns-clause-written : goal.returns-clause-written
returns-clause-written c = c.put_padded.ensures.written ∙ ap (λ (x : List ℕ). x ++ drop c.args.end c.args.room.now) (ap (λ (k : ℕ). padded k c.args.number) c.requires.counted ∙ padded_plain c.args.number (omega arith))
