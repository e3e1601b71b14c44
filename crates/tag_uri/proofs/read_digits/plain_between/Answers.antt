use Rattle.std.proofs.Common.{◌∙◌, sym, arith}
use Rattle.tag_uri.proofs.LastDigits.{plain_at}
use Rattle.tag_uri.proofs.read_digits.plain_between.Goals as goal

pub returns : goal.returns
returns c =
    plain_at c.args.from c.args.end c.in-Some.number c.args.text.now c.requires.order c.requires.within c.if-count-eq0.false (omega (arith, c.if-count-gt16.false)) c.in-Some.ensures.below (sym c.if-is_zero_led.false ∙ c.is_zero_led.ensures) c.in-Some.ensures.digits
