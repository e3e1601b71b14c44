use Rattle.std.proofs.Common.{◌<◌, ◌^◌, ◌++◌, refl, rules, inr}
use Rattle.tag_uri.specs.TagText.{raw_start, raw_length}
use Rattle.tag_uri.proofs.TextLaws.{begins, right_digits}
use Rattle.tag_uri.proofs.word_text.raw_word.Goals as goal

pub returns-in-Ok-clause-err : goal.returns-in-Ok-clause-err
returns-in-Ok-clause-err c =
    let below : c.in-Some-word_of_hexadecimal.word < 2 ^ 96 = search rules in (
      c.in-Some-word_of_hexadecimal.word,
      below,
      right_digits (raw_start ++ c.args.rest.now) c.args.rest.now c.in-Some.digits.now c.in-Some-word_of_hexadecimal.word refl (begins raw_length c.args.rest.now c.in-Some.digits.now c.in-Some.ensures.cases) c.in-Some-word_of_hexadecimal.ensures.some,
      c.in-Ok.field-0,
      c.in-Ok.ensures.ok,
    )

pub returns-in-Err-clause-ok : goal.returns-in-Err-clause-ok
returns-in-Err-clause-ok c =
    inr (
      λ epc h. let no = c.in-Err.ensures.exactly.1 (epc, h) in cc,
      right_digits (raw_start ++ c.args.rest.now) c.args.rest.now c.in-Some.digits.now c.in-Some-word_of_hexadecimal.word refl (begins raw_length c.args.rest.now c.in-Some.digits.now c.in-Some.ensures.cases) c.in-Some-word_of_hexadecimal.ensures.some,
    )
