use Rattle.std.proofs.Common.{◌<◌, ◌^◌, Ok, ap, rules}
use Rattle.tag_uri.proofs.TextLaws.{words_apart, text_or_fault}
use Rattle.tag_uri.proofs.word_text.word_of_text.Goals as goal

pub returns-in-Ok-clause-accepts : goal.returns-in-Ok-clause-accepts
returns-in-Ok-clause-accepts c = λ w below e. let here : c.in-Ok.word < 2 ^ 96 = search rules in ap Ok (words_apart c.in-Ok.word w c.args.text.now here below c.in-Ok.ensures.ok e)

pub returns-in-Err-clause-accepts : goal.returns-in-Err-clause-accepts
returns-in-Err-clause-accepts c = λ w below e. absurd (text_or_fault w c.args.text.now c.in-Err.fault below e c.in-Err.ensures.err)
