use Rattle.std.proofs.Common.{◌<◌, ◌^◌, Ok, ap, rules}
use Rattle.tag_schemes.proofs.TextLaws.{words_apart_in, no_fault_in_all}
use Rattle.tag_schemes.proofs.all_texts.word_in_all.Goals as goal

pub returns-in-Ok-clause-accepts : goal.returns-in-Ok-clause-accepts
returns-in-Ok-clause-accepts c = λ word below is. let here : c.in-Ok.word < 2 ^ 96 = search rules in ap Ok (words_apart_in c.in-Ok.word word c.args.text.now here below c.in-Ok.ensures.ok is)

pub returns-in-Err-clause-accepts : goal.returns-in-Err-clause-accepts
returns-in-Err-clause-accepts c = λ word below is. absurd (no_fault_in_all word c.args.text.now c.in-Err.fault below is c.in-Err.ensures.err)
