use Rattle.std.proofs.Common.{Bool, subst}
use Rattle.llrp_labels.specs.LabelledLines.{IsTextAmong}
use Rattle.llrp_labels.proofs.word.word_among.Goals as goal

pub returns-in-Err : goal.returns-in-Err
returns-in-Err c = λ word below is. let same = c.word_in_all.ensures.accepts word below (subst (λ (b : Bool). IsTextAmong b word c.args.text.now) c.if-schemes.true is) in cc

pub returns-in-Err-word_of_text : goal.returns-in-Err-word_of_text
returns-in-Err-word_of_text c = λ word below is. let same = c.word_of_text.ensures.accepts word below (subst (λ (b : Bool). IsTextAmong b word c.args.text.now) c.if-schemes.false is) in cc
