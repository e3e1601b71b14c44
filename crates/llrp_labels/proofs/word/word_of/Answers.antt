use Rattle.llrp_labels.proofs.VisibleTexts.{among_utf8}
use Rattle.llrp_labels.proofs.word.word_of.Goals as goal

pub returns-in-Err : goal.returns-in-Err
returns-in-Err c = λ word below is. c.in-Err.ensures.cases.0 (among_utf8 c.args.schemes word c.args.octets.now is)
