use Rattle.llrp_answers.proofs.FormLemmas.{alone, before_space}
use Rattle.llrp_answers.proofs.form.first_word.Goals as goal

pub returns-in-Some : goal.returns-in-Some
returns-in-Some c = before_space c.args.line.now c.in-Some.word.now c.in-Some.rest.now c.in-Some.ensures

pub returns-in-None : goal.returns-in-None
returns-in-None c = alone c.args.line.now c.in-None.ensures
