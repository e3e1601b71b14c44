use Rattle.llrp_answers.proofs.LineLemmas.{are_words}
use Rattle.llrp_answers.proofs.laws.words_are_of_the_line.Goals as goal

pub returns : goal.returns
returns c = are_words
