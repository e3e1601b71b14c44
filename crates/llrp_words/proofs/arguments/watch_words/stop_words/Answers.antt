use Rattle.llrp_words.proofs.arguments.watch_words.stop_words.Goals as goal

pub returns : goal.returns
returns c = λ name. (c.watch_words.ensures.words name, c.optional_number.ensures name)
