use Rattle.std.proofs.Common.{lit<}
use Rattle.llrp_listing.proofs.WordLemmas.{one_word, first_word}
use Rattle.llrp_listing.proofs.split.first_word.Goals as goal

pub returns-in-Some : goal.returns-in-Some
returns-in-Some c = first_word c.args.line.now c.in-Some.word.now c.in-Some.rest.now (c.in-Some.ensures.byte (lit< tt) (λ w o h. h))

pub returns-in-None : goal.returns-in-None
returns-in-None c = one_word c.args.line.now (c.in-None.ensures.byte (lit< tt) (λ w o h. h))
