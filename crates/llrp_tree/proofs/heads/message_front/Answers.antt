use Rattle.llrp_tree.proofs.SpellingLemmas.{appends_same}
use Rattle.llrp_tree.proofs.heads.message_front.Goals as goal

pub returns-clause-spelled : goal.returns-clause-spelled
returns-clause-spelled c = appends_same _ _ _ _ c.in_front.ensures.spelled c.message_bits.ensures.spelled
