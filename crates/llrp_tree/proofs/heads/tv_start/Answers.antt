use Rattle.llrp_tree.proofs.SpellingLemmas.{appends_same}
use Rattle.llrp_tree.proofs.heads.tv_start.Goals as goal

pub returns-clause-spelled : goal.returns-clause-spelled
returns-clause-spelled c = appends_same _ _ _ _ c.as_octets.ensures.spelled c.tv_bits.ensures.spelled
