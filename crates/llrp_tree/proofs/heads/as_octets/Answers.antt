use Rattle.llrp_tree.proofs.SpelledLemmas.{last_behind}
use Rattle.llrp_tree.proofs.heads.as_octets.Goals as goal

pub returns-clause-spelled : goal.returns-clause-spelled
returns-clause-spelled c = last_behind c.behind_eight.result c.to_be_bytes.result c.args.packed.bits c.args.packed.number c.requires.few c.requires.whole c.requires.below c.to_be_bytes.ensures c.behind_eight.ensures
