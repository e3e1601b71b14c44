-- No kind of child is in two groups of one parent.
use Rattle.llrp_schema.proofs.TableLaws.{groups_apart}
use Rattle.llrp_schema.proofs.laws.groups_are_sound.Goals as goal

pub returns-clause-apart : goal.returns-clause-apart
returns-clause-apart c = groups_apart
