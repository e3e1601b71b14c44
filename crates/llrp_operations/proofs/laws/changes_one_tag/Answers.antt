use Rattle.llrp_operations.proofs.CourseLawLemmas.{changes_one}
use Rattle.llrp_operations.proofs.laws.changes_one_tag.Goals as goal

pub returns : goal.returns
returns c = changes_one
