use Rattle.llrp_labels.proofs.LineLemmas.{key_added}
use Rattle.llrp_labels.proofs.laws.keys_follow_lines.Goals as goal

pub returns : goal.returns
returns c = key_added
