use Rattle.llrp_labels.proofs.LineLemmas.{come_off}
use Rattle.llrp_labels.proofs.laws.labels_come_off.Goals as goal

pub returns : goal.returns
returns c = come_off
