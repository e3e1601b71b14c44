use Rattle.llrp_labels.proofs.LineLemmas.{one_labelled}
use Rattle.llrp_labels.proofs.laws.one_labelled_line.Goals as goal

pub returns : goal.returns
returns c = one_labelled
