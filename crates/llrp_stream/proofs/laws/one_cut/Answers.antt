use Rattle.llrp_stream.proofs.Unique.{one_cut}
use Rattle.llrp_stream.proofs.laws.one_cut.Goals as goal

pub returns : goal.returns
returns c = one_cut
