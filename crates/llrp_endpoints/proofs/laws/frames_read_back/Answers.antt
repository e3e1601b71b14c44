use Rattle.llrp_endpoints.proofs.ReadBack.{frames_read_back}
use Rattle.llrp_endpoints.proofs.laws.frames_read_back.Goals as goal

pub returns : goal.returns
returns c = frames_read_back
