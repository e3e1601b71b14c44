use Rattle.llrp_endpoints.proofs.SendingLemmas.{one_text_of_frames}
use Rattle.llrp_endpoints.proofs.laws.one_text_of_frames.Goals as goal

pub returns : goal.returns
returns c = one_text_of_frames
