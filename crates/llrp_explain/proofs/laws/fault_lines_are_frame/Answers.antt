use Rattle.llrp_explain.proofs.FaultDigits.{fault_begins}
use Rattle.llrp_explain.proofs.laws.fault_lines_are_frame.Goals as goal

pub returns : goal.returns
returns c = fault_begins
