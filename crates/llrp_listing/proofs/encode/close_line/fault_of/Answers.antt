use Rattle.std.proofs.Common.{sym, ◌∙◌}
use Rattle.llrp_listing.proofs.NodeFaults.{fault_told}
use Rattle.llrp_listing.proofs.encode.close_line.fault_of.Goals as goal

pub returns-in-Some : goal.returns-in-Some
returns-in-Some c = λ n h. sym (fault_told n.line n.children c.in-Some.fault (sym h.fault ∙ c.in-Some.is))

pub returns-in-None : goal.returns-in-None
returns-in-None c = λ n h. c.late_fault.ensures n h c.in-None.is
