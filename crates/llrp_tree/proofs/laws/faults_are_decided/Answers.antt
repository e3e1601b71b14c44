use Rattle.llrp_tree.proofs.Deciding as ends
use Rattle.llrp_tree.proofs.Undecided.{undecided_until}
use Rattle.llrp_tree.proofs.laws.faults_are_decided.Goals as goal

pub returns-clause-at_end : goal.returns-clause-at_end
returns-clause-at_end c = ends.faults_are_decided

pub returns-clause-not_before : goal.returns-clause-not_before
returns-clause-not_before c = undecided_until
