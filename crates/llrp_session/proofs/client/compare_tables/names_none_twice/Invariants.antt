use Rattle.std.proofs.Common.{◌≡◌, length}
use Rattle.llrp_session.specs.ClientMachine.{names_none_twice}
use Rattle.llrp_session.proofs.client.compare_tables.names_none_twice.Given as goal

abbrev pub invariant-loop-rest : goal.invariant-loop-rest
invariant-loop-rest l = names_none_twice l.fn.rospecs ≡ names_none_twice l.rest

abbrev pub decreases-loop-rest : goal.decreases-loop-rest
decreases-loop-rest l = length l.rest
