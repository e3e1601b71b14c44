use Rattle.std.proofs.Common.{◌≡◌, drop}
use Rattle.std.specs.Prelude.{find as find_first}
use Rattle.llrp_session.specs.RoSpec.{is_kind}
use Rattle.llrp_session.proofs.parse.find.first.Given as goal

abbrev pub invariant-loop-node : goal.invariant-loop-node
invariant-loop-node l = find_first (is_kind l.kind) l.fn.nodes ≡ find_first (is_kind l.kind) (drop l.node-index l.fn.nodes)
