use Rattle.std.proofs.Common.{◌≡◌, drop, filter}
use Rattle.llrp_operations.specs.Calls.Results.{is_result}
use Rattle.llrp_operations.proofs.verified.result_at.Given as goal

-- what is looked for among all results is found among those that are left too
abbrev pub invariant-loop-node : goal.invariant-loop-node
invariant-loop-node l = (drop l.place (filter is_result l.fn.nodes) ≡ drop l.left (filter is_result (drop l.node-index l.fn.nodes)))
