use Rattle.std.proofs.Common.{◌≡◌, ◌++◌}
use Rattle.llrp_explain.specs.Calls.KindTexts.{by_number, parameters_at}
use Rattle.llrp_explain.proofs.rows.push_parameters.Given as goal

abbrev pub invariant-loop-number : goal.invariant-loop-number
invariant-loop-number l = l.kinds.items ≡ l.fn.kinds.items ++ by_number (parameters_at l.set) l.number
