use Rattle.std.proofs.Common.{◌≡◌, ◌++◌}
use Rattle.llrp_explain.specs.Calls.KindTexts.{by_number, messages_at}
use Rattle.llrp_explain.proofs.rows.push_messages.Given as goal

abbrev pub invariant-loop-number : goal.invariant-loop-number
invariant-loop-number l = l.kinds.items ≡ l.fn.kinds.items ++ by_number (messages_at l.set) l.number
