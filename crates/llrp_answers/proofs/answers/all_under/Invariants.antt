use Rattle.std.proofs.Common.{◌≡◌, map, take}
use Rattle.llrp_answers.specs.Calls.Answers.{under}
use Rattle.llrp_answers.proofs.answers.all_under.Given as goal

abbrev pub invariant-loop-message : goal.invariant-loop-message
invariant-loop-message l = l.copies.items ≡ map (under l.id) (take l.message-index l.messages)
