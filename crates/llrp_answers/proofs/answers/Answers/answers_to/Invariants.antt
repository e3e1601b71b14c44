use Rattle.std.proofs.Common.{◌≡◌, drop}
use Rattle.llrp_answers.specs.Calls.Answers.{answers_to}
use Rattle.llrp_answers.proofs.answers.Answers.answers_to.Given as goal

abbrev pub invariant-loop-pair : goal.invariant-loop-pair
invariant-loop-pair l = answers_to l.self.pairs.items l.request ≡ answers_to (drop l.pair-index l.self.pairs.items) l.request
