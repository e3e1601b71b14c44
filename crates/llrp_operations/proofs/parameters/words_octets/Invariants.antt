use Rattle.std.proofs.Common.{◌≡◌, ◌++◌, drop}
use Rattle.llrp_operations.specs.Calls.Operations.{words_octets}
use Rattle.llrp_operations.proofs.parameters.words_octets.Given as goal

abbrev pub invariant-loop-word : goal.invariant-loop-word
invariant-loop-word l = words_octets l.fn.words ≡ l.octets.items ++ words_octets (drop l.word-index l.fn.words)
