use Rattle.std.proofs.Common.{◌≡◌, ◌++◌, ◌%◌, length}
use Rattle.llrp_operations.specs.Calls.Operations.{words_octets}
use Rattle.llrp_operations.proofs.word.push_words.Given as goal

-- the words so far and the rest are those before and all octets; the rest is even if these are
abbrev pub invariant-loop-high : goal.invariant-loop-high
invariant-loop-high l =
    (words_octets l.words.items ++ l.rest ≡ words_octets l.fn.words.items ++ l.fn.octets) × (length l.rest % 2 ≡ length l.fn.octets % 2)

abbrev pub decreases-loop-high : goal.decreases-loop-high
decreases-loop-high l = length l.rest
