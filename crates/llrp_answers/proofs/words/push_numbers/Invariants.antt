use Rattle.std.proofs.Common.{◌≡◌, ◌++◌, map, take}
use Rattle.std.specs.Prelude.{decimal}
use Rattle.llrp_answers.proofs.words.push_numbers.Given as goal

abbrev pub invariant-loop-number : goal.invariant-loop-number
invariant-loop-number l = l.words.items ≡ l.fn.words.items ++ map decimal (take l.number-index l.numbers)
