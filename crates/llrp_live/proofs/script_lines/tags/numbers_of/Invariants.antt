use Rattle.std.proofs.Common.{◌≡◌, ◌<◌, ◌++◌, length, take}
use Rattle.llrp_live.proofs.NumberLists.{before_commas}
use Rattle.llrp_live.proofs.script_lines.tags.numbers_of.Given as goal

abbrev pub invariant-numbers : goal.invariant-numbers
invariant-numbers l = (l.count < 16) × (length l.numbers ≡ 16) × (l.text ≡ before_commas (take l.count l.numbers) ++ l.rest)

abbrev pub decreases-numbers : goal.decreases-numbers
decreases-numbers l = length l.rest
