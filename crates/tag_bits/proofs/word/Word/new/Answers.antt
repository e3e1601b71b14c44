use Rattle.std.proofs.Common.{rules}
use Rattle.tag_bits.proofs.word.Word.new.Goals as goal

pub invariant_of-result : goal.invariant_of-result
invariant_of-result c = search rules

pub returns-then-number-eq0-clause-some : goal.returns-then-number-eq0-clause-some
returns-then-number-eq0-clause-some c = search rules
