use Rattle.std.proofs.Common.{arith}
use Rattle.tag_uri.proofs.WritingLemmas.{more_digits}
use Rattle.tag_uri.proofs.put_digits.count_of.Goals as goal

pub returns-else-number-lt1000000000000-clause-count : goal.returns-else-number-lt1000000000000-clause-count
returns-else-number-lt1000000000000-clause-count c = more_digits 12 c.args.number (omega arith) (omega arith) (omega arith) (omega arith)
