use Rattle.std.proofs.Common.{arith}
use Rattle.tag_uri.proofs.WritingLemmas.{one_digit, more_digits}
use Rattle.tag_uri.proofs.put_digits.count_of_few.Goals as goal

pub returns-then-number-lt10-clause-count : goal.returns-then-number-lt10-clause-count
returns-then-number-lt10-clause-count c = one_digit c.args.number (omega arith)

pub returns-then-number-lt100-clause-count : goal.returns-then-number-lt100-clause-count
returns-then-number-lt100-clause-count c = more_digits 1 c.args.number (omega arith) (omega arith) (omega arith) (omega arith)

pub returns-else-number-lt100-clause-count : goal.returns-else-number-lt100-clause-count
returns-else-number-lt100-clause-count c = more_digits 2 c.args.number (omega arith) (omega arith) (omega arith) (omega arith)

pub returns-then-number-lt10000-clause-count : goal.returns-then-number-lt10000-clause-count
returns-then-number-lt10000-clause-count c = more_digits 3 c.args.number (omega arith) (omega arith) (omega arith) (omega arith)

pub returns-else-number-lt10000-clause-count : goal.returns-else-number-lt10000-clause-count
returns-else-number-lt10000-clause-count c = more_digits 4 c.args.number (omega arith) (omega arith) (omega arith) (omega arith)

pub returns-then-number-lt1000000-clause-count : goal.returns-then-number-lt1000000-clause-count
returns-then-number-lt1000000-clause-count c = more_digits 5 c.args.number (omega arith) (omega arith) (omega arith) (omega arith)

pub returns-else-number-lt1000000-clause-count : goal.returns-else-number-lt1000000-clause-count
returns-else-number-lt1000000-clause-count c = more_digits 6 c.args.number (omega arith) (omega arith) (omega arith) (omega arith)
