use Rattle.std.proofs.Common.{arith}
use Rattle.tag_uri.proofs.WritingLemmas.{more_digits}
use Rattle.tag_uri.proofs.put_digits.count_of_many.Goals as goal

pub returns-then-number-lt100000000-clause-count : goal.returns-then-number-lt100000000-clause-count
returns-then-number-lt100000000-clause-count c = more_digits 7 c.args.number (omega arith) (omega arith) (omega arith) (omega arith)

pub returns-else-number-lt100000000-clause-count : goal.returns-else-number-lt100000000-clause-count
returns-else-number-lt100000000-clause-count c = more_digits 8 c.args.number (omega arith) (omega arith) (omega arith) (omega arith)

pub returns-then-number-lt10000000000-clause-count : goal.returns-then-number-lt10000000000-clause-count
returns-then-number-lt10000000000-clause-count c = more_digits 9 c.args.number (omega arith) (omega arith) (omega arith) (omega arith)

pub returns-else-number-lt10000000000-clause-count : goal.returns-else-number-lt10000000000-clause-count
returns-else-number-lt10000000000-clause-count c = more_digits 10 c.args.number (omega arith) (omega arith) (omega arith) (omega arith)

pub returns-else-number-lt100000000000-clause-count : goal.returns-else-number-lt100000000000-clause-count
returns-else-number-lt100000000000-clause-count c = more_digits 11 c.args.number (omega arith) (omega arith) (omega arith) (omega arith)
