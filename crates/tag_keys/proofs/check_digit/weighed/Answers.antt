use Rattle.tag_keys.proofs.CheckLemmas.{weighed_all, digit_at, few_more, sum_more}
use Rattle.tag_keys.proofs.check_digit.weighed.Goals as goal

pub overflow_sub-sum : goal.overflow_sub-sum
overflow_sub-sum c = (digit_at c.args.digits.now c.loop-at.at c.requires.digits c.loop-at-test.true).0

pub loop-at-preserved : goal.loop-at-preserved
loop-at-preserved c = record {
  sum_is = sum_more c.args.digits.now c.loop-at.at c.loop-at.sum c.weight.result c.loop-at-test.true c.weight.ensures c.loop-at.invariant.sum_is;
  few = few_more c.args.digits.now c.loop-at.at c.loop-at.sum c.weight.result c.requires.digits c.loop-at-test.true c.weight.ensures c.loop-at.invariant.few;
}

pub returns : goal.returns
returns c = record { sum = weighed_all c.args.digits.now c.loop-at.at c.loop-at.sum c.loop-at-test.false c.loop-at.invariant.sum_is }
