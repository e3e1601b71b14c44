use Rattle.llrp_labels.proofs.LineLemmas.{found_last}
use Rattle.llrp_labels.proofs.last_word.last_word.Goals as goal

pub returns : goal.returns
returns c = found_last c.args.line.now c.split_at.result.0.now c.split_at.result.1.now c.split_at-2.result.1.now c.in-Some.place c.in-Some.ensures.0 c.in-Some.ensures.1 c.split_at.ensures.front c.split_at.ensures.back c.split_at-2.ensures.back
