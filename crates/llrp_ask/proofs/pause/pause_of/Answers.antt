use Rattle.llrp_ask.proofs.PauseLemmas.{pause_is}
use Rattle.llrp_ask.proofs.pause.pause_of.Goals as goal

pub returns : goal.returns
returns c = pause_is c.args.line.now c.in_ok-after.after.now c.in_ok-word.word.now c.time_of.result c.in_ok-after.ensures c.in_ok-word.ensures c.time_of.ensures
