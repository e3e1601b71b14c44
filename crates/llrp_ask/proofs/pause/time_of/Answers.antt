use Rattle.llrp_ask.proofs.PauseLemmas.{split_time_is, whole_time_is}
use Rattle.llrp_ask.proofs.pause.time_of.Goals as goal

pub returns-in-Some : goal.returns-in-Some
returns-in-Some c = split_time_is c.args.word.now c.in-Some.whole.now c.in-Some.tenth.now c.split_time.result c.in-Some.ensures c.split_time.ensures

pub returns-in-None : goal.returns-in-None
returns-in-None c = whole_time_is c.args.word.now c.whole_time.result c.in-None.ensures c.whole_time.ensures
