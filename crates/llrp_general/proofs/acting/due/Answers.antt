use Rattle.llrp_general.proofs.ActingLemmas.{due_at}
use Rattle.llrp_general.proofs.acting.due.Goals as goal

pub returns-then-entry-taken : goal.returns-then-entry-taken
returns-then-entry-taken c = due_at c.args.entries.now c.args.taken c.loop-i.i c.index-entries-i.result c.loop-i-test.true c.index-entries-i.is c.if-entry-taken.true c.loop-i.invariant
