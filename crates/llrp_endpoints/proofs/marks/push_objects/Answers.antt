use Rattle.llrp_endpoints.proofs.MarkLemmas.{heads_step}
use Rattle.llrp_endpoints.proofs.marks.push_objects.Goals as goal

pub loop-octet-preserved : goal.loop-octet-preserved
loop-octet-preserved c = heads_step c.args.head.now c.args.lines.now c.loop-octet.text c.push_opened.new.text _ c.loop-octet.begins c.loop-octet.octet-index c.loop-octet-test.true c.loop-octet.invariant c.in_ok-push_opened.ensures
