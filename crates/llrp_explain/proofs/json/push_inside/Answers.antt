use Rattle.llrp_explain.proofs.JsonLemmas.{inside_none, inside_more}
use Rattle.llrp_explain.proofs.json.push_inside.Goals as goal

pub loop-octet-init : goal.loop-octet-init
loop-octet-init c = inside_none c.args.json.now.items

pub loop-octet-preserved : goal.loop-octet-preserved
loop-octet-preserved c = inside_more _ _ _ c.args.text.now _ c.loop-octet-test.true c.loop-octet.invariant c.in_ok-push_octet.ensures
