use Rattle.llrp_json.proofs.ValueLemmas.{inside_none, inside_more}
use Rattle.llrp_json.proofs.values.push_each.Goals as goal

pub loop-octet-init : goal.loop-octet-init
loop-octet-init c = inside_none c.args.text.now

pub loop-octet-preserved : goal.loop-octet-preserved
loop-octet-preserved c = inside_more _ _ _ c.args.octets.now _ c.loop-octet-test.true c.loop-octet.invariant c.in_ok-push_escaped.ensures
