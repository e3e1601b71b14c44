use Rattle.std.proofs.lemmas.Result.{on_ok_weaker}
use Rattle.llrp_json.proofs.NodeObjects.{tail_added}
use Rattle.llrp_json.proofs.nodes.push_whole_tail.Goals as goal

pub returns : goal.returns
returns c = on_ok_weaker c.push_tail_end.result (λ e. tail_added c.args.form c.args.octets.now c.args.text.now _ _ _ c.in_ok-push_tail.ensures c.in_ok-push_octets.ensures e) c.push_tail_end.ensures
