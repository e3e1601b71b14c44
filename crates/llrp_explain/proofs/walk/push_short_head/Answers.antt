use Rattle.llrp_explain.proofs.WalkLemmas.{short_added}
use Rattle.llrp_explain.proofs.walk.push_short_head.Goals as goal

pub returns : goal.returns
returns c = short_added c.kind_number.result c.args.level c.args.kind c.args.lines.now c.number.new.self c.kind_number.new.self c.in_ok-number.ensures c.kind_number.ensures
