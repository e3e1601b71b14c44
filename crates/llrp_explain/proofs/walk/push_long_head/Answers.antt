use Rattle.llrp_explain.proofs.WalkLemmas.{long_added}
use Rattle.llrp_explain.proofs.walk.push_long_head.Goals as goal

pub returns : goal.returns
returns c =
    long_added c.number-2.result c.args.level c.args.octets c.args.kind c.args.lines.now c.number.new.self c.kind_number.new.self c.number-2.new.self c.in_ok-number.ensures c.in_ok-kind_number.ensures c.number-2.ensures
