use Rattle.llrp_explain.proofs.WalkLemmas.{message_added}
use Rattle.llrp_explain.proofs.walk.push_header.Goals as goal

pub returns : goal.returns
returns c =
    message_added c.number-4.result c.args.version c.args.octets c.args.id c.args.kind c.args.lines.now c.number.new.self c.number-2.new.self c.kind_number.new.self c.number-3.new.self c.number-4.new.self
    c.in_ok-number.ensures c.in_ok-number-2.ensures c.in_ok-kind_number.ensures c.in_ok-number-3.ensures c.number-4.ensures
