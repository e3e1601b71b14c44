use Rattle.llrp_explain.proofs.PrinterLemmas.{value_node}
use Rattle.llrp_explain.proofs.printer.push_value.Goals as goal

pub returns : goal.returns
returns c = value_node c.push_tail.result c.args.kind c.args.value c.args.level c.args.lines.now c.push_head.new.lines c.push_fields.new.lines c.push_tail.new.lines _ _ c.requires c.fields.ensures c.tail.ensures c.in_ok-push_head.ensures c.in_ok-push_fields.ensures c.push_tail.ensures
