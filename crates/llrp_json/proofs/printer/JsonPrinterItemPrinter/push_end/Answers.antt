use Rattle.llrp_json.specs.JsonLines.{end_json}
use Rattle.llrp_json.proofs.HeldItems.{more_held}
use Rattle.llrp_json.proofs.printer.JsonPrinterItemPrinter.push_end.Goals as goal

pub returns : goal.returns
returns c = λ was h. more_held c.args.self.now.mark _ c.args.self.now.depth c.args.self.now.is_parent c.args.self.now.text _ was (end_json c.args.end) h c.in_ok-push_end.ensures c.len-self.ensures
