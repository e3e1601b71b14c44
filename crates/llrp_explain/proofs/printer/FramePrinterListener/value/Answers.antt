use Rattle.std.proofs.lemmas.Result.{on_ok_weaker}
use Rattle.llrp_explain.proofs.PrinterLemmas.{value_in}
use Rattle.llrp_explain.proofs.printer.FramePrinterListener.value.Goals as goal

pub returns : goal.returns
returns c = on_ok_weaker c.push_value.result (λ a was t st deep nx. value_in c.args.kind c.args.value c.args.level t c.args.self.now c.push_value.new.lines st deep a) c.push_value.ensures
