use Rattle.std.proofs.Common.{refl, Some}
use Rattle.llrp_explain.proofs.PrinterLemmas.{tail_in}
use Rattle.llrp_explain.proofs.printer.FramePrinterListener.tail.Goals as goal

pub returns : goal.returns
returns c = λ was t o nx. tail_in c.args.form t c.args.self.now (record c.args.self.now { tail = c.clear.new.self; form = Some c.args.form }) o nx refl refl refl c.clear.ensures.items
