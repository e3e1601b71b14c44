use Rattle.std.proofs.Common.{refl, arith}
use Rattle.llrp_explain.proofs.PrinterLemmas.{closed_holds}
use Rattle.llrp_explain.proofs.printer.FramePrinterListener.close.Goals as goal

pub returns : goal.returns
returns c = λ was t st r. closed_holds c.args.self.now.depth _ t c.args.self.now st refl (let d = c.requires.1.told.1 in omega (arith, d)) c.saturating_sub-self.ensures r
