use Rattle.std.proofs.Common.{refl}
use Rattle.llrp_explain.proofs.PrintedLemmas.{on_written}
use Rattle.llrp_explain.proofs.PrinterLemmas.{octets_in}
use Rattle.llrp_explain.proofs.printer.FramePrinterListener.octets.Goals as goal

pub returns : goal.returns
returns c = on_written c.extend_from_slice.result _ _ _ _ c.extend_from_slice.ensures.items (λ e was t o nx. octets_in c.args._form c.args.octets.now t c.args.self.now (record c.args.self.now { tail = c.extend_from_slice.new.self }) o nx refl refl refl e)
