use Rattle.std.proofs.Common.{sym, ◌∙◌}
use Rattle.llrp_explain.proofs.PrinterLemmas.{refusal, if_kept, none_is}
use Rattle.llrp_explain.proofs.printer.FramePrinterListener.fault.Goals as goal

pub returns-clause-faulty : goal.returns-clause-faulty
returns-clause-faulty c = λ was t told p limit front size ref is. refusal c.args.stopped t c.args.octets.now c.args.fault c.args.self.now (record c.keep-kept.new.self { failed = c.is_err-self.result }) told is (c.keep-kept.ensures.of_header ∙ none_is c.args.stopped c.is_none-self.result c.is_none-self.ensures) c.keep-kept.ensures.lines
    (λ failed. if_kept c.keep-kept.result _ c.keep-kept.ensures.header (sym c.is_err-self.ensures.value ∙ failed))
    (λ failed. if_kept c.keep-kept.result _ c.keep-kept.ensures.part (sym c.is_err-self.ensures.value ∙ failed))
