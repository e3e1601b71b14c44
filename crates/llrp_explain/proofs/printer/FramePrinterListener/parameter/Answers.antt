use Rattle.std.proofs.Common.{◌*◌, ◌∙◌, sym, refl}
use Rattle.std.proofs.lemmas.Result.{on_ok_weaker}
use Rattle.llrp_explain.proofs.PrinterLemmas.{short_in, long_in}
use Rattle.llrp_explain.proofs.printer.FramePrinterListener.parameter.Goals as goal

pub returns-then-is_tv : goal.returns-then-is_tv
returns-then-is_tv c = on_ok_weaker c.push_short_head.result (λ a was t h st deep kind is. short_in h c.args.kind (8 * c.args.stop) c.args.level _ t c.args.self.now c.push_short_head.new.lines c.args.self.now.tail.items st deep kind is (sym c.is_tv.ensures ∙ c.if-is_tv.true) refl a) c.push_short_head.ensures

pub returns : goal.returns
returns c = on_ok_weaker c.push_long_head.result (λ a was t h st deep kind is. long_in h c.args.kind c.args.stop c.args.level _ _ t c.args.self.now c.push_long_head.new.lines c.args.self.now.tail.items st deep kind is (sym c.is_tv.ensures ∙ c.if-is_tv.false) refl c.saturating_sub-octets.ensures a) c.push_long_head.ensures
