use Rattle.std.proofs.Common.{◌∙◌}
use Rattle.std.proofs.lemmas.Result.{on_ok_weaker}
use Rattle.llrp_listing.proofs.OpenListingLemmas.{grown_drop, grown_take, grown_long, value_opened}
use Rattle.llrp_listing.proofs.printing.printer.PrinterListener.value.Goals as goal

pub returns : goal.returns
returns c = on_ok_weaker c.push_value_line.result
    (λ e was t o l nx. (grown_long c.args.self.now.mark _ _ _ o.0 e.2, grown_take c.args.self.now.mark _ _ _ o.0 e.2 ∙ o.1, value_opened t c.args.level c.args.kind c.args.value e.0 _ _ o.2 l nx e.1 (grown_drop c.args.self.now.mark _ _ _ o.0 e.2)))
    c.push_value_line.ensures
