use Rattle.std.proofs.Common.{◌∙◌}
use Rattle.std.proofs.lemmas.Result.{on_ok_weaker}
use Rattle.llrp_listing.proofs.OpenListingLemmas.{grown_drop, grown_take, grown_long, tail_begins}
use Rattle.llrp_listing.proofs.printing.printer.PrinterListener.tail.Goals as goal

pub returns : goal.returns
returns c = on_ok_weaker c.push_tail.result
    (λ e was t o nx. (grown_long c.args.self.now.mark _ _ _ o.0 e, grown_take c.args.self.now.mark _ _ _ o.0 e ∙ o.1, tail_begins t c.args.form _ _ o.2 nx (grown_drop c.args.self.now.mark _ _ _ o.0 e)))
    c.push_tail.ensures
