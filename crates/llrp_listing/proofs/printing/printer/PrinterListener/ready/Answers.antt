use Rattle.std.proofs.Common.{◌∙◌}
use Rattle.std.proofs.lemmas.Result.{on_ok_weaker}
use Rattle.llrp_listing.proofs.OpenListingLemmas.{grown_drop, grown_take, grown_long, ready_opened}
use Rattle.llrp_listing.proofs.printing.printer.PrinterListener.ready.Goals as goal

pub returns : goal.returns
returns c = on_ok_weaker c.push.result
    (λ e was t o. (grown_long c.args.self.now.mark _ _ _ o.0 e, grown_take c.args.self.now.mark _ _ _ o.0 e ∙ o.1, ready_opened t _ _ o.2 (grown_drop c.args.self.now.mark _ _ _ o.0 e)))
    c.push.ensures
