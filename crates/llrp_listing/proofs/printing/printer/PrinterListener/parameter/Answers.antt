use Rattle.std.proofs.Common.{◌∙◌, ◌*◌}
use Rattle.std.proofs.lemmas.Result.{on_ok_weaker}
use Rattle.llrp_listing.proofs.OpenListingLemmas.{grown_drop, grown_take, grown_long, parameter_begins}
use Rattle.llrp_listing.proofs.printing.printer.PrinterListener.parameter.Goals as goal

pub returns : goal.returns
returns c = on_ok_weaker c.push_start.result
    (λ e was t h o l k chain. (grown_long c.args.self.now.mark _ _ _ o.0 e, grown_take c.args.self.now.mark _ _ _ o.0 e ∙ o.1, parameter_begins h c.args.kind (8 * c.args._stop) c.args.level t _ _ o.2 l k (grown_drop c.args.self.now.mark _ _ _ o.0 e)))
    c.push_start.ensures
