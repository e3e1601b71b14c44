use Rattle.std.proofs.Common.{◌*◌, ◌∙◌}
use Rattle.std.proofs.lemmas.Result.{on_ok_weaker}
use Rattle.llrp_listing.proofs.OpenListingLemmas.{grown_drop, grown_take, grown_long, message_begins}
use Rattle.llrp_listing.proofs.printing.printer.PrinterListener.message.Goals as goal

pub returns : goal.returns
returns c = on_ok_weaker c.push_header.result
    (λ e was o. (grown_long c.args.self.now.mark _ _ _ o.0 e, grown_take c.args.self.now.mark _ _ _ o.0 e ∙ o.1, message_begins c.args.version c.args.kind c.args._octets c.args.id (8 * c.args._octets) _ _ o.2 (grown_drop c.args.self.now.mark _ _ _ o.0 e)))
    c.push_header.ensures
