use Rattle.std.proofs.Common.{◌*◌}
use Rattle.llrp_json.proofs.OpenJsonLemmas.{message_awaits}
use Rattle.llrp_json.proofs.printer.JsonPrinterListener.message.Goals as goal

pub returns : goal.returns
returns c = λ was h.
    message_awaits c.args.self.now.mark c.args.self.now.depth c.args.self.now.is_parent c.args.self.now.has_words _ _ was c.args.version c.args.kind c.args._octets c.args.id (8 * c.args._octets) h
    (c.in_ok-push_message.ensures c.args._octets)
