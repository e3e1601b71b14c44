use Rattle.std.proofs.Common.{◌*◌, refl}
use Rattle.std.proofs.lemmas.Result.{on_ok_weaker}
use Rattle.llrp_explain.proofs.PrinterLemmas.{message_begun}
use Rattle.llrp_explain.proofs.printer.FramePrinterListener.message.Goals as goal

pub returns : goal.returns
returns c = on_ok_weaker c.push_header.result (λ a was st. (message_begun c.args.version c.args.octets c.args.id (8 * c.args.octets) c.args.kind c.begin.new.self c.push_header.new.lines c.begin.ensures.text c.begin.ensures.bit c.begin.ensures.kind a, refl, refl, refl)) c.push_header.ensures
