use Rattle.llrp_json.proofs.OpenJsonLemmas.{tail_awaits}
use Rattle.llrp_json.proofs.printer.JsonPrinterListener.tail.Goals as goal

pub returns : goal.returns
returns c = λ was t a nx. tail_awaits _ _ _ _ _ _ _ was t c.args.form a nx c.in_ok-push_tail.ensures
