use Rattle.std.proofs.lemmas.Result.{on_ok_weaker}
use Rattle.llrp_json.proofs.OpenJsonLemmas.{next_in_some}
use Rattle.llrp_json.proofs.printer.JsonPrinterListener.value.Goals as goal

pub returns : goal.returns
returns c = on_ok_weaker c.push_parameter_of_value.result (λ e was t h l nx. e was t h (next_in_some t c.args.kind c.args.value nx)) c.push_parameter_of_value.ensures
