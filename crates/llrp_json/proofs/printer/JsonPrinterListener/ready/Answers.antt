use Rattle.std.proofs.lemmas.Result.{on_ok_weaker}
use Rattle.llrp_json.proofs.OpenJsonLemmas.{ready_holds}
use Rattle.llrp_json.proofs.printer.JsonPrinterListener.ready.Goals as goal

pub returns : goal.returns
returns c = on_ok_weaker c.push_tail_end.result (λ e was t a. ready_holds _ _ _ _ _ _ _ was t a e) c.push_tail_end.ensures
