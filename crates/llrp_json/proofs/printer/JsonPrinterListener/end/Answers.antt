use Rattle.std.proofs.Common.{[]}
use Rattle.std.proofs.lemmas.Result.{on_ok_weaker}
use Rattle.llrp_json.proofs.OpenJsonLemmas.{ready_full}
use Rattle.llrp_json.proofs.printer.JsonPrinterListener.end.Goals as goal

pub returns : goal.returns
returns c = on_ok_weaker c.end_line.result (λ e was b m h r is. e was b m h (ready_full b [] r) is) c.end_line.ensures
