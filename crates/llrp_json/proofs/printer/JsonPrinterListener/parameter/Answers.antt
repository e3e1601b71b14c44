use Rattle.std.proofs.Common.{◌*◌}
use Rattle.std.proofs.lemmas.Result.{on_ok_weaker}
use Rattle.llrp_json.proofs.printer.JsonPrinterListener.parameter.Goals as goal

pub returns : goal.returns
returns c = on_ok_weaker c.open_parameter.result (λ e was t h holds level kind chain. e was t h (8 * c.args._stop) holds kind) c.open_parameter.ensures
