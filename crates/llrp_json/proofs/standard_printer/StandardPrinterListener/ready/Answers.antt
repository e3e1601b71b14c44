use Rattle.std.proofs.lemmas.Result.{on_ok_weaker}
use Rattle.llrp_json.specs.Private.StandardNames.{standard_chain}
use Rattle.llrp_json.proofs.standard_printer.StandardPrinterListener.ready.Goals as goal

pub returns : goal.returns
returns c = on_ok_weaker c.ready.result (λ e was t a. e was (standard_chain t) a.0) c.ready.ensures
