use Rattle.std.proofs.Common.{◌≤◌, arith}
use Rattle.std.proofs.lemmas.Result.{on_ok_weaker}
use Rattle.llrp_json.proofs.OpenJsonLemmas.{ready_closed}
use Rattle.llrp_json.proofs.printer.JsonPrinterListener.close.Goals as goal

pub close_parameter-requires : goal.close_parameter-requires
close_parameter-requires c = let deep = c.requires.1.told.deep in omega (arith, deep)

pub returns : goal.returns
returns c =
    let deep = c.requires.1.told.deep in
    let two : 2 ≤ c.args.self.now.depth = omega (arith, deep) in
    on_ok_weaker c.close_parameter.result (λ e was t h r. e was t h (ready_closed t r (let d = h.deep in omega (arith, two)))) c.close_parameter.ensures
