use Rattle.std.proofs.Common.{◌≤◌, arith}
use Rattle.std.proofs.lemmas.Result.{on_ok_weaker}
use Rattle.llrp_json.specs.Private.StandardNames.{standard_chain}
use Rattle.llrp_json.proofs.OpenJsonLemmas.{ready_closed}
use Rattle.llrp_json.proofs.StandardTrees.{closed_chain, closed_node, length_chain}
use Rattle.llrp_json.proofs.standard_printer.StandardPrinterListener.close.Goals as goal

pub returns : goal.returns
returns c =
    let deep = c.requires.1.told.deep in
    let two : 2 ≤ c.args.self.now.printer.depth = omega (arith, deep) in
    on_ok_weaker c.close_parameter.result
    (λ e was t h r. rw (closed_chain t) (e was (standard_chain t) h (closed_node t (ready_closed t r (let d = h.deep in omega (arith, two, length_chain t))))))
    c.close_parameter.ensures
