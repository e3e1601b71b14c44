use Rattle.std.proofs.lemmas.Result.{on_ok_weaker}
use Rattle.llrp_json.specs.Private.StandardNames.{standard_chain}
use Rattle.llrp_json.proofs.StandardTrees.{octets_chain, rows_in_tail, tail_goes_on}
use Rattle.llrp_json.proofs.standard_printer.StandardPrinterListener.octets.Goals as goal

pub returns : goal.returns
returns c =
    let octets = c.args.octets.now in
    on_ok_weaker c.octets.result (λ e was t a nx. (rw (octets_chain octets t) (e was (standard_chain t) a.0 (tail_goes_on t c.args.form nx)), rows_in_tail octets t _ a.1)) c.octets.ensures
