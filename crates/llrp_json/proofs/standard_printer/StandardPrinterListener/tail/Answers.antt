use Rattle.std.proofs.Common.{[]}
use Rattle.std.proofs.lemmas.Result.{on_ok_weaker}
use Rattle.llrp_json.specs.Private.StandardNames.{standard_chain}
use Rattle.llrp_json.proofs.StandardTrees.{octets_chain, rows_in_tail, tail_next}
use Rattle.llrp_json.proofs.standard_printer.StandardPrinterListener.tail.Goals as goal

pub returns : goal.returns
returns c = on_ok_weaker c.tail.result (λ e was t a nx. (rw (octets_chain [] t) (e was (standard_chain t) a.0 (tail_next t c.args.form nx)), rows_in_tail [] t _ a.1)) c.tail.ensures
