use Rattle.std.proofs.Common.{[]}
use Rattle.std.proofs.lemmas.Result.{on_ok_weaker}
use Rattle.llrp_json.specs.JsonNames.{in_standard}
use Rattle.llrp_json.specs.Private.StandardNames.{standard_node}
use Rattle.llrp_json.proofs.OpenJsonLemmas.{ready_full}
use Rattle.llrp_json.proofs.StandardTrees.{full_node, whole_message}
use Rattle.llrp_json.proofs.standard_printer.StandardPrinterListener.end.Goals as goal

pub returns : goal.returns
returns c =
    on_ok_weaker c.end_line.result
    (λ e was b m h r is. e was (standard_node b) (in_standard m) h (full_node b (ready_full b [] r)) (whole_message b.head b.fields b.tail b.children m is))
    c.end_line.ensures
