use Rattle.llrp_json.proofs.OpenJsonLemmas.{close_holds}
use Rattle.llrp_json.proofs.printer.JsonPrinter.close_parameter.Goals as goal

pub returns : goal.returns
returns c = λ was t h r. close_holds _ _ _ _ _ was t h c.requires r c.in_ok-push_end.ensures
