use Rattle.llrp_json.proofs.OpenJsonLemmas.{end_holds}
use Rattle.llrp_json.proofs.printer.JsonPrinter.end_line.Goals as goal

pub returns : goal.returns
returns c = λ was b m h r e. end_holds _ _ _ _ _ _ was b m _ h r e c.in_ok-push_end.ensures c.in_ok-push_text.ensures c.len-self.ensures
