use Rattle.llrp_json.proofs.OpenJsonLemmas.{value_holds}
use Rattle.llrp_json.proofs.printer.JsonPrinter.push_parameter_of_value.Goals as goal

pub returns : goal.returns
returns c = λ was t h some. value_holds _ _ _ _ _ _ was t c.args.kind c.args.value c.in_ok-push_value_parameter.ensures.0 h some c.in_ok-push_value_parameter.ensures.1 c.in_ok-push_separator.ensures c.in_ok-push_value_parameter.ensures.2
