use Rattle.std.proofs.Common.{◌++◌, ◌∙◌, ap}
use Rattle.std.proofs.lemmas.Result.{on_ok_weaker}
use Rattle.llrp_json.proofs.ValueLemmas.{bits_begun, data_begun}
use Rattle.llrp_json.proofs.printer.push_tail.Goals as goal

pub returns-in-Bits : goal.returns-in-Bits
returns-in-Bits c = on_ok_weaker c.push_text-in-Bits.result (λ e. e ∙ ap (λ x. c.args.text.now ++ x) (bits_begun c.args.form c.in-Bits.is)) c.push_text-in-Bits.ensures

pub returns-in-Data : goal.returns-in-Data
returns-in-Data c = on_ok_weaker c.push_text-in-Data.result (λ e. e ∙ ap (λ x. c.args.text.now ++ x) (data_begun c.args.form c.in-Data.is)) c.push_text-in-Data.ensures
