use Rattle.std.proofs.lemmas.Result.{on_ok_weaker}
use Rattle.llrp_schema.specs.Calls.Schema.{field_rule}
use Rattle.llrp_explain.proofs.PrinterLemmas.{field_in}
use Rattle.llrp_explain.proofs.printer.FramePrinterListener.field.Goals as goal

pub returns : goal.returns
returns c = on_ok_weaker c.number.result (λ a was t o nx. field_in _ c.args.value _ (field_rule c.args.rule.now) t c.args.self.now c.number.new.self o c.saturating_sub-level.ensures c.as_bytes.ensures.value nx a) c.number.ensures
