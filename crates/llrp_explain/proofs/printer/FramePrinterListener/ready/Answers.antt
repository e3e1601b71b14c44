use Rattle.std.proofs.Common.{ℕ, List, subst}
use Rattle.llrp_explain.specs.Calls.ExplainLines.{tail_lines}
use Rattle.llrp_explain.specs.Calls.Printed.{Adds}
use Rattle.std.proofs.lemmas.Result.{on_ok_weaker}
use Rattle.llrp_explain.proofs.PrinterLemmas.{none_in, some_in}
use Rattle.llrp_explain.proofs.printer.FramePrinterListener.ready.Goals as goal

pub returns-in-None : goal.returns-in-None
returns-in-None c = λ was t o. none_in t c.args.self.now o c.in-None.is

pub returns-in-Some : goal.returns-in-Some
returns-in-Some c = on_ok_weaker c.push_tail.result (λ a was t o. some_in c.in-Some.form _ t c.args.self.now c.push_tail.new.lines o c.in-Some.is c.saturating_sub-level.ensures (subst (λ (os : List ℕ). Adds (tail_lines c.saturating_sub-level.result c.in-Some.form os) c.args.self.now.lines c.push_tail.new.lines) c.as_slice.ensures.value a)) c.push_tail.ensures
