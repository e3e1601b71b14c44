use Rattle.std.proofs.Common.{ℕ, ◌++◌, List, ap, ◌∙◌}
use Rattle.std.proofs.lemmas.Result.{on_ok_weaker}
use Rattle.llrp_explain.proofs.RefusedNodes.{utf8_text}
use Rattle.llrp_explain.proofs.refusals.push_refusal.Goals as goal

pub returns-in-Utf8-clause-utf8 : goal.returns-in-Utf8-clause-utf8
returns-in-Utf8-clause-utf8 c = on_ok_weaker c.push_utf8_fault.result (λ f is b outer rest e. f ∙ ap (λ (y : List ℕ). c.args.text.now.items ++ y) (utf8_text b outer c.args.fault.bit c.args.fault.reason rest is e)) c.push_utf8_fault.ensures

pub returns-in-Utf8-clause-other : goal.returns-in-Utf8-clause-other
returns-in-Utf8-clause-other c = on_ok_weaker c.push_utf8_fault.result (λ f not. absurd (not c.in-Utf8.is)) c.push_utf8_fault.ensures

pub returns-in_default-clause-utf8 : goal.returns-in_default-clause-utf8
returns-in_default-clause-utf8 c = on_ok_weaker c.push_stopped.result (λ f is. absurd (c.in_default.not-Utf8 is)) c.push_stopped.ensures

pub returns-in_default-clause-other : goal.returns-in_default-clause-other
returns-in_default-clause-other c = on_ok_weaker c.push_stopped.result (λ f not b outer rest n d m. f b outer rest n d m not) c.push_stopped.ensures
