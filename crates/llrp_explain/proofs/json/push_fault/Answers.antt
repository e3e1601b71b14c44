use Rattle.llrp_explain.proofs.JsonLemmas.{fault_object}
use Rattle.llrp_explain.proofs.PrintedLemmas.{on_written}
use Rattle.llrp_explain.proofs.json.push_fault.Goals as goal

pub returns : goal.returns
returns c =
    on_written c.extend_from_slice.result _ _ _ _ c.extend_from_slice.ensures.items
    (λ e. fault_object c.args.json.now.items _ _ _ _ _ c.args.line.now c.skip.result.now c.cut.result.0.now c.cut.result.1.now c.skip-2.result.now c.cut-2.result.0.now c.cut-2.result.1.now c.skip-3.result.now c.cut-3.result.0.now c.cut-3.result.1.now c.skip-4.result.now c.skip.ensures c.cut.ensures.front c.cut.ensures.back c.skip-2.ensures c.cut-2.ensures.front c.cut-2.ensures.back c.skip-3.ensures c.cut-3.ensures.front c.cut-3.ensures.back c.skip-4.ensures c.in_ok-push_named.ensures c.in_ok-push_named-2.ensures c.in_ok-push_named_string.ensures c.in_ok-push_named_string-2.ensures e)
