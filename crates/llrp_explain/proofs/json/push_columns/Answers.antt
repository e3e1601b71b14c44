use Rattle.llrp_explain.proofs.JsonLemmas.{field_text, on_ok}
use Rattle.llrp_explain.proofs.json.push_columns.Goals as goal

pub returns : goal.returns
returns c =
    on_ok c.push_standing.result _ _ c.push_standing.ensures
    (λ e. field_text c.args.json.now.items _ _ _ _ _ _ c.args.columns.now c.cut.result.0.now c.cut.result.1.now c.cut-2.result.0.now c.cut-2.result.1.now c.cut-3.result.0.now c.cut-3.result.1.now c.cut_last.result.0.now c.cut_last.result.1.now c.cut.ensures.front c.cut.ensures.back c.cut-2.ensures.front c.cut-2.ensures.back c.cut-3.ensures.front c.cut-3.ensures.back c.cut_last.ensures.front c.cut_last.ensures.back c.in_ok-push_named.ensures c.in_ok-push_named-2.ensures c.in_ok-push_named_string.ensures c.in_ok-push_named-3.ensures c.in_ok-extend_from_slice.ensures.items e)
