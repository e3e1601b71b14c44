use Rattle.std.proofs.Common.{ℕ, ◌++◌, List, ap, ◌∙◌}
use Rattle.llrp_schema.specs.Calls.Schema.{field_rule}
use Rattle.std.proofs.lemmas.Result.{on_ok_weaker}
use Rattle.llrp_explain.proofs.RefusedNodes.{field_value, field_text}
use Rattle.llrp_explain.proofs.refusals.push_next_field.Goals as goal

pub returns : goal.returns
returns c = on_ok_weaker c.push_field_fault.result
    (λ f b outer rest n d. f rest (field_value c.args.place.node c.args.place.depth c.args.place.at c.args.octets.now c.args.fault b outer rest n (field_rule c.args.rule.now) c.handed-value.result d c.handed-value.ensures.value) ∙ ap (λ (y : List ℕ). c.args.text.now.items ++ y) (field_text c.args.place.node c.args.place.depth c.args.place.at c.args.octets.now c.args.fault b outer rest n (field_rule c.args.rule.now) d))
    c.push_field_fault.ensures
