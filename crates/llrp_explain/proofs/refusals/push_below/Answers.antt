use Rattle.std.proofs.Common.{ℕ, ◌++◌, List, subst, ap, ◌∙◌}
use Rattle.llrp_schema.specs.declared.kinds.Kind.{Kind}
use Rattle.llrp_schema.specs.Schema.{groups_of}
use Rattle.llrp_stream.specs.Calls.Reading.{AreSeen}
use Rattle.std.proofs.lemmas.Result.{on_ok_weaker}
use Rattle.llrp_explain.proofs.RefusedNodes.{missing_text, extra_text}
use Rattle.llrp_explain.proofs.refusals.push_below.Goals as goal

pub returns-in-Missing : goal.returns-in-Missing
returns-in-Missing c = on_ok_weaker c.push_missing_fault.result (λ f b outer rest n d. f b.children (subst (λ (k : Kind). AreSeen (groups_of k) b.children c.args.place.node.seen.bits) n.level.kind n.level.seen) ∙ ap (λ (y : List ℕ). c.args.text.now.items ++ y) (missing_text c.args.place.node c.args.place.depth c.args.place.at c.args.octets.now c.args.fault b outer rest n d c.in-Missing.is)) c.push_missing_fault.ensures

pub returns-in-Extra : goal.returns-in-Extra
returns-in-Extra c = on_ok_weaker c.push_extra_fault.result (λ f b outer rest n d. f ∙ ap (λ (y : List ℕ). c.args.text.now.items ++ y) (extra_text c.args.place.node c.args.place.depth c.args.place.at c.args.octets.now c.args.fault b outer rest n d c.in-Extra.is)) c.push_extra_fault.ensures

pub returns-in_default : goal.returns-in_default
returns-in_default c = on_ok_weaker c.push_child_fault.result (λ f b outer rest n d. f b outer rest n d c.in_default.not-Missing c.in_default.not-Extra) c.push_child_fault.ensures
