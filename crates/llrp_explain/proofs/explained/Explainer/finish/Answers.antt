use Rattle.std.proofs.Common.{ap, ◌∙◌, ◌&&◌, Bool}
use Rattle.llrp_explain.proofs.ExplainedLemmas.{explained_whole}
use Rattle.llrp_explain.proofs.explained.Explainer.finish.Goals as goal

pub returns : goal.returns
returns c = λ stream taken s.
    explained_whole c.args.self stream taken c.push_end.new.text.items c.finish-end.result c.both.result s c.finish-end.ensures.stands c.finish-end.ensures.broken c.in_ok-push_end.ensures (c.both.ensures ∙ ap (λ (b : Bool). c.args.self.lawful && b) c.is_clean.ensures)
