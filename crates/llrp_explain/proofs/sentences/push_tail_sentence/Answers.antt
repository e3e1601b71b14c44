use Rattle.std.proofs.Common.{◌∙◌, ◌++◌, List, ℕ, ap}
use Rattle.llrp_explain.proofs.PrintedLemmas.{on_written}
use Rattle.llrp_explain.proofs.RefusedParts.{tail_default}
use Rattle.llrp_explain.proofs.sentences.push_tail_sentence.Goals as goal

pub returns-in_default : goal.returns-in_default
returns-in_default c = on_written c.extend_from_slice.result _ _ _ _ c.extend_from_slice.ensures.items (λ e. e ∙ ap (λ (x : List ℕ). c.args.text.now.items ++ x) (tail_default c.args.reason c.args.form c.args.kind c.args.stop c.args.at c.args.count c.in_default.not-Short c.in_default.not-Count))
