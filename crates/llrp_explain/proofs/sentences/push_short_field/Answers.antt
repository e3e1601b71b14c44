use Rattle.std.proofs.Common.{◌∙◌, ◌++◌, List, ℕ, ap}
use Rattle.std.proofs.lemmas.Result.{on_ok_weaker}
use Rattle.llrp_explain.proofs.PrintedLemmas.{past_three}
use Rattle.llrp_explain.proofs.sentences.push_short_field.Goals as goal

pub returns : goal.returns
returns c = on_ok_weaker c.push_past_end.result (λ e. past_three _ _ _ _ _ _ _ _ c.in_ok-extend_from_slice.ensures.items (c.in_ok-extend_from_slice-2.ensures.items ∙ ap (λ (x : List ℕ). c.extend_from_slice.new.self.items ++ x) c.as_bytes.ensures.value) e) c.push_past_end.ensures
