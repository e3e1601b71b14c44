use Rattle.std.proofs.lemmas.Result.{on_ok_weaker}
use Rattle.llrp_explain.proofs.PrintedLemmas.{past_five}
use Rattle.llrp_explain.proofs.sentences.push_too_long.Goals as goal

pub returns : goal.returns
returns c = on_ok_weaker c.push_past_end.result (λ e. past_five _ _ _ _ _ _ _ _ _ _ _ _ c.in_ok-extend_from_slice.ensures.items c.in_ok-push_digits.ensures c.in_ok-extend_from_slice-2.ensures.items c.in_ok-push_digits-2.ensures e) c.push_past_end.ensures
