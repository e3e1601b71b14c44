use Rattle.std.proofs.Common.{◌∙◌, sym}
use Rattle.std.proofs.lemmas.Result.{on_ok_weaker}
use Rattle.llrp_listing.proofs.TailLemmas.{word_alone, word_after}
use Rattle.llrp_listing.proofs.printing.tails.push_word.Goals as goal

pub returns-then-last-eq119 : goal.returns-then-last-eq119
returns-then-last-eq119 c = on_ok_weaker c.push_number.result (λ e. word_alone c.args.high c.args.low _ _ (sym c.last.ensures ∙ c.if-last-eq119.true) e) c.push_number.ensures

pub returns : goal.returns
returns c = on_ok_weaker c.push_number-2.result (λ e. word_after c.args.high c.args.low _ _ _ (λ is. c.if-last-eq119.false (c.last.ensures ∙ is)) c.in_ok-push.ensures e) c.push_number-2.ensures
