use Rattle.std.proofs.Common.{refl}
use Rattle.llrp_listing.proofs.PrintingLemmas.{words_more}
use Rattle.llrp_json.proofs.values.push_other_words.Goals as goal

pub loop-rest-init : goal.loop-rest-init
loop-rest-init c = refl

pub loop-rest-preserved : goal.loop-rest-preserved
loop-rest-preserved c =
    words_more _ _ _ _ c.loop-rest.rest.now c.in-len2-up.len_at_least c.loop-rest.invariant c.in_ok-push_text.ensures c.in_ok-push_word.ensures
