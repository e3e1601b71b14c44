use Rattle.std.proofs.Common.{◌++◌, ◌∙◌, Bool, ap, sym}
use Rattle.std.proofs.lemmas.Result.{on_ok_weaker}
use Rattle.llrp_listing.proofs.PrintingLemmas.{words_begun}
use Rattle.llrp_json.specs.Private.OpenJson.{words_after}
use Rattle.llrp_json.proofs.values.push_words.Goals as goal

pub returns : goal.returns
returns c =
    on_ok_weaker c.push_other_words-2.result
    (λ e. e ∙ words_begun _ _ c.args.octets.now c.in-len2-up.len_at_least c.in_ok-push_word.ensures ∙ ap (λ (b : Bool). c.args.text.now ++ words_after b c.args.octets.now) (sym c.if-some.false))
    c.push_other_words-2.ensures
