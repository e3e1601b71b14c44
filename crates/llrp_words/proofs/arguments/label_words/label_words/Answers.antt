use Rattle.std.proofs.Common.{◌∙◌, codes}
use Rattle.clap.specs.Words.{found_of}
use Rattle.clap.proofs.WalkLemmas.{one_text-rows}
use Rattle.llrp_words.proofs.CommandLemmas.{has_flag}
use Rattle.llrp_words.proofs.arguments.label_words.label_words.Goals as goal

pub returns : goal.returns
returns c = λ name.
    let keys = one_text-rows (found_of c.args.inner.now) (codes "keys") in
    (has_flag _ c.get_flag.result (λ h. c.get_flag.ensures.none (keys ∙ h)) (λ h. c.get_flag.ensures.value (keys ∙ h)) (λ h. c.get_flag.ensures.other (keys ∙ h)), c.optional_text.ensures name)
