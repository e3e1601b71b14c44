use Rattle.std.proofs.Common.{◌∙◌, codes}
use Rattle.clap.specs.Words.{found_of}
use Rattle.clap.proofs.WalkLemmas.{one_text-rows}
use Rattle.llrp_words.proofs.CommandLemmas.{has_flag}
use Rattle.llrp_words.proofs.arguments.segment_words.segment_words.Goals as goal

pub returns : goal.returns
returns c = λ name.
    let segments = one_text-rows (found_of c.args.inner.now) (codes "segments") in
    (has_flag _ c.get_flag.result (λ h. c.get_flag.ensures.none (segments ∙ h)) (λ h. c.get_flag.ensures.value (segments ∙ h)) (λ h. c.get_flag.ensures.other (segments ∙ h)), c.optional_text.ensures name)
