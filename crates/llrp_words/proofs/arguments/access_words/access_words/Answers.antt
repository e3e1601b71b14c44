use Rattle.std.proofs.Common.{◌∙◌, codes}
use Rattle.clap.specs.Words.{found_of}
use Rattle.clap.proofs.WalkLemmas.{one_text-rows}
use Rattle.llrp_words.proofs.ArgumentLemmas.{reads_flag}
use Rattle.llrp_words.proofs.CommandLemmas.{has_flag}
use Rattle.llrp_words.proofs.arguments.access_words.access_words.Goals as goal

pub returns : goal.returns
returns c = λ name.
    let verify = one_text-rows (found_of c.args.inner.now) (codes "verify") in
    let json = one_text-rows (found_of c.args.inner.now) (codes "json") in (
      c.tag.ensures name,
      c.optional_text.ensures name,
      c.optional_text-2.ensures name,
      reads_flag _ c.get_flag.result (has_flag _ c.get_flag.result (λ h. c.get_flag.ensures.none (verify ∙ h)) (λ h. c.get_flag.ensures.value (verify ∙ h)) (λ h. c.get_flag.ensures.other (verify ∙ h))) c.requires.1,
      c.optional_number.ensures name,
      c.optional_number-2.ensures name,
      c.optional_number-3.ensures name,
      reads_flag _ c.get_flag-2.result (has_flag _ c.get_flag-2.result (λ h. c.get_flag-2.ensures.none (json ∙ h)) (λ h. c.get_flag-2.ensures.value (json ∙ h)) (λ h. c.get_flag-2.ensures.other (json ∙ h))) c.requires.5,
    )
