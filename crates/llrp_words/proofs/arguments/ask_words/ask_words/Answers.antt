use Rattle.std.proofs.Common.{◌∙◌, codes}
use Rattle.clap.specs.Words.{found_of}
use Rattle.clap.proofs.WalkLemmas.{one_text-rows}
use Rattle.llrp_words.proofs.ArgumentLemmas.{reads_flag}
use Rattle.llrp_words.proofs.CommandLemmas.{has_flag}
use Rattle.llrp_words.proofs.arguments.ask_words.ask_words.Goals as goal

pub returns : goal.returns
returns c = λ name.
    let json = one_text-rows (found_of c.args.inner.now) (codes "json") in
    let on = one_text-rows (found_of c.args.inner.now) (codes "go-on") in
    let raw = one_text-rows (found_of c.args.inner.now) (codes "raw") in (
      c.file.ensures name,
      reads_flag _ c.get_flag.result (has_flag _ c.get_flag.result (λ h. c.get_flag.ensures.none (json ∙ h)) (λ h. c.get_flag.ensures.value (json ∙ h)) (λ h. c.get_flag.ensures.other (json ∙ h))) c.requires.1,
      c.optional_number.ensures name,
      reads_flag _ c.get_flag-2.result (has_flag _ c.get_flag-2.result (λ h. c.get_flag-2.ensures.none (on ∙ h)) (λ h. c.get_flag-2.ensures.value (on ∙ h)) (λ h. c.get_flag-2.ensures.other (on ∙ h))) c.requires.3,
      reads_flag _ c.get_flag-3.result (has_flag _ c.get_flag-3.result (λ h. c.get_flag-3.ensures.none (raw ∙ h)) (λ h. c.get_flag-3.ensures.value (raw ∙ h)) (λ h. c.get_flag-3.ensures.other (raw ∙ h))) c.requires.4,
    )
