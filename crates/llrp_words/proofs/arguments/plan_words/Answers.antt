use Rattle.std.proofs.Common.{◌∙◌, codes}
use Rattle.clap.specs.Words.{found_of}
use Rattle.clap.proofs.WalkLemmas.{one_text-rows}
use Rattle.llrp_words.proofs.ArgumentLemmas.{reads_flag}
use Rattle.llrp_words.proofs.CommandLemmas.{has_flag}
use Rattle.llrp_words.proofs.arguments.plan_words.Goals as goal

pub returns : goal.returns
returns c = λ name.
    let check = one_text-rows (found_of c.args.inner.now) (codes "check") in
    let clean = one_text-rows (found_of c.args.inner.now) (codes "clean") in
    let json = one_text-rows (found_of c.args.inner.now) (codes "json") in
    let kinds = one_text-rows (found_of c.args.inner.now) (codes "all") in (
      c.optional_text.ensures name,
      c.optional_number.ensures name,
      c.optional_number-2.ensures name,
      c.optional_number-3.ensures name,
      reads_flag _ c.get_flag.result (has_flag _ c.get_flag.result (λ h. c.get_flag.ensures.none (check ∙ h)) (λ h. c.get_flag.ensures.value (check ∙ h)) (λ h. c.get_flag.ensures.other (check ∙ h))) c.requires.3,
      reads_flag _ c.get_flag-2.result (has_flag _ c.get_flag-2.result (λ h. c.get_flag-2.ensures.none (clean ∙ h)) (λ h. c.get_flag-2.ensures.value (clean ∙ h)) (λ h. c.get_flag-2.ensures.other (clean ∙ h))) c.requires.4,
      reads_flag _ c.get_flag-3.result (has_flag _ c.get_flag-3.result (λ h. c.get_flag-3.ensures.none (json ∙ h)) (λ h. c.get_flag-3.ensures.value (json ∙ h)) (λ h. c.get_flag-3.ensures.other (json ∙ h))) c.requires.5,
      reads_flag _ c.get_flag-4.result (has_flag _ c.get_flag-4.result (λ h. c.get_flag-4.ensures.none (kinds ∙ h)) (λ h. c.get_flag-4.ensures.value (kinds ∙ h)) (λ h. c.get_flag-4.ensures.other (kinds ∙ h))) c.requires.6,
    )
