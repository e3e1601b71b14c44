use Rattle.std.proofs.Common.{◌∙◌, codes}
use Rattle.clap.specs.Words.{found_of}
use Rattle.clap.proofs.WalkLemmas.{one_text-rows}
use Rattle.llrp_words.proofs.ArgumentLemmas.{reads_flag}
use Rattle.llrp_words.proofs.CommandLemmas.{has_flag}
use Rattle.llrp_words.proofs.arguments.sim_words.sim_words.Goals as goal

pub returns : goal.returns
returns c = λ name.
    let all = one_text-rows (found_of c.args.inner.now) (codes "all") in
    let ready = one_text-rows (found_of c.args.inner.now) (codes "ready") in
    let keep = one_text-rows (found_of c.args.inner.now) (codes "keep") in (
      c.number.ensures name,
      reads_flag _ c.get_flag.result (has_flag _ c.get_flag.result (λ h. c.get_flag.ensures.none (all ∙ h)) (λ h. c.get_flag.ensures.value (all ∙ h)) (λ h. c.get_flag.ensures.other (all ∙ h))) c.requires.1,
      c.optional_text.ensures name,
      c.optional_number.ensures name,
      c.optional_text-2.ensures name,
      c.optional_text-3.ensures name,
      reads_flag _ c.get_flag-2.result (has_flag _ c.get_flag-2.result (λ h. c.get_flag-2.ensures.none (ready ∙ h)) (λ h. c.get_flag-2.ensures.value (ready ∙ h)) (λ h. c.get_flag-2.ensures.other (ready ∙ h))) c.requires.3,
      reads_flag _ c.get_flag-3.result (has_flag _ c.get_flag-3.result (λ h. c.get_flag-3.ensures.none (keep ∙ h)) (λ h. c.get_flag-3.ensures.value (keep ∙ h)) (λ h. c.get_flag-3.ensures.other (keep ∙ h))) c.requires.4,
    )
