use Rattle.std.proofs.Common.{◌∙◌, codes}
use Rattle.clap.specs.Words.{found_of}
use Rattle.clap.proofs.WalkLemmas.{one_text-rows}
use Rattle.llrp_words.proofs.ArgumentLemmas.{reads_flag}
use Rattle.llrp_words.proofs.CommandLemmas.{has_flag}
use Rattle.llrp_words.proofs.arguments.epc_words.epc_words.Goals as goal

pub returns-clause-words : goal.returns-clause-words
returns-clause-words c = λ name.
    let forms = one_text-rows (found_of c.args.inner.now) (codes "forms") in
    let list = one_text-rows (found_of c.args.inner.now) (codes "list") in
    let json = one_text-rows (found_of c.args.inner.now) (codes "json") in (
      c.optional_text.ensures name,
      reads_flag _ c.get_flag.result (has_flag _ c.get_flag.result (λ h. c.get_flag.ensures.none (forms ∙ h)) (λ h. c.get_flag.ensures.value (forms ∙ h)) (λ h. c.get_flag.ensures.other (forms ∙ h))) c.requires.0,
      reads_flag _ c.get_flag-2.result (has_flag _ c.get_flag-2.result (λ h. c.get_flag-2.ensures.none (list ∙ h)) (λ h. c.get_flag-2.ensures.value (list ∙ h)) (λ h. c.get_flag-2.ensures.other (list ∙ h))) c.requires.1,
      reads_flag _ c.get_flag-3.result (has_flag _ c.get_flag-3.result (λ h. c.get_flag-3.ensures.none (json ∙ h)) (λ h. c.get_flag-3.ensures.value (json ∙ h)) (λ h. c.get_flag-3.ensures.other (json ∙ h))) c.requires.2,
      c.optional_text-2.ensures name,
      c.company_digits.ensures.number name,
      c.filter.ensures.number name,
      c.optional_text-3.ensures name,
      c.optional_text-4.ensures name,
    )
