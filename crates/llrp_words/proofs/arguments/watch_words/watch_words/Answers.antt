use Rattle.std.proofs.Common.{◌∙◌, codes}
use Rattle.clap.specs.Words.{found_of}
use Rattle.clap.proofs.WalkLemmas.{one_text-rows}
use Rattle.llrp_words.proofs.ArgumentLemmas.{reads_flag}
use Rattle.llrp_words.proofs.CommandLemmas.{has_flag}
use Rattle.llrp_words.proofs.arguments.watch_words.watch_words.Goals as goal

pub returns-clause-words : goal.returns-clause-words
returns-clause-words c = λ name.
    let text = one_text-rows (found_of c.args.inner.now) (codes "text") in
    let verbose = one_text-rows (found_of c.args.inner.now) (codes "verbose") in
    let messages = one_text-rows (found_of c.args.inner.now) (codes "messages") in (
      c.optional_text.ensures name,
      c.optional_long_count.ensures name,
      c.optional_number.ensures name,
      c.optional_number-2.ensures name,
      c.optional_number-3.ensures name,
      reads_flag _ c.get_flag.result (has_flag _ c.get_flag.result (λ h. c.get_flag.ensures.none (text ∙ h)) (λ h. c.get_flag.ensures.value (text ∙ h)) (λ h. c.get_flag.ensures.other (text ∙ h))) c.requires.4,
      c.optional_text-2.ensures name,
      c.longest.ensures.number name,
      c.optional_text-3.ensures name,
      reads_flag _ c.get_flag-2.result (has_flag _ c.get_flag-2.result (λ h. c.get_flag-2.ensures.none (verbose ∙ h)) (λ h. c.get_flag-2.ensures.value (verbose ∙ h)) (λ h. c.get_flag-2.ensures.other (verbose ∙ h))) c.requires.6,
      c.optional_long_count-2.ensures name,
      c.optional_text-4.ensures name,
      c.optional_text-5.ensures name,
      reads_flag _ c.get_flag-3.result (has_flag _ c.get_flag-3.result (λ h. c.get_flag-3.ensures.none (messages ∙ h)) (λ h. c.get_flag-3.ensures.value (messages ∙ h)) (λ h. c.get_flag-3.ensures.other (messages ∙ h))) c.requires.8,
      c.optional_text-6.ensures name,
      (reads_flag _ c.label_words.result.keys (c.label_words.ensures name).0 c.requires.9, (c.label_words.ensures name).1),
    )
