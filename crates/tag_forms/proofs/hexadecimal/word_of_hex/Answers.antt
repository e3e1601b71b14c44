use Rattle.std.proofs.Common.{ap, ◌∙◌}
use Rattle.tag_forms.specs.Hexadecimal.{kept_digits}
use Rattle.tag_forms.proofs.HexLemmas.{no_word}
use Rattle.tag_forms.proofs.hexadecimal.word_of_hex.Goals as goal

pub returns-in_default-clause-none : goal.returns-in_default-clause-none
returns-in_default-clause-none c = λ word h.
    no_word c.args.text.now c.without_mark.result.now word c.without_mark.ensures.digits c.without_mark.ensures.only (λ n e. c.in_default.ensures.none n (ap kept_digits c.as_bytes.ensures.value ∙ e)) h
