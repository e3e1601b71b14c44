use Rattle.tag_forms.proofs.FormLemmas.{one_word_read}
use Rattle.tag_forms.proofs.laws.one_word_in_form.Goals as goal

pub returns : goal.returns
returns c = one_word_read
