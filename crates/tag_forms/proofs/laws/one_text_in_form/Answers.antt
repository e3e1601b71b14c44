use Rattle.tag_forms.proofs.FormLemmas.{one_text, text_reads}
use Rattle.tag_forms.proofs.laws.one_text_in_form.Goals as goal

pub returns-clause-same : goal.returns-clause-same
returns-clause-same c = one_text

pub returns-clause-reads : goal.returns-clause-reads
returns-clause-reads c = text_reads
