use Rattle.tag_forms.proofs.AllLemmas.{no_fault_in_forms, one_text_in_all, one_word_in_all}
use Rattle.tag_forms.proofs.laws.one_form_in_all.Goals as goal

pub returns-clause-same : goal.returns-clause-same
returns-clause-same c = one_text_in_all

pub returns-clause-one : goal.returns-clause-one
returns-clause-one c = one_word_in_all

pub returns-clause-no_fault : goal.returns-clause-no_fault
returns-clause-no_fault c = no_fault_in_forms
