use Rattle.tag_forms.proofs.FormLemmas.{one_form_fault}
use Rattle.tag_forms.proofs.laws.one_fault_in_form.Goals as goal

pub returns : goal.returns
returns c = one_form_fault
