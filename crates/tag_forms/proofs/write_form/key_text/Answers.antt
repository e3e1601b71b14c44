use Rattle.tag_forms.proofs.FormLemmas.{key_or_none}
use Rattle.tag_forms.proofs.write_form.key_text.Goals as goal

pub returns-in-Ok : goal.returns-in-Ok
returns-in-Ok c = key_or_none (λ t. t.bytes) c.args.spelling c.args.word c.in-Ok.epc c.print_key.result c.in-Ok.ensures.ok c.print_key.ensures.some c.print_key.ensures.none
