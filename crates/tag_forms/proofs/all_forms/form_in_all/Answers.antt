use Rattle.tag_forms.proofs.AllLemmas.{form_too}
use Rattle.tag_forms.proofs.all_forms.form_in_all.Goals as goal

pub returns-in_default : goal.returns-in_default
returns-in_default c = form_too (λ t. t.bytes) c.args.form c.args.word c.form_beside_tag.result c.in_default.not-Tag c.form_beside_tag.ensures
