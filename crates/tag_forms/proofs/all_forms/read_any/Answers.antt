use Rattle.tag_forms.proofs.AllLemmas.{reads_too, refuses_too}
use Rattle.tag_forms.proofs.all_forms.read_any.Goals as goal

pub returns-in_default : goal.returns-in_default
returns-in_default c = record {
  ok = reads_too c.args.form c.args.filter c.args.company_digits c.args.text.now c.read_beside_tag.result c.in_default.not-Tag c.read_beside_tag.ensures.ok;
  err = refuses_too c.args.form c.args.filter c.args.company_digits c.args.text.now c.read_beside_tag.result c.in_default.not-Tag c.read_beside_tag.ensures.err;
}
