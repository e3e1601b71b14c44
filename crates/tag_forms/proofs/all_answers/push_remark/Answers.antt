use Rattle.std.proofs.Common.{[], refl, sym, subst, inl}
use Rattle.std.proofs.lemmas.List.{append-nil}
use Rattle.tag_forms.specs.declared.form.Form.{Form}
use Rattle.tag_forms.specs.AllAnswers.{IsRemarkInAll}
use Rattle.tag_forms.proofs.all_answers.push_remark.Goals as goal

pub returns-in-None : goal.returns-in-None
returns-in-None c = ([], subst (λ (f : Form). IsRemarkInAll f c.args.word []) (sym c.in-Tag.is) (inl (c.in-None.ensures.none, refl)), sym (append-nil c.args.answers.now.items))
