use Rattle.std.proofs.Common.{[], refl, sym, inr}
use Rattle.std.proofs.lemmas.List.{append-nil}
use Rattle.tag_forms.proofs.all_answers.push_form.Goals as goal

pub returns-in_default : goal.returns-in_default
returns-in_default c = ([], inr (c.in_default.ensures, refl), sym (append-nil c.args.lines.now.items))
