use Rattle.std.proofs.Common.{sym, ◌∙◌}
use Rattle.llrp_answers.proofs.FileLemmas.{bad_line, no_line, other_line}
use Rattle.llrp_answers.proofs.file.first_form.Goals as goal

pub returns-in_default : goal.returns-in_default
returns-in_default c = no_line c.args.text.now c.requires c.in_default.ensures

pub returns-in_default-after_mark : goal.returns-in_default-after_mark
returns-in_default-after_mark c = other_line c.args.text.now c.in-Some.line.now c.in-Some.after.now c.in-Some.ensures c.in_default-after_mark.ensures

pub returns-in-Some-form_refusal : goal.returns-in-Some-form_refusal
returns-in-Some-form_refusal c = bad_line c.args.text.now c.in-Some.line.now c.in-Some-after_mark.form.now c.in-Some.after.now c.in-Some-form_refusal.reason c.in-Some.ensures c.in-Some-after_mark.ensures (sym c.form_refusal.ensures ∙ c.in-Some-form_refusal.is)
