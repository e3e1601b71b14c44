use Rattle.std.proofs.Common.{◌<◌, ◌^◌, Ok, ap, subst, rules}
use Rattle.tag_forms.specs.declared.form.Form.{Form}
use Rattle.tag_forms.specs.declared.form.Form.TheVariants.{Tag, Pure, Hex}
use Rattle.tag_forms.specs.Forms.{ReadsAs}
use Rattle.tag_forms.proofs.FormLemmas.{one_word_read}
use Rattle.tag_forms.proofs.read_form.word_in.Goals as goal

pub returns-in-Ok-clause-accepts : goal.returns-in-Ok-clause-accepts
returns-in-Ok-clause-accepts c = λ word small reads.
    let below : c.in-Ok.word < 2 ^ 96 = search rules in
    ap Ok (one_word_read Tag c.args.filter c.args.company_digits c.args.text.now c.in-Ok.word word below small c.in-Ok.ensures.ok (subst (λ (f : Form). ReadsAs f c.args.filter c.args.company_digits c.args.text.now word) c.in-Tag.is reads))

pub returns-in-Ok-parse_id-clause-accepts : goal.returns-in-Ok-parse_id-clause-accepts
returns-in-Ok-parse_id-clause-accepts c = λ word small reads.
    let below : c.to_word.result < 2 ^ 96 = search rules in
    ap Ok (one_word_read Pure c.args.filter c.args.company_digits c.args.text.now c.to_word.result word below small (c.in-Ok-parse_id.epc, c.to_word.ensures, c.in-Ok-parse_id.ensures.ok.1, c.in-Ok-parse_id.ensures.ok.0) (subst (λ (f : Form). ReadsAs f c.args.filter c.args.company_digits c.args.text.now word) c.in-Pure.is reads))

pub returns-in-Some-clause-accepts : goal.returns-in-Some-clause-accepts
returns-in-Some-clause-accepts c = λ word small reads.
    let below : c.in-Some.word < 2 ^ 96 = search rules in
    ap Ok (one_word_read Hex c.args.filter c.args.company_digits c.args.text.now c.in-Some.word word below small c.in-Some.ensures.some (subst (λ (f : Form). ReadsAs f c.args.filter c.args.company_digits c.args.text.now word) c.in-Hex.is reads))

pub returns-in-Err-clause-accepts : goal.returns-in-Err-clause-accepts
returns-in-Err-clause-accepts c = λ word small reads.
    let taken = c.in-Err.ensures.accepts word small (subst (λ (f : Form). ReadsAs f c.args.filter c.args.company_digits c.args.text.now word) c.in-Tag.is reads) in
    let refused = c.in-Err.is in
    cc
