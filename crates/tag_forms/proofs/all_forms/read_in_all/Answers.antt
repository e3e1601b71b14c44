use Rattle.std.proofs.Common.{◌<◌, ◌^◌, Ok, ap, rules}
use Rattle.tag_forms.proofs.AllLemmas.{no_fault_in_forms, one_word_in_all}
use Rattle.tag_forms.proofs.all_forms.read_in_all.Goals as goal

pub returns-in-Ok-clause-accepts : goal.returns-in-Ok-clause-accepts
returns-in-Ok-clause-accepts c = λ word small reads.
    let below : c.in-Ok.word < 2 ^ 96 = search rules in
    ap Ok (one_word_in_all c.args.form c.args.filter c.args.company_digits c.args.text.now c.in-Ok.word word below small c.in-Ok.ensures.ok reads)

pub returns-in-Err-clause-accepts : goal.returns-in-Err-clause-accepts
returns-in-Err-clause-accepts c = λ word small reads. absurd (no_fault_in_forms c.args.form c.args.filter c.args.company_digits c.args.text.now word c.in-Err.fault small reads c.in-Err.ensures.err)
