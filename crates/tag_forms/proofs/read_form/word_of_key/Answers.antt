use Rattle.std.proofs.Common.{◌<◌, ◌^◌, ℕ, Option, Ok, Some, ap, sym, subst, rules}
use Rattle.tag_epc.specs.LawfulWord.{IsLawfulEpc}
use Rattle.tag_keys.proofs.KeyLaws.{no_key_fault}
use Rattle.tag_forms.specs.declared.fault.FormFault.TheVariants as fault
use Rattle.tag_forms.specs.Forms.{ReadsKeyOf}
use Rattle.tag_forms.specs.Faults.{HasFaultAsKey}
use Rattle.tag_forms.proofs.FormLemmas.{one_key_word}
use Rattle.tag_forms.proofs.read_form.word_of_key.Goals as goal

pub returns-in-Ok-clause-err : goal.returns-in-Ok-clause-err
returns-in-Ok-clause-err c =
    let lawful : IsLawfulEpc c.in-Ok.field-0 = search rules in
    subst (λ (o : Option ℕ). HasFaultAsKey c.args.spelling c.args.filter o c.args.text.now fault.Prefix) (sym c.in_default.is)
    (λ f h. no_key_fault c.args.spelling c.in-Ok.field-0 c.args.filter 7 c.args.text.now f lawful c.in-Ok.ensures.asked.0 c.in-Ok.ensures.asked.1 c.in-Ok.ensures.ok h)

pub returns-in-Ok-parse_key-clause-accepts : goal.returns-in-Ok-parse_key-clause-accepts
returns-in-Ok-parse_key-clause-accepts c = λ word small reads.
    let below : c.to_word.result < 2 ^ 96 = search rules in
    let own : ReadsKeyOf c.args.spelling c.args.filter (Some c.in-Some.count) c.args.text.now c.to_word.result = (c.in-Ok-parse_key.epc, c.to_word.ensures, c.in-Ok-parse_key.ensures.asked.0, c.in-Ok-parse_key.ensures.asked.1, c.in-Ok-parse_key.ensures.ok) in
    ap Ok (one_key_word c.args.spelling c.args.filter (Some c.in-Some.count) c.args.text.now c.to_word.result word below small own (subst (λ (o : Option ℕ). ReadsKeyOf c.args.spelling c.args.filter o c.args.text.now word) c.in-Some.is reads))
