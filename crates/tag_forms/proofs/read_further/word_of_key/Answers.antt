use Rattle.std.proofs.Common.{ℕ, List, Option, refl, sym, subst}
use Rattle.tag_scheme_keys.specs.KeyFaults.{HasKeyFaultIn}
use Rattle.tag_scheme_keys.proofs.KeyFaultLaws.{no_key_fault_in}
use Rattle.tag_forms.specs.declared.fault.FormFault.TheVariants as fault
use Rattle.tag_forms.specs.FurtherFaults.{HasFurtherKeyFault}
use Rattle.tag_forms.proofs.read_further.word_of_key.Goals as goal

pub returns-in-Ok-clause-err : goal.returns-in-Ok-clause-err
returns-in-Ok-clause-err c = (
  c.requires.begins,
  fault.Prefix,
  subst (λ (o : Option ℕ). HasFurtherKeyFault c.args.spelling c.args.filter o c.args.text.now fault.Prefix) (sym c.in_default.is)
      (λ f h. no_key_fault_in c.args.spelling c.in-Ok.field-0 c.args.filter 7 f c.in-Ok.ensures.lawful c.in-Ok.ensures.asked.0 c.in-Ok.ensures.asked.1 (subst (λ (t : List ℕ). HasKeyFaultIn c.args.spelling c.args.filter 7 t f) c.in-Ok.ensures.ok h)),
  refl,
)
