use Rattle.std.proofs.Common.{List, Some, refl, subst}
use Rattle.tag_forms.specs.declared.prefixes.Entry.{Entry}
use Rattle.tag_forms.specs.Prefixes.{IsLongest}
use Rattle.tag_forms.proofs.prefixes.Prefixes.company_digits.Goals as goal

pub returns-in-Some : goal.returns-in-Some
returns-in-Some c = (c.in-Some.entry, subst (λ (entries : List Entry). IsLongest entries c.args.digits.now (Some c.in-Some.entry)) c.as_slice.ensures.value c.in-Some.ensures, refl)
