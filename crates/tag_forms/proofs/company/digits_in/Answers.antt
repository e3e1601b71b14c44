use Rattle.std.proofs.Common.{◌≡◌, ◌∙◌, Some, ap, refl, inr, subst, sym}
use Rattle.tag_keys.specs.declared.spelling.Spelling.{Spelling}
use Rattle.tag_forms.specs.Company.{spelling_at, IsFromCompany}
use Rattle.tag_forms.proofs.company.digits_in.Goals as goal

pub returns-in_default-from_company : goal.returns-in_default-from_company
returns-in_default-from_company c =
    inr (
      λ digits h.
          let both : Some c.in-Some.spelling ≡ Some h.0 = c.in-Some.ensures ∙ ap spelling_at c.form_of.ensures ∙ h.1 in
          let same : c.in-Some.spelling ≡ h.0 = cc in
          c.in_default-from_company.ensures.none digits (subst (λ (s : Spelling). IsFromCompany s c.args.text.now digits) (sym same) h.2),
      refl,
    )
