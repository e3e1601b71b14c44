use Rattle.std.proofs.Common.{◌∙◌, ap, inl, inr, refl}
use Rattle.llrp_c.specs.Status.{code_of}
use Rattle.llrp_c.proofs.reports.llrp_tags.Goals as goal

pub returns-in-Err : goal.returns-in-Err
returns-in-Err c = elim c.in-Err.ensures [
  | inl f ↦ inr (inr (inl (f.0, f.1, f.2, refl, refl, c.code.ensures ∙ ap code_of f.3)))
  | inr rest ↦ elim rest [
    | inl f ↦ inr (inr (inr (inl (f.0, refl, refl, c.code.ensures ∙ ap code_of f.1))))
    | inr e ↦ inr (inr (inr (inr (refl, refl, c.code.ensures ∙ ap code_of e))))
  ]
]
