use Rattle.std.proofs.Common.{◌++◌, sym, ap, ◌∙◌}
use Rattle.tag_keys.specs.KeyText.{KeyForm}
use Rattle.tag_keys.specs.Private.Forms.{form_in}
use Rattle.tag_keys.proofs.FormLemmas.{same_some}
use Rattle.tag_keys.proofs.key_pieces.after_start.Goals as goal

pub returns-in_default-strip_prefix-clause-none : goal.returns-in_default-strip_prefix-clause-none
returns-in_default-strip_prefix-clause-none c =
    λ form rest e w.
    let same = same_some form (form_in c.in-Some.form) (sym e ∙ c.in-Some.ensures) in
    c.in_default-strip_prefix.ensures.cases rest (w ∙ ap (λ (f : KeyForm). f.start ++ rest) same)
