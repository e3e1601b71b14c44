use Rattle.std.proofs.Common.{ℕ, List, sym, subst}
use Rattle.std.specs.Prelude.{MatchOption}
use Rattle.tag_forms.specs.declared.form.Form.{Form}
use Rattle.tag_forms.specs.FurtherForms.{IsFurtherTextIn}
use Rattle.tag_forms.proofs.further_text.further_text.Goals as goal

pub returns-in-Pure : goal.returns-in-Pure
returns-in-Pure c = subst (λ (f : Form). MatchOption c.id_text.result ((text : List ℕ) → IsFurtherTextIn f c.args.word text → ⊥) (λ text. IsFurtherTextIn f c.args.word text.bytes)) (sym c.in-Pure.is) c.id_text.ensures

pub returns-in-Element : goal.returns-in-Element
returns-in-Element c = subst (λ (f : Form). MatchOption c.key_text.result ((text : List ℕ) → IsFurtherTextIn f c.args.word text → ⊥) (λ text. IsFurtherTextIn f c.args.word text.bytes)) (sym c.in-Element.is) c.key_text.ensures

pub returns-in-Link : goal.returns-in-Link
returns-in-Link c = subst (λ (f : Form). MatchOption c.key_text-in-Link.result ((text : List ℕ) → IsFurtherTextIn f c.args.word text → ⊥) (λ text. IsFurtherTextIn f c.args.word text.bytes)) (sym c.in-Link.is) c.key_text-in-Link.ensures

pub returns-in-Key : goal.returns-in-Key
returns-in-Key c = subst (λ (f : Form). MatchOption c.key_text-in-Key.result ((text : List ℕ) → IsFurtherTextIn f c.args.word text → ⊥) (λ text. IsFurtherTextIn f c.args.word text.bytes)) (sym c.in-Key.is) c.key_text-in-Key.ensures
