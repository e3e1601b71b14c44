use Rattle.std.proofs.Common.{◌≡◌, ◌∙◌, ◌++◌, List, ℕ, ap, rules, subst}
use Rattle.tag_forms.specs.AllAnswers.{AreFormLinesInAll}
use Rattle.llrp_c.specs.Private.Keys.{PutsLines}
use Rattle.llrp_c.specs.Tags.{AreOctetsOf}
use Rattle.llrp_c.proofs.KeyLemmas.{lines_written}
use Rattle.llrp_c.proofs.all_keys.llrp_forms_in_all.Goals as goal

pub returns-clause-forms : goal.returns-clause-forms
returns-clause-forms c = λ twelve.
    let (text, are, joined) = c.in-Ok.ensures in
    let is : AreOctetsOf c.args.word.now c.word_of.result = search rules in
    let same : c.as_slice.result.now ≡ text = c.as_slice.ensures.value ∙ joined ∙ ap (λ (z : List ℕ). z ++ text) c.new-text.ensures.items in
    let puts = subst (λ (t : List ℕ). PutsLines t c.args.lines.now c.put_lines.new.lines c.put_lines.new.written c.put_lines.result) same c.put_lines.ensures in
    lines_written AreFormLinesInAll c.args.word.now c.args.lines.now c.put_lines.new.lines text c.word_of.result c.put_lines.new.written c.put_lines.result is are puts
