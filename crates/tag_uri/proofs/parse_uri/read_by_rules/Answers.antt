use Rattle.std.proofs.Common.{◌++◌, List, ℕ, ap, ◌∙◌}
use Rattle.tag_uri.specs.TagText.{tag_start}
use Rattle.tag_uri.proofs.TextLaws.{begins, wrong_components, right_components}
use Rattle.tag_uri.proofs.parse_uri.read_by_rules.Goals as goal

pub returns-in_default-scheme_of-clause-err : goal.returns-in_default-scheme_of-clause-err
returns-in_default-scheme_of-clause-err c = (c.in-Some.rest.now, begins tag_start c.args.text.now c.in-Some.rest.now c.in-Some.ensures.cases, c.in_default-scheme_of.ensures.none)

pub returns-in-Ok-clause-ok : goal.returns-in-Ok-clause-ok
returns-in-Ok-clause-ok c =
    right_components c.args.text.now c.in-Some-scheme_of.kind c.in-Some-scheme_of.rest.now c.in-Ok.parts
    (begins tag_start c.args.text.now c.in-Some.rest.now c.in-Some.ensures.cases ∙ ap (λ (x : List ℕ). tag_start ++ x) c.in-Some-scheme_of.ensures.some) c.in-Ok.ensures.kind c.in-Ok.ensures.ok

pub returns-in-Err-clause-err : goal.returns-in-Err-clause-err
returns-in-Err-clause-err c =
    wrong_components c.args.text.now c.in-Some-scheme_of.kind c.in-Some-scheme_of.rest.now c.in-Err.fault
    (begins tag_start c.args.text.now c.in-Some.rest.now c.in-Some.ensures.cases ∙ ap (λ (x : List ℕ). tag_start ++ x) c.in-Some-scheme_of.ensures.some) c.in-Err.ensures.err
