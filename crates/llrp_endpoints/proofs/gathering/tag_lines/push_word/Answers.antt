use Rattle.std.proofs.Common.{◌≡◌, ◌∙◌, ◌++◌, ◌<◌, ◌^◌, ap, subst, arith, List, ℕ}
use Rattle.std.proofs.lemmas.Result.{on_ok_weaker}
use Rattle.tag_uri.specs.TagText.{IsTextOf}
use Rattle.tag_uri.proofs.UriLemmas.{text_at_start}
use Rattle.llrp_schema.specs.Schema.{fields_of, rule_of, param_rule}
use Rattle.llrp_endpoints.proofs.gathering.tag_lines.push_word.Goals as goal

pub unreachable-requires : goal.unreachable-requires
unfolding fields_of rule_of param_rule
unreachable-requires c =
    let below : c.field.result < 2 ^ 96 = omega (arith, c.field.ensures.fits) in
    let there = c.in_default.ensures.some.1 below in
    cc

pub returns : goal.returns
returns c =
    let word : c.in-Some.word ≡ c.field.result = c.in-Some.ensures.number in
    let t = c.put_text_of_word-end.ensures.text in
    on_ok_weaker c.push_text.result
    (λ e. (t.0, subst (λ (n : ℕ). IsTextOf n t.0) (word ∙ c.field.ensures.value) t.1, e ∙ ap (λ (x : List ℕ). c.args.text.now ++ x) (text_at_start _ _ _ _ t.2)))
    c.push_text.ensures
