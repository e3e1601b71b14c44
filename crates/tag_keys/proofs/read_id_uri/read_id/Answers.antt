use Rattle.std.proofs.Common.{◌++◌, List, ℕ, sym, ap, ◌∙◌, subst, arith}
use Rattle.tag_uri.specs.TagText.{HasTagFault}
use Rattle.tag_uri.proofs.TextLaws.{begins}
use Rattle.tag_keys.specs.PureIdentity.{id_start}
use Rattle.tag_keys.proofs.IdLaws.{read_id}
use Rattle.tag_keys.proofs.read_id_uri.read_id.Goals as goal

pub returns-in_default-scheme_of-clause-err : goal.returns-in_default-scheme_of-clause-err
returns-in_default-scheme_of-clause-err c = (omega arith, c.in-Some.rest.now, begins id_start c.args.text.now c.in-Some.rest.now c.in-Some.ensures.cases, c.in_default-scheme_of.ensures.none)

pub returns-in-Ok-clause-ok : goal.returns-in-Ok-clause-ok
returns-in-Ok-clause-ok c =
    let named = begins id_start c.args.text.now c.in-Some.rest.now c.in-Some.ensures.cases ∙ ap (λ (x : List ℕ). id_start ++ x) c.in-Some-scheme_of.ensures.some in
    read_id c.args.filter c.in-Ok.parts c.args.text.now c.in-Some-scheme_of.kind c.in-Some-scheme_of.numbers.now c.in-Ok.ensures.lawful c.requires named (sym c.tag_of_id-tag.ensures ∙ sym c.as_str.ensures.value ∙ c.in-Ok.ensures.ok)

pub returns-in-Err-clause-err : goal.returns-in-Err-clause-err
returns-in-Err-clause-err c =
    let named = begins id_start c.args.text.now c.in-Some.rest.now c.in-Some.ensures.cases ∙ ap (λ (x : List ℕ). id_start ++ x) c.in-Some-scheme_of.ensures.some in (
      omega arith,
      c.tag_of_id-tag.result.bytes,
      record { kind = c.in-Some-scheme_of.kind; rest = c.in-Some-scheme_of.numbers.now; named = named; tagged = c.tag_of_id-tag.ensures },
      subst (λ (t : List ℕ). HasTagFault t c.in-Err.fault) c.as_str.ensures.value c.in-Err.ensures.err,
    )
