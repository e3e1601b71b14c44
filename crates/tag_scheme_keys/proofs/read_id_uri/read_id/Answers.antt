use Rattle.std.proofs.Common.{◌++◌, List, ℕ, sym, ap, ◌∙◌, subst, arith}
use Rattle.tag_uri.proofs.TextLaws.{begins}
use Rattle.tag_schemes.specs.Texts.{HasFaultIn}
use Rattle.tag_keys.specs.PureIdentity.{id_start}
use Rattle.tag_scheme_keys.proofs.IdLaws.{read_id_in, id_room}
use Rattle.tag_scheme_keys.proofs.read_id_uri.read_id.Goals as goal

pub numbers_with-requires : goal.numbers_with-requires
numbers_with-requires c =
    let named = begins id_start c.args.text.now c.in-Some.rest.now c.in-Some.ensures.cases ∙ ap (λ (x : List ℕ). id_start ++ x) c.in-Some-scheme_named.ensures.some in
    record { room = id_room c.args.filter c.args.text.now c.as_str.result.now _ c.in-Some-scheme_named.numbers.now c.in-Some-scheme_named.scheme named (omega arith) c.with_filter-components.ensures.text c.as_str.ensures.value }

pub returns-in-Ok-clause-ok : goal.returns-in-Ok-clause-ok
returns-in-Ok-clause-ok c =
    let named = begins id_start c.args.text.now c.in-Some.rest.now c.in-Some.ensures.cases ∙ ap (λ (x : List ℕ). id_start ++ x) c.in-Some-scheme_named.ensures.some in
    read_id_in c.args.filter c.in-Ok.epc c.args.text.now c.in-Some-scheme_named.numbers.now c.in-Some-scheme_named.scheme c.in-Ok.ensures.lawful c.requires named c.in-Ok.ensures.scheme (sym c.with_filter-components.ensures.text ∙ sym c.as_str.ensures.value ∙ c.in-Ok.ensures.ok)

pub returns-in-Err-clause-err : goal.returns-in-Err-clause-err
returns-in-Err-clause-err c =
    let named = begins id_start c.args.text.now c.in-Some.rest.now c.in-Some.ensures.cases ∙ ap (λ (x : List ℕ). id_start ++ x) c.in-Some-scheme_named.ensures.some in
    (omega arith, c.in-Some-scheme_named.scheme, c.in-Some-scheme_named.numbers.now, named, subst (λ (x : List ℕ). HasFaultIn c.in-Some-scheme_named.scheme x c.in-Err.fault) (c.as_str.ensures.value ∙ c.with_filter-components.ensures.text) c.in-Err.ensures.err)

pub returns-in_default-scheme_named-clause-err : goal.returns-in_default-scheme_named-clause-err
returns-in_default-scheme_named-clause-err c = (omega arith, c.in-Some.rest.now, begins id_start c.args.text.now c.in-Some.rest.now c.in-Some.ensures.cases, c.in_default-scheme_named.ensures.none)
