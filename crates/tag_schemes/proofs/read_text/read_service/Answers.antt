use Rattle.std.proofs.Common.{List, ℕ, refl, sym, ap, subst, ◌∙◌}
use Rattle.std.specs.List.{join_with_byte}
use Rattle.tag_epc.specs.declared.epc.Parts.{Parts}
use Rattle.tag_epc.specs.LawfulWord.{kind_of_parts}
use Rattle.tag_uri.specs.TagText.{components_of, HasTagFault}
use Rattle.tag_schemes.proofs.TextFacts.{service_text, service_parts}
use Rattle.tag_schemes.proofs.read_text.read_service.Goals as goal

pub service_of-requires-clause-kind : goal.service_of-requires-clause-kind
service_of-requires-clause-kind c =
    let named = service_text _ _ _ c.as_str.result.now c.args.rest.now _ c.new-text.ensures refl c.push_str.ensures.bytes c.push_str-2.ensures.bytes c.as_str.ensures.value in
    ap kind_of_parts c.parts.ensures.parts ∙ (service_parts c.in-Ok.epc c.as_str.result.now c.args.rest.now named c.in-Ok.ensures.ok).0

pub returns-in-Ok-clause-ok : goal.returns-in-Ok-clause-ok
returns-in-Ok-clause-ok c =
    let named = service_text _ _ _ c.as_str.result.now c.args.rest.now _ c.new-text.ensures refl c.push_str.ensures.bytes c.push_str-2.ensures.bytes c.as_str.ensures.value in
    (service_parts c.in-Ok.epc c.as_str.result.now c.args.rest.now named c.in-Ok.ensures.ok).1 ∙ ap (λ (p : Parts). join_with_byte 46 (components_of p)) (sym c.parts.ensures.parts) ∙ ap (join_with_byte 46) (sym c.service_of.ensures.components)

pub returns-in-Err-clause-err : goal.returns-in-Err-clause-err
returns-in-Err-clause-err c =
    let named = service_text _ _ _ c.as_str.result.now c.args.rest.now _ c.new-text.ensures refl c.push_str.ensures.bytes c.push_str-2.ensures.bytes c.as_str.ensures.value in
    subst (λ (t : List ℕ). HasTagFault t c.in-Err.fault) named c.in-Err.ensures.err
