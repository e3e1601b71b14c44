use Rattle.std.proofs.Common.{ap, ◌∙◌}
use Rattle.std.specs.List.{join_with_byte}
use Rattle.tag_epc.specs.declared.epc.Parts.{Parts}
use Rattle.tag_uri.specs.TagText.{components_of}
use Rattle.tag_keys.specs.PureIdentity.{id_components}
use Rattle.tag_keys.proofs.BuildLemmas.{named, numbers_again, id_written}
use Rattle.tag_keys.proofs.write_id_uri.print_id.Goals as goal

pub numbers_of-numbers-requires : goal.numbers_of-numbers-requires
numbers_of-numbers-requires c = (join_with_byte 46 (components_of c.args.epc.now), named c.args.epc.now c.kind-kind.result c.as_str.result.now c.kind-kind.ensures (c.as_str.ensures.value ∙ c.print-tag.ensures))

pub without_filter-rest-requires-clause-numbers : goal.without_filter-rest-requires-clause-numbers
without_filter-rest-requires-clause-numbers c =
    let e = c.parts-parts.ensures.parts in
    numbers_again c.parts-parts.result c.kind-kind.result c.as_str.result.now c.numbers_of-numbers.result.now c.parts-parts.ensures.lawful (rw (← e) at (c.as_str.ensures.value ∙ c.print-tag.ensures)) c.numbers_of-numbers.ensures

pub returns : goal.returns
returns c =
    id_written c.args.epc.now c.kind-kind.result _ _ _ _ _ c.id_name.result.now c.without_filter-rest.result.now c.new-text.ensures c.push_str.ensures.bytes c.push_str-2.ensures.bytes c.push_str-3.ensures.bytes c.push_str-4.ensures.bytes
    c.id_name.ensures c.kind-kind.ensures (c.without_filter-rest.ensures.joined ∙ ap (λ (p : Parts). join_with_byte 46 (id_components p)) c.parts-parts.ensures.parts)
